-- `place_of_key` returns where the pair with the key begins: the loop returns at the first, or
-- keeps the last until no bytes are left.
use Rattle.std.proofs.Common.{◌≡◌, ◌<◌, Bool, true, false, cond, length, Some, sym, ap, ◌∙◌, arith}
use Rattle.std.proofs.lemmas.Grind.{common_steps}
use Rattle.std.specs.Cmp.Lexicographic.{bytes_decides}
use Rattle.amqp_value_core.specs.Maps.{same_bytes}
use Rattle.amqp_in_place.proofs.Searches.{differ, no_key, search_start, search_step, search_first, search_cut, search_end}
use Rattle.amqp_in_place.proofs.search.place_of_key.Goals as goal
use Rattle.amqp_in_place.proofs.search.place_of_key.Goals.{then-eq+else-first_key, else-eq}

pub pairs-init : goal.pairs-init
pairs-init c = search_start c.args.first_key c.args.key.now c.args.pairs.now

pub returns-in_default : goal.returns-in_default
returns-in_default c =
    let left = c.pairs.left.now in
    let some : 0 < length left = grind (arith, common_steps) in
    λ w x. let (u, there) = c.pairs.invariant.left_by w x in no_key c.args.first_key c.args.key.now left u c.in_default.ensures some there

pub returns-then-first_key : goal.returns-then-first_key
returns-then-first_key c =
    let x = c.in-Some in
    let same = (bytes_decides c.args.key.now x.name.now).0 (sym c.eq.ensures ∙ c.if-eq.true) in
    search_first c.args.first_key c.args.key.now c.args.pairs.now c.pairs.left.now x.name.now x.value c.pairs.at x.ensures.0 c.pairs.invariant c.if-first_key.true same

pub returns-in_default-after_value : goal.returns-in_default-after_value
returns-in_default-after_value c =
    let x = c.in-Some in
    search_cut c.args.first_key c.args.key.now c.args.pairs.now c.pairs.left.now x.name.now x.value c.pairs.at x.ensures.0 c.pairs.invariant c.in_default-after_value.ensures

pub pairs-preserved : goal.pairs-preserved
pairs-preserved c =
    let key = c.args.key.now in
    let all = c.args.pairs.now in
    let left = c.pairs.left.now in
    let x = c.in-Some in
    let rest = c.in-Some-after_value.later.now in
    let is = c.in-Some-after_value.ensures in
    let made : c.if-eq.at ≡ cond (same_bytes key x.name.now) (Some x.value) c.pairs.at = elim c.if-eq.branch [
      | then-eq+else-first_key w ↦ w.at-is ∙ ap (λ (b : Bool). cond b (Some x.value) c.pairs.at) (sym w.if-eq.true ∙ c.eq.ensures)
      | else-eq w ↦ w.at-is ∙ ap (λ (b : Bool). cond b (Some x.value) c.pairs.at) (sym w.if-eq.false ∙ c.eq.ensures)
    ] in
    let other : c.args.first_key ≡ true → x.name.now ≡ key → ⊥ = elim c.if-eq.branch [
      | then-eq+else-first_key w ↦ λ first _. let both : true ≡ false = sym first ∙ w.if-first_key.false in absurd cc
      | else-eq w ↦ λ _. differ key x.name.now (sym c.eq.ensures ∙ w.if-eq.false)
    ] in
    search_step c.args.first_key key all left x.name.now x.value c.pairs.at x.ensures.0 c.pairs.invariant rest c.if-eq.at other is.1 is.0 made

pub returns : goal.returns
returns c =
    let none : length c.pairs.left.now ≡ 0 = grind (arith, common_steps) in
    search_end c.args.first_key c.args.key.now c.args.pairs.now c.pairs.left.now c.pairs.at c.pairs.invariant none
