-- `first_pair` gives the entry of the first pair, or no pair is there: the key is after its length
-- in one byte, and the value after the key.
use Rattle.std.proofs.Common.{◌≡◌, ◌+◌, ◌<◌, ◌∷◌, drop, get_or, length, length-drop, ap, refl, arith}
use Rattle.std.proofs.lemmas.Grind.{common_steps}
use Rattle.amqp_c.specs.declared.span.Span.{Span}
use Rattle.amqp_c.specs.Entries.{part}
use Rattle.amqp_c.proofs.Parts.{part_length}
use Rattle.amqp_c.proofs.Steps.{pair_given, pair_cut, key_is_in, stands_keyed}
use Rattle.amqp_c.proofs.cursor.first_pair.Goals as goal

pub returns-then-left-length-clause-pair : goal.returns-then-left-length-clause-pair
returns-then-left-length-clause-pair c = λ ps some all.
    let s = c.args.bytes.now in
    let whole = part_length s c.args.left c.requires.left in
    let n : c.from-length.result ≡ get_or (part s c.args.left) 0 0 = grind (arith, common_steps) in
    absurd (omega (arith, key_is_in (part s c.args.left) ps all (omega arith)))

pub returns-clause-pair : goal.returns-clause-pair
returns-clause-pair c = λ ps some all.
    let s = c.args.bytes.now in
    let n : c.from-length.result ≡ get_or (part s c.args.left) 0 0 = grind (arith, common_steps) in
    pair_given s c.args.left c.from-length.result c.first_of.result c.requires.left some n (rw c.rest_after.ensures at c.first_of.ensures.entry) ps all

pub returns-clause-stands : goal.returns-clause-stands
returns-clause-stands c =
    let s = c.args.bytes.now in
    let left = c.args.left in
    let n = c.from-length.result in
    let whole = part_length s left c.requires.left in
    let key : Span = record { offset = left.offset + 1; length = n } in
    let e : part s left ≡ n ∷ drop 1 (part s left) = grind (arith, common_steps) in
    stands_keyed s (drop 1 (part s left)) left key n c.first_of.result c.requires.left e (omega (arith, ap length e, length-drop 1 (part s left))) refl c.first_of.ensures.key
    (rw c.rest_after.ensures at c.first_of.ensures.value)

pub returns-clause-cut : goal.returns-clause-cut
returns-clause-cut c =
    let s = c.args.bytes.now in
    let left = c.args.left in
    let n : c.from-length.result ≡ get_or (part s left) 0 0 = grind (arith, common_steps) in
    let e : part s left ≡ c.from-length.result ∷ drop 1 (part s left) = grind (arith, common_steps) in
    let some : 0 < left.length = omega (arith, ap length e, part_length s left c.requires.left) in
    pair_cut s left c.from-length.result c.first_of.result c.requires.left some n c.first_of.result (rw c.rest_after.ensures at c.first_of.ensures.cut)
