-- `get_path`: after each step the rest of the path leads to what all of it does (`PathLeadsTo`),
-- and stays in the bytes of the first container (`is_in_step`).
use Rattle.std.proofs.Common.{◌≡◌, ◌<◌, ℕ, zero, suc, List, [], ◌∷◌, ◌++◌, length, drop, get_or, Option, Some, None, refl, sym, ap, ◌∙◌, subst, arith, append_assoc, append-nil, drop-cons}
use Rattle.std.specs.Prelude.{option_and_then}
use Rattle.std.specs.Borrow.{Bor}
use Rattle.std.specs.Int.{w32, to_be_bytes}
use Rattle.amqp_value_core.specs.declared.types.amqp_type.AMQPType.{AMQPType}
use Rattle.amqp_value_core.specs.declared.types.amqp_type.AMQPType.TheVariants as amqp
use Rattle.amqp_value_core.specs.Values.{Tree, Entries}
use Rattle.amqp_value_core.specs.Grammar.{TableBody}
use Rattle.amqp_value_core.specs.Maps.{last_at}
use Rattle.amqp_value_core.proofs.GrammarLaws.{rising_mean}
use Rattle.amqp_in_place.specs.declared.refs.TableRef.{TableRef}
use Rattle.amqp_in_place.specs.declared.refs.ValueRef.{ValueRef}
use Rattle.amqp_in_place.specs.declared.refs.ValueRef.TheVariants as at
use Rattle.amqp_in_place.specs.declared.path.PathStep.{PathStep}
use Rattle.amqp_in_place.specs.declared.path.PathStep.TheVariants as step
use Rattle.amqp_in_place.specs.declared.path.EqualKeys.{EqualKeys}
use Rattle.amqp_in_place.specs.declared.path.EqualKeys.TheVariants as equal
use Rattle.amqp_in_place.specs.Refs.{array_body, table_body, Denotes}
use Rattle.amqp_in_place.specs.Walks.{FoundBy, FoundIs}
use Rattle.amqp_in_place.specs.Places.{IsFramed, IsViewIn, IsViewWithin}
use Rattle.amqp_in_place.proofs.Places.{view_parts}
use Rattle.amqp_in_place.specs.Lookups.{value_of_pair, at_step, at_path, StepsTo, LeadsTo, content}

-- ---- one step

-- the last pair's value is that of the map
pub last_found : (of : EqualKeys) (k : Bor (List ℕ)) (b : TableRef) (result : Option ValueRef) → of ≡ equal.Last
    → ((ps : Entries) → TableBody (table_body b) ps → FoundIs (value_of_pair of k.now ps) result) → (v : Tree) → Denotes (at.FieldTable b) v → FoundIs (at_step of (step.Key k) v) result
last_found of k b result is found v (es, (ps, p, mean), e) =
    let same : last_at k.now ps ≡ last_at k.now es = sym (mean.last k.now) ∙ (rising_mean es mean.rising).last k.now in
    let here = subst (λ (o : Option Tree). FoundIs o result) same (subst (λ (o : EqualKeys). FoundIs (value_of_pair o k.now ps) result) is (found ps p)) in
    subst (λ (u : Tree). FoundIs (at_step of (step.Key k) u) result) (sym e) (subst (λ (o : EqualKeys). FoundIs (value_of_pair o k.now es) result) (sym is) here)

-- ---- the path

-- the rest of the path leads from here to what the path leads to from r
abbrev pub PathLeadsTo : (ValueRef → Tree → Type 0) → EqualKeys → List PathStep → List PathStep → ValueRef → ValueRef → Type 0
PathLeadsTo Is of path left r here = (t : Tree) → Is r t → (u : Tree) × Is here u × (at_path of path t ≡ at_path of left u)

module _ (Is : ValueRef → Tree → Type 0) (of : EqualKeys) (path : List PathStep) (r : ValueRef) where
  -- a step that finds something
  follows-step : (s : PathStep) (left : List PathStep) (here next : ValueRef) → PathLeadsTo Is of path (s ∷ left) r here
      → ((u : Tree) → Is here u → FoundBy Is (at_step of s u) (Some next)) → PathLeadsTo Is of path left r next
  follows-step s left here next before found = λ t is.
      let x = before t is in
      by (at_step of s x.0) (found x.0 x.1) x.2
    where
      by : {o : Option Tree} (found : Option Tree) → FoundBy Is found (Some next) → o ≡ option_and_then (at_path of left) found → (u : Tree) × Is next u × (o ≡ at_path of left u)
      by None y e = absurd y
      by (Some u) y e = (u, y, e)

  pub follows-next : (i j : ℕ) (d : PathStep) (here next : ValueRef) → i < length path → j ≡ suc i → PathLeadsTo Is of path (drop i path) r here
      → ((u : Tree) → Is here u → FoundBy Is (at_step of (get_or path i d) u) (Some next)) → PathLeadsTo Is of path (drop j path) r next
  follows-next i j d here next few after before found =
      let s = get_or path i d in
      let first = subst (λ (left : List PathStep). PathLeadsTo Is of path left r here) (drop-cons path i d few) before in
      subst (λ (n : ℕ). PathLeadsTo Is of path (drop n path) r next) (sym after) (follows-step s (drop (suc i) path) here next first found)

-- the rest of the path leads from here to the views to which the path leads from r
abbrev pub PathLeadsToView : EqualKeys → List PathStep → List PathStep → ValueRef → ValueRef → Type 0
PathLeadsToView of path left r here = (end : ValueRef) → LeadsTo of left here end → LeadsTo of path r end

pub leads-next : (of : EqualKeys) (path : List PathStep) (r : ValueRef) (i j : ℕ) (d : PathStep) (here next : ValueRef) → i < length path → j ≡ suc i → PathLeadsToView of path (drop i path) r here
    → StepsTo of (get_or path i d) here next → PathLeadsToView of path (drop j path) r next
leads-next of path r i j d here next few after before steps = λ end x.
    let there = subst (λ (n : ℕ). LeadsTo of (drop n path) next end) after x in
    before end (subst (λ (left : List PathStep). LeadsTo of left here end) (sym (drop-cons path i d few)) (next, steps, there))

-- ---- the bytes that it is in

-- what is in a part of some bytes is in them
is_in_before_more : (s more rest : List ℕ) (r : ValueRef) → IsViewIn s r rest → IsViewIn (s ++ more) r (rest ++ more)
is_in_before_more s more rest r x =
    let (w, e, view) = view_parts s r rest x in
    subst (λ (t : List ℕ). IsViewIn t r (rest ++ more)) (sym (ap (λ (t : List ℕ). t ++ more) e ∙ append_assoc w rest more)) (view (rest ++ more))

within_part : (before part after : List ℕ) (r : ValueRef) → IsViewWithin part r → IsViewWithin (before ++ (part ++ after)) r
within_part before part after r (ahead, tail, rest, e, x) = (
  before ++ ahead,
  tail ++ after,
  rest ++ after,
  ap (λ (t : List ℕ). before ++ (t ++ after)) e ∙ (ap (λ (t : List ℕ). before ++ t) (append_assoc ahead tail after) ∙ sym (append_assoc before ahead (tail ++ after))),
  is_in_before_more tail after rest r x,
)

-- what is in a container that is in some bytes is in them
is_in_deeper : (s : List ℕ) (r q : ValueRef) → IsViewWithin s r → IsViewWithin (content r) q → IsViewWithin s q
is_in_deeper s r q x y = by r x y
  where
    inside : (type : AMQPType) (b before after rest : List ℕ) → s ≡ before ++ after → IsFramed type after b rest → IsViewWithin b q → IsViewWithin s q
    inside type b before after rest e f z =
        let prefix = f.0 ∷ to_be_bytes w32 (length b) in
        let parts : s ≡ (before ++ prefix) ++ (b ++ rest) =
        e ∙ (ap (λ (t : List ℕ). before ++ t) (f.3 ∙ ap (λ (t : List ℕ). f.0 ∷ t) (append_assoc (to_be_bytes w32 (length b)) b rest)) ∙ sym (append_assoc before prefix (b ++ rest))) in
        subst (λ (t : List ℕ). IsViewWithin t q) (sym parts) (within_part (before ++ prefix) b rest q z)

    by : (r : ValueRef) → IsViewWithin s r → IsViewWithin (content r) q → IsViewWithin s q
    by (at.FieldArray a) (before, after, rest, e, f) z = inside amqp.FieldArray (array_body a) before after rest e f z
    by (at.FieldTable t) (before, after, rest, e, f) z = inside amqp.FieldTable (table_body t) before after rest e f z
    by _ x z = subst (λ (t : List ℕ). IsViewWithin t q) (append-nil s) (within_part s [] [] q z)

-- so is what a path leads to, of which i steps were taken
pub is_in_step : (i : ℕ) (r here next : ValueRef) → (i ≡ 0 → here ≡ r) → (0 < i → IsViewWithin (content r) here) → IsViewWithin (content here) next → IsViewWithin (content r) next
is_in_step zero r here next start within x = subst (λ (q : ValueRef). IsViewWithin (content q) next) (start refl) x
is_in_step (suc i) r here next start within x = is_in_deeper (content r) here next (within (omega arith)) x
