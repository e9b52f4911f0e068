-- Copies: keys ascend, so each copied entry goes after those before it. A container that needs no
-- allocation is empty, so copying it doesn't fail.
use Rattle.std.proofs.Common.{◌≡◌, [], ◌∷◌, ◌++◌, refl, sym, ap, ◌∙◌, subst, append_assoc}
use Rattle.std.specs.Cmp.Lexicographic.{slice_cmp}
use Rattle.std.specs.List.Sorted.{IsStrictlySortedBy}
use Rattle.std.specs.Map.{keys_of}
use Rattle.std.specs.Ordering.{nat_cmp}
use Rattle.amqp_value_core.proofs.Copies.{StoredPair, put_at_the_end, table_again, no_items_in, no_pairs_in}
use Rattle.amqp_value_core.proofs.conversions.copies.+copies.Goals as goal

pub copy-returns-in_ok-copy_entries-in-FieldTable :
    goal.copy-returns-in_ok-copy_entries-in-FieldTable
copy-returns-in_ok-copy_entries-in-FieldTable t c =
    record {
      same = table_again c.args.value.now c.in-FieldTable.t c.in_ok-copy_entries-in-FieldTable.field-0 c.inner.result.now.entries c.in-FieldTable.is c.inner.ensures c.in_ok-copy_entries-in-FieldTable.ensures.same;
      light = λ light. refl;
    }

-- the next entry is copied after those so far
pub copy_entries-loop-key-preserved : goal.copy_entries-loop-key-preserved
copy_entries-loop-key-preserved t c =
    let l = c.loop-key in
    let done = l.invariant.0 in
    let e : StoredPair = (c.in-Some.key.now, c.in-Some.item.now) in
    let left = c.next.new.self in
    let all : c.args.map.now.entries ≡ done ++ e ∷ left = l.invariant.1 ∙ ap (λ es. done ++ es) c.in-Some.ensures.steps in
    let last = put_at_the_end done e left (subst (λ es. IsStrictlySortedBy (slice_cmp nat_cmp) (keys_of es)) all c.iter-key-items.ensures.ordered) in (
      done ++ e ∷ [],
      all ∙ sym (append_assoc done (e ∷ []) left),
      c.in_ok-place.ensures.ok ∙ rw (c.in_ok-name.ensures.same, c.in_ok-copy.ensures.same, l.invariant.2) last,
    )

-- what is stored without an allocation is no array with values, and no table with entries
pub copy-returns-in_err-copy_items-in-FieldArray-clause-light : goal.copy-returns-in_err-copy_items-in-FieldArray-clause-light
copy-returns-in_err-copy_items-in-FieldArray-clause-light t c = λ light.
    let none = c.as_slice.ensures ∙ no_items_in c.args.value.now c.in-FieldArray.a c.in-FieldArray.is light in
    let impossible = c.in_err-copy_items-in-FieldArray.ensures.empty none in absurd cc

pub copy-returns-in_err-copy_entries-in-FieldTable-clause-light : goal.copy-returns-in_err-copy_entries-in-FieldTable-clause-light
copy-returns-in_err-copy_entries-in-FieldTable-clause-light t c = λ light.
    let none = c.inner.ensures ∙ no_pairs_in c.args.value.now c.in-FieldTable.t c.in-FieldTable.is light in
    let impossible = c.in_err-copy_entries-in-FieldTable.ensures.empty none in absurd cc
