-- For `clone` of arrays and tables: an entry whose key is after all others is put at the end.
use Rattle.std.proofs.Common.{◌≡◌, ℕ, List, [], ◌∷◌, ◌++◌, Less, Greater, refl, ap, subst, ◌∙◌, rules}
use Rattle.std.proofs.lemmas.Cmp.{nat_list_cmp_total}
use Rattle.std.specs.Cmp.Lexicographic.{slice_cmp}
use Rattle.std.specs.List.{AllByRecursion}
use Rattle.std.specs.List.Sorted.{IsStrictlySortedBy}
use Rattle.std.specs.Map.{keys_of}
use Rattle.std.specs.Ordering.{nat_cmp, ordering_reverse}
use Rattle.amqp_value_core.specs.declared.types.field_array.FieldArray.{FieldArray}
use Rattle.amqp_value_core.specs.declared.types.field_table.FieldTable.{FieldTable}
use Rattle.amqp_value_core.specs.declared.value.AMQPValue.{AMQPValue, the_lemmas}
use Rattle.amqp_value_core.specs.declared.value.AMQPValue.TheVariants as value
use Rattle.amqp_value_core.specs.Values.{no_trees, no_entries, entry, array, table}
use Rattle.amqp_value_core.specs.Maps.{insert}
use Rattle.amqp_value_core.specs.Containers.{NeedsNoAlloc, trees, entries, array_items, array_view, table_entries, table_view}
use Rattle.amqp_value_core.specs.View.{view}

abbrev pub StoredPair : Type 0
StoredPair = List ℕ × AMQPValue

-- if keys are ascending, the first comes before a later one
comes_before : (k : List ℕ) (es : List StoredPair) (e : StoredPair) (more : List StoredPair) → AllByRecursion (λ j. slice_cmp nat_cmp k j ≡ Less) (keys_of (es ++ e ∷ more)) → slice_cmp nat_cmp k e.0 ≡ Less
comes_before k [] e more h = h.0
comes_before k (x ∷ es) e more h = comes_before k es e more h.1

-- an entry whose key is after all others is put at the end
pub put_at_the_end : (done : List StoredPair) (e : StoredPair) (more : List StoredPair) → IsStrictlySortedBy (slice_cmp nat_cmp) (keys_of (done ++ e ∷ more))
    → insert e.0 (view e.1) (entries done) ≡ entries (done ++ e ∷ [])
unfolding IsStrictlySortedBy
put_at_the_end [] e more h = refl
put_at_the_end (first ∷ done) e more h =
    let after : slice_cmp nat_cmp e.0 first.0 ≡ Greater =
    nat_list_cmp_total.antisymm e.0 first.0 ∙ ap ordering_reverse (comes_before first.0 done e more h.0) in
    rw after (ap (entry first.0 (view first.1)) (put_at_the_end done e more h.1))

-- two tables are the same value if their entries are
pub table_again : (v : AMQPValue) (t u : FieldTable) (es : List StoredPair) → v ≡ value.FieldTable t → es ≡ table_entries t → table_view u ≡ entries es → view (value.FieldTable u) ≡ view v
table_again v t u es is inner same =
    let shown : (w : FieldTable) → view (value.FieldTable w) ≡ table (table_view w) = λ w. search (rules, the_lemmas) in
    rw (is, shown t, shown u, ← inner) (ap table same)

-- what shows no values has none, and what shows no entries has none
no_items : (vs : List AMQPValue) → trees vs ≡ no_trees → vs ≡ []
no_items [] is = refl
no_items (v ∷ vs) is = absurd (cc is)

no_pairs : (es : List StoredPair) → entries es ≡ no_entries → es ≡ []
no_pairs [] is = refl
no_pairs (e ∷ es) is = absurd (cc is)

-- so an array or a table that is stored without an allocation is empty
pub no_items_in : (v : AMQPValue) (a : FieldArray) → v ≡ value.FieldArray a → NeedsNoAlloc (view v) → array_items a ≡ []
no_items_in v a is light =
    let shown : view (value.FieldArray a) ≡ array (array_view a) = search (rules, the_lemmas) in
    no_items (array_items a) (subst NeedsNoAlloc (ap view is ∙ shown) light)

pub no_pairs_in : (v : AMQPValue) (t : FieldTable) → v ≡ value.FieldTable t → NeedsNoAlloc (view v) → table_entries t ≡ []
no_pairs_in v t is light =
    let shown : view (value.FieldTable t) ≡ table (table_view t) = search (rules, the_lemmas) in
    no_pairs (table_entries t) (subst NeedsNoAlloc (ap view is ∙ shown) light)
