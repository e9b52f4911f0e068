-- For `FieldTable::from_pairs`: a map that is collected from pairs has the entries that inserting
-- them one after another results in (`insert_all`).
use Rattle.std.proofs.Common.{◌≡◌, ℕ, List, [], ◌∷◌, Bool, true, false, cond, Option, Some, None, if◌then◌else◌, Ordering, refl, sym, ap, ◌∙◌}
use Rattle.std.specs.Option.{option_or, option_map}
use Rattle.std.specs.Ordering.{nat_cmp, eq_by_cmp}
use Rattle.std.specs.Cmp.Lexicographic.{slice_cmp, texts_ties, nat_list_eq_equiv}
use Rattle.std.specs.List.Sorted.{IsStrictlySortedBy}
use Rattle.std.specs.Map.{keys_of, lookup, update, update_all}
use Rattle.std.specs.BTreeMap.{is_at}
use Rattle.amqp_value_core.specs.declared.value.AMQPValue.{AMQPValue}
use Rattle.amqp_value_core.specs.Values.{Tree, no_entries, ComesBefore}
use Rattle.amqp_value_core.specs.Maps.{insert_all, same_bytes, value_at, last_at, IsRising}
use Rattle.amqp_value_core.specs.View.{view}
use Rattle.amqp_value_core.specs.Containers.{entries}
use Rattle.amqp_value_core.proofs.GrammarLaws.{same_tables, pairs_rise, last_stays, option_or-none}
use Rattle.amqp_value_core.proofs.Copies.{StoredPair}

abbrev order : List ℕ → List ℕ → Ordering
order = slice_cmp nat_cmp

-- what is found among entries
found_at : (k : List ℕ) (es : List StoredPair) → value_at k (entries es) ≡ option_map view (lookup (is_at (order k)) es)
found_at k [] = refl
found_at k (e ∷ es) = by (same_bytes k e.0) (is_at (order k) e.0) (texts_ties k e.0) (found_at k es)
  where
    by : (s t : Bool) → s ≡ t → value_at k (entries es) ≡ option_map view (lookup (is_at (order k)) es)
        → (if s then Some (view e.1) else value_at k (entries es)) ≡ option_map view (cond t (Some e.1) (lookup (is_at (order k)) es))
    by true true same others = refl
    by false false same others = others
    by true false same others = absurd cc
    by false true same others = absurd cc

-- what pairs leave at a key that are put onto a function in turn
last_put : (k : List ℕ) (ps : List StoredPair) (f : List ℕ → Option AMQPValue) → option_map view (update_all (eq_by_cmp order) f ps k) ≡ option_or (last_at k (entries ps)) (option_map view (f k))
last_put k [] f = refl
last_put k (p ∷ ps) f =
    last_put k ps (update (eq_by_cmp order) f p.0 (Some p.1))
    ∙ by (last_at k (entries ps)) (same_bytes k p.0) (eq_by_cmp order p.0 k) (nat_list_eq_equiv.symm k p.0 ∙ texts_ties p.0 k)
  where
    by : (o : Option Tree) (s t : Bool) → s ≡ t
        → option_or o (option_map view (cond t (Some p.1) (f k))) ≡ option_or (option_or o (if s then Some (view p.1) else None)) (option_map view (f k))
    by None true true e = refl
    by None false false e = refl
    by (Some x) s t e = refl
    by None true false e = absurd cc
    by None false true e = absurd cc

-- a map's keys are ascending
rise : (es : List StoredPair) → IsStrictlySortedBy order (keys_of es) → IsRising (entries es)
unfolding IsStrictlySortedBy
rise [] h = tt
rise (e ∷ es) h = (first es h, rise es h.1)
  where
    first : (es : List StoredPair) → IsStrictlySortedBy order (keys_of (e ∷ es)) → ComesBefore e.0 (entries es)
    first [] h = tt
    first (x ∷ es) h = h.0.0

-- the entries of a map into which each pair was inserted in turn are what the pairs result in
pub made_of : (ps es : List StoredPair) → ((k : List ℕ) → lookup (is_at (order k)) es ≡ update_all (eq_by_cmp order) (λ _. None) ps k) → IsStrictlySortedBy order (keys_of es) → entries es ≡ insert_all no_entries (entries ps)
made_of ps es found sorted =
    same_tables _ _ (rise es sorted) (pairs_rise (entries ps))
    (λ k. found_at k es ∙ ap (option_map view) (found k) ∙ last_put k ps (λ _. None) ∙ option_or-none (last_at k (entries ps)) ∙ sym (last_stays k (entries ps)))
