-- `FieldTable::place` inserts as `insert` does: at each entry the order of the keys decides, as in
-- the map's `insert_entry`.
use Rattle.std.proofs.Common.{◌≡◌, ◌∷◌, [], List, ℕ, Ordering, Less, Equal, Greater, refl, ap, ◌∙◌}
use Rattle.std.specs.BTreeMap.{insert_entry}
use Rattle.std.specs.Cmp.Lexicographic.{slice_cmp}
use Rattle.std.specs.Ordering.{nat_cmp, match_ordering}
use Rattle.amqp_value_core.specs.declared.value.AMQPValue.{AMQPValue}
use Rattle.amqp_value_core.specs.Maps.{insert}
use Rattle.amqp_value_core.specs.View.{view}
use Rattle.amqp_value_core.specs.Containers.{entries}
use Rattle.amqp_value_core.proofs.types.field_table.FieldTable.place.Goals as goal

abbrev Pairs : Type 0
Pairs = List (List ℕ × AMQPValue)

entries-match_ordering : (o : Ordering) (a b c : Pairs) → entries (match_ordering o a b c) ≡ match_ordering o (entries a) (entries b) (entries c)
entries-match_ordering Less a b c = refl
entries-match_ordering Equal a b c = refl
entries-match_ordering Greater a b c = refl

-- the map's insert is the tree's put
entries-insert_entry : (es : Pairs) (k : List ℕ) (v : AMQPValue) → entries (insert_entry (slice_cmp nat_cmp) es k v) ≡ insert k (view v) (entries es)
entries-insert_entry [] k v = refl
entries-insert_entry (e ∷ es) k v = entries-match_ordering (slice_cmp nat_cmp k e.0) _ _ _ ∙ rw (entries-insert_entry es k v)

pub returns-clause-ok : goal.returns-clause-ok
returns-clause-ok c = ap entries c.in_ok-insert.ensures.entries ∙ entries-insert_entry _ c.args.k c.args.v
