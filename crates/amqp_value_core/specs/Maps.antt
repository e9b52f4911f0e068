-- A table is a finite map: what is found at a key, what pairs mean, and what an insertion changes.
use Rattle.std.specs.Prelude.{ℕ, Bool, false, ◌||◌, ◌≡◌, Option, Some, None, List, nat_eq, if◌then◌else◌}
use Rattle.std.specs.Option.{option_or}
use Rattle.std.specs.Cmp.Lexicographic.{pointwise, slice_cmp}
use Rattle.std.specs.Ordering.{nat_cmp, match_ordering}
use Rattle.amqp_value_core.specs.Values.{Tree, Entries, no_entries, entry, ComesBefore}

-- whether two keys are the same bytes
abbrev pub same_bytes : List ℕ → List ℕ → Bool
same_bytes = pointwise nat_eq

-- whether there is a value at a key
abbrev pub has_key : List ℕ → Entries → Bool
has_key k no_entries = false
has_key k (entry j v es) = same_bytes k j || has_key k es

-- the value at a key
abbrev pub value_at : List ℕ → Entries → Option Tree
value_at k no_entries = None
value_at k (entry j v es) = if same_bytes k j then Some v else value_at k es

-- of a later pair first (`option_or a b` is b only if a is None):
-- the value of the last pair with the key, if a pair has it
abbrev pub last_at : List ℕ → Entries → Option Tree
last_at k no_entries = None
last_at k (entry j v ps) = option_or (last_at k ps) (if same_bytes k j then Some v else None)

-- the keys are in ascending order of their bytes, so no two are equal
abbrev pub IsRising : Entries → Type 0
IsRising no_entries = Unit {0}
IsRising (entry k v es) = ComesBefore k es × IsRising es

-- The pairs mean the entries.
-- The entries have ascending keys, and at each key the value of the last pair with it.
pub record Mean (ps es : Entries) : Type 0 where
  pub rising : IsRising es
  pub last : (k : List ℕ) → value_at k es ≡ last_at k ps

-- ---- what `FieldTable::insert` does

-- The entries, with v at k.
-- An equal key takes the value, and a new one goes to its place in the order.
abbrev pub insert : List ℕ → Tree → Entries → Entries
insert k v no_entries = entry k v no_entries
insert k v (entry j u es) = match_ordering (slice_cmp nat_cmp k j) (entry k v (entry j u es)) (entry j v es) (entry j u (insert k v es))

-- the entries, with pairs put one after another: of equal keys the last pair's value stays
abbrev pub insert_all : Entries → Entries → Entries
insert_all es no_entries = es
insert_all es (entry k v ps) = insert_all (insert k v es) ps
