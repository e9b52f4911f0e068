-- Look-ups: the value at a key (`value_of_pair`) or at a path of keys and positions (`at_path`),
-- and which keys occur again (`RepeatedIs`).
use Rattle.std.specs.Prelude.{ℕ, ◌+◌, ◌<◌, ◌≤◌, List, Option, Some, None, if◌then◌else◌, ◌≡◌, [], ◌∷◌, option_and_then}
use Rattle.std.specs.Borrow.{Bor}
use Rattle.amqp_value_core.specs.Values.{Tree, Entries, no_entries, entry, Trees, array, table}
use Rattle.amqp_value_core.specs.Maps.{same_bytes, value_at, last_at}
use Rattle.amqp_in_place.specs.declared.refs.ValueRef.{ValueRef}
use Rattle.amqp_in_place.specs.declared.refs.ValueRef.TheVariants as at
use Rattle.amqp_in_place.specs.declared.path.PathStep.{PathStep}
use Rattle.amqp_in_place.specs.declared.path.PathStep.TheVariants as step
use Rattle.amqp_in_place.specs.declared.path.EqualKeys.{EqualKeys}
use Rattle.amqp_in_place.specs.declared.path.EqualKeys.TheVariants as equal
use Rattle.amqp_in_place.specs.Refs.{array_body, table_body}
use Rattle.amqp_in_place.specs.Encoded.{EncodedValues, EncodedPairs}
use Rattle.amqp_in_place.specs.Walks.{ViewIs, tree_at}

-- ---- keys

-- the value of the first pair with the key, if a pair has it
abbrev pub first_at : List ℕ → Entries → Option Tree
first_at k ps = value_at k ps

-- how many of the pairs have the key
abbrev pub times_at : List ℕ → Entries → ℕ
times_at k no_entries = 0
times_at k (entry j v ps) = (if same_bytes k j then 1 else 0) + times_at k ps

-- more than one of the pairs has the key that is reported, or none is and no key has more than one
abbrev pub RepeatedIs : Entries → Option (Bor (List ℕ)) → Type 0
RepeatedIs ps (Some k) = 1 < times_at k.now ps
RepeatedIs ps None = (k : List ℕ) → times_at k ps ≤ 1

-- ---- paths

-- the value of the first or the last of the pairs with the key
abbrev pub value_of_pair : EqualKeys → List ℕ → Entries → Option Tree
value_of_pair equal.First k ps = first_at k ps
value_of_pair equal.Last k ps = last_at k ps

-- what a step leads to: a key of a table, or a position of an array. A key that isn't there leads nowhere,
-- as does a position past the end, a key in anything but a table, and a position in anything but an array
abbrev pub at_step : EqualKeys → PathStep → Tree → Option Tree
at_step of (step.Key k) (table ps) = value_of_pair of k.now ps
at_step of (step.Index n) (array vs) = tree_at n vs
at_step of _ _ = None

-- what a path leads to, step by step: nowhere if a step does, and an empty path to the value itself
abbrev pub at_path : EqualKeys → List PathStep → Tree → Option Tree
at_path of [] v = Some v
at_path of (s ∷ path) v = option_and_then (at_path of path) (at_step of s v)

-- a step leads from a view to another: to that of exactly the encoding at the key of a table, or at the
-- position of an array, and nowhere from anything else
abbrev pub StepsTo : EqualKeys → PathStep → ValueRef → ValueRef → Type 0
StepsTo of (step.Key k) (at.FieldTable t) r = (es : Entries) → EncodedPairs (table_body t) es → ViewIs (value_of_pair of k.now es) (Some r)
StepsTo of (step.Index n) (at.FieldArray a) r = (es : Trees) → EncodedValues (array_body a) es → ViewIs (tree_at n es) (Some r)
StepsTo of _ _ r = ⊥

-- a path leads from a view to another, step by step, and an empty one to the view itself
abbrev pub LeadsTo : EqualKeys → List PathStep → ValueRef → ValueRef → Type 0
LeadsTo of [] q r = r ≡ q
LeadsTo of (s ∷ path) q r = (next : ValueRef) × StepsTo of s q next × LeadsTo of path next r

-- the bytes of a container's body; none of any other value
abbrev pub content : ValueRef → List ℕ
content (at.FieldArray a) = array_body a
content (at.FieldTable t) = table_body t
content _ = []
