-- What one step through a body returns, by `next_value` (`NextValueIs`) or by an iterator
-- (`ValueStep`); and what a look-up finds (`FoundIs`).
use Rattle.std.specs.Prelude.{ℕ, zero, suc, ◌≡◌, ◌<◌, List, ◌++◌, length, Option, Some, None}
use Rattle.std.specs.Borrow.{Bor}
use Rattle.amqp_value_core.specs.Values.{Tree, Trees, no_trees, tree, Entries, no_entries, entry}
use Rattle.amqp_value_core.specs.Grammar.{Wire, TableBody, ArrayBody}
use Rattle.amqp_value_core.specs.Bytes.{slice_bytes}
use Rattle.amqp_value_core.specs.declared.input.SliceInput.{SliceInput}
use Rattle.amqp_in_place.specs.declared.refs.ValueRef.{ValueRef}
use Rattle.amqp_in_place.specs.Refs.{Denotes}
use Rattle.amqp_in_place.specs.Bodies.{HasValues, HasPairs}
use Rattle.amqp_in_place.specs.Places.{IsViewIn}
use Rattle.amqp_in_place.specs.Written.{IsWrittenAs}
use Rattle.amqp_in_place.specs.Encoded.{EncodedValue, StandsFor, IsViewOf}

-- the first of the values is returned, and the bytes of the others
abbrev pub NextValueIs : Trees → Option (ValueRef × SliceInput) → Type 0
NextValueIs no_trees None = Unit {0}
NextValueIs (tree v vs) (Some x) = Denotes x.0 v × ArrayBody (slice_bytes x.1) vs
NextValueIs _ _ = ⊥

-- after the value that is returned are fewer bytes than n, which are values
abbrev pub MoreValues : ℕ → Option (ValueRef × SliceInput) → Type 0
MoreValues n None = Unit {0}
MoreValues n (Some x) = (length (slice_bytes x.1) < n) × ∥ HasValues (slice_bytes x.1) ∥₁

-- the first of the pairs is given, and the bytes of the others
abbrev pub NextPairIs : Entries → Option (Bor (List ℕ) × ValueRef × SliceInput) → Type 0
NextPairIs no_entries None = Unit {0}
NextPairIs (entry k v ps) (Some x) = (x.0.now ≡ k) × Denotes x.1 v × TableBody (slice_bytes x.2) ps
NextPairIs _ _ = ⊥

-- after the pair that is returned are fewer bytes than n, which are pairs
abbrev pub MorePairs : ℕ → Option (Bor (List ℕ) × ValueRef × SliceInput) → Type 0
MorePairs n None = Unit {0}
MorePairs n (Some x) = (length (slice_bytes x.2) < n) × ∥ HasPairs (slice_bytes x.2) ∥₁

-- an encoding is at the start of s, and `left` after it
pub record HasEncodingAtStart (s : List ℕ) : Type 0 where
  pub value_there : Tree
  pub bytes : List ℕ
  pub left : List ℕ
  pub is_wire : Wire bytes value_there
  pub prefix : s ≡ bytes ++ left

-- the bytes begin with the encoding, if there is one
abbrev pub BeginsWith : Option EncodedValue → Option (Bor (List ℕ)) → Type 0
BeginsWith None None = Unit {0}
BeginsWith (Some e) (Some at) = (rest : List ℕ) × (at.now ≡ e.bytes ++ rest)
BeginsWith _ _ = ⊥

-- the value at the start of the bytes, if there are any
abbrev pub IsValueThere : Option (Bor (List ℕ)) → Option ValueRef → Type 0
IsValueThere None None = Unit {0}
IsValueThere (Some bytes) (Some r) = (rest : List ℕ) × IsViewIn bytes.now r rest
IsValueThere _ _ = ⊥

-- a step returns the first of the values, and leaves the others
abbrev pub ValueStep : Trees → Option ValueRef → List ℕ → Type 0
ValueStep no_trees None left = ArrayBody left no_trees
ValueStep (tree v vs) (Some r) left = Denotes r v × ArrayBody left vs
ValueStep _ _ left = ⊥

-- a step returns the first of the pairs, and leaves the others
abbrev pub PairStep : Entries → Option (Bor (List ℕ) × ValueRef) → List ℕ → Type 0
PairStep no_entries None left = TableBody left no_entries
PairStep (entry k v ps) (Some x) left = (x.0.now ≡ k) × Denotes x.1 v × TableBody left ps
PairStep _ _ left = ⊥

-- what is found is what there is, if there is anything
abbrev pub FoundBy : {A : Type 0} → (ValueRef → A → Type 0) → Option A → Option ValueRef → Type 0
FoundBy Is None None = Unit {0}
FoundBy Is (Some v) (Some r) = Is r v
FoundBy Is _ _ = ⊥

-- what is found denotes the tree, if there is one
abbrev pub FoundIs : Option Tree → Option ValueRef → Type 0
FoundIs v r = FoundBy Denotes v r

-- what is found is the tree as it is written, if there is one
abbrev pub WrittenIs : Option Tree → Option ValueRef → Type 0
WrittenIs t r = FoundBy IsWrittenAs t r

-- what is found is a view of exactly the encoding, if there is one
abbrev pub ViewIs : Option Tree → Option ValueRef → Type 0
ViewIs e r = FoundBy IsViewOf e r

-- what is found is the encoding's value, if there is an encoding
abbrev pub ValueIs : Option EncodedValue → Option ValueRef → Type 0
ValueIs e r = FoundBy StandsFor e r

-- the value at a place of an array, counted from 0
abbrev pub tree_at : ℕ → Trees → Option Tree
tree_at n no_trees = None
tree_at zero (tree v vs) = Some v
tree_at (suc n) (tree v vs) = tree_at n vs
