-- `HasPair` and `HasNth`: what a search by type tags and lengths finds, whatever the bytes are.
use Rattle.std.specs.Prelude.{ℕ, suc, ◌≡◌, ◌<◌, ◌≤◌, List, [], ◌++◌, length, take, drop, Bool, true, false, if◌then◌else◌, Option, Some, None}
use Rattle.std.specs.Option.{option_or}
use Rattle.amqp_value_core.specs.Grammar.{short_field}
use Rattle.amqp_value_core.specs.Maps.{same_bytes}
use Rattle.amq_protocol_types.specs.parsing.Headers.{extent}
use Rattle.amqp_in_place.specs.declared.path.EqualKeys.{EqualKeys}
use Rattle.amqp_in_place.specs.declared.path.EqualKeys.TheVariants as equal
use Rattle.amqp_in_place.specs.InPlaceResults.{IsLeft}

-- a type tag is at the start, and as many bytes as it and the length after it count
abbrev pub IsHeaded : List ℕ → Type 0
IsHeaded s = (0 < extent s) × (extent s ≤ length s)

-- the bytes are pairs by their lengths and type tags, and w has those of the value of the last pair with
-- the key, if one has it. If `first`, only pairs up to the first with the key: what follows it
-- doesn't matter
pub data HasPair (first : Bool) (key : List ℕ) : List ℕ → Option (List ℕ) → Type 0 where
  none_left : HasPair first key [] None
  first_here : (value : List ℕ) → first ≡ true → IsHeaded value → HasPair first key (short_field key ++ value) (Some (take (extent value) value))
  one_more : (k value : List ℕ) → (w : Option (List ℕ)) → (first ≡ true → k ≡ key → ⊥) → IsHeaded value → HasPair first key (drop (extent value) value) w
      → HasPair first key (short_field k ++ value) (option_or w (if same_bytes key k then Some (take (extent value) value) else None))

-- the bytes begin with n values, by their type tags and lengths, and then there is one with these
-- bytes; or there are no more than n values
pub data HasNth : ℕ → List ℕ → Option (List ℕ) → Type 0 where
  too_few : (n : ℕ) → HasNth n [] None
  here : (s : List ℕ) → IsHeaded s → HasNth 0 s (Some (take (extent s) s))
  later : (n : ℕ) → (s : List ℕ) → (w : Option (List ℕ)) → IsHeaded s → HasNth n (drop (extent s) s) w → HasNth (suc n) s w

-- s ends in `at` after these `before` it, and the value at its start is meant, if it is complete; else none is
pub record IsPlaceIn (Has : Option (List ℕ) → Type 0) (before s at : List ℕ) : Type 0 where
  pub left : IsLeft s (before ++ at)
  pub meant : IsHeaded at → Has (Some (take (extent at) at))
  pub only : (w : Option (List ℕ)) → Has w → IsHeaded at

-- no key with a byte after it is at the start
abbrev pub HasNoKey : List ℕ → Type 0
HasNoKey s = (k rest : List ℕ) → s ≡ short_field k ++ rest → 0 < length rest → ⊥

-- of equal keys the first is meant
abbrev pub is_first : EqualKeys → Bool
is_first equal.First = true
is_first equal.Last = false
