-- The words of the headline (docs/VERIFICATION.md) about sizes and about what is written:
-- `IsWritableIn`, `IsShortest`, `TellsApart` and `IsCanonical`.
use Rattle.std.specs.Prelude.{ℕ, ◌*◌, ◌≤◌, ◌≡◌, ◌↔◌, IsTrue, List, length}
use Rattle.amqp_value_core.specs.Values.{Tree, readable, depth, count}
use Rattle.amqp_value_core.specs.Grammar.{Wire}
use Rattle.amqp_value_core.specs.Bytes.{IsBytes}
use Rattle.amqp_value_core.specs.Texts.{text, size, Fits}
use Rattle.amqp_value_core.specs.Canonical.{Canon}

-- v can be written again, and is no larger than the n bytes from which it was read
pub record IsWritableIn (n : ℕ) (v : Tree) : Type 0 where
  -- each length in it fits its field, and each value in it has a type tag that is read
  pub fits : Fits v
  pub readable : IsTrue (readable v)
  -- its canonical encoding has at most n bytes, and at most n values are in it
  pub size : size v ≤ n
  pub count : count v ≤ n
  -- it nests at most as deep as a fifth of n, rounded down
  pub depth : 5 * depth v ≤ n

-- the canonical encoding of v is an encoding of it, and none is shorter, if v has any
abbrev pub IsShortest : Tree → Type 0
IsShortest v = (w : List ℕ) → IsBytes w → Wire w v → Wire (text v) v × (length (text v) ≤ length w)

-- of two values that have encodings the same is written exactly if they are equal
abbrev pub TellsApart : Tree → Type 0
TellsApart v = (u : Tree) (w x : List ℕ) → IsBytes w → IsBytes x → Wire w v → Wire x u → (text v ≡ text u) ↔ (v ≡ u)

-- of a value v that was written:
-- w is canonical for v by its bytes (`Canon`) exactly when it is `text v`, and v is readable
abbrev pub IsCanonical : Tree → Type 0
IsCanonical v = (w : List ℕ) → IsBytes w → Canon w v ↔ (IsTrue (readable v) × (w ≡ text v))
