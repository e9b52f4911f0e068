-- Whether bytes are a canonical encoding within limits (`IsCanonicalWithin`), or start with one
-- (`IsCanonicalLen`); and the same of the parts that src/canonical.rt checks.
use Rattle.std.specs.Prelude.{ℕ, ◌<◌, ◌≤◌, ◌-◌, ◌≡◌, ◌≢◌, Option, Some, None, List, [], ◌∷◌, ◌++◌, length}
use Rattle.std.specs.Borrow.{Bor}
use Rattle.std.specs.Ordering.{nat_cmp}
use Rattle.std.specs.Cmp.Lexicographic.{slice_cmp}
use Rattle.std.specs.declared.cmp.Ordering.TheVariants.{Less}
use Rattle.amqp_value_core.specs.declared.types.amqp_type.AMQPType.TheVariants as amqp
use Rattle.amqp_value_core.specs.Values.{Tree, Trees, Entries, ComesBefore, depth, greatest_depth, entries_depth}
use Rattle.amqp_value_core.specs.Outcomes.{found}
use Rattle.amqp_value_core.specs.Texts.{text}
use Rattle.amqp_value_core.specs.Canonical.{CanonBody, CanonPairs, IsStrict, Canon}
use Rattle.amqp_value_core.specs.Bytes.{slice_bytes}
use Rattle.amq_protocol_types.specs.declared.parsing.within.Limits.{Limits}
use Rattle.amq_protocol_types.specs.parsing.Limits.{Within}
use Rattle.amqp_in_place.specs.declared.head.Head.{Head}
use Rattle.amqp_in_place.specs.declared.head.Head.TheVariants as head

-- the first n bytes of s are the canonical encoding of a value that is read within the limits
abbrev pub IsCanonicalLen : Limits → List ℕ → ℕ → Type 0
IsCanonicalLen l s n = (w : List ℕ) × (rest : List ℕ) × (v : Tree) × (s ≡ w ++ rest) × (length w ≡ n) × Canon w v × Within l s (found v rest)

-- s is the canonical encoding of a value that is read within the limits
abbrev pub IsCanonicalWithin : Limits → List ℕ → Type 0
IsCanonicalWithin l s = (v : Tree) × Canon s v × Within l s (found v [])

-- s is what is written for the value that is read from it within the limits
abbrev pub IsReadAsWritten : Limits → List ℕ → Type 0
IsReadAsWritten l s = (v : Tree) × Within l s (found v []) × (s ≡ text v)

-- a canonical encoding is before `rest`, and containers nest at most d deep in its value
abbrev pub CanonPrefix : ℕ → List ℕ → List ℕ → Type 0
CanonPrefix d s rest = (w : List ℕ) × (v : Tree) × Canon w v × (depth v ≤ d) × (s ≡ w ++ rest)

-- the bytes are canonical encodings one after another, and containers nest at most d deep in each
abbrev pub CanonValues : ℕ → List ℕ → Type 0
CanonValues d s = (vs : Trees) × CanonBody s vs × (greatest_depth vs ≤ d)

-- the key is above the one before it, if there is one
abbrev pub IsAbove : Option (Bor (List ℕ)) → List ℕ → Type 0
IsAbove None k = Unit {0}
IsAbove (Some j) k = slice_cmp nat_cmp j.now k ≡ Less

-- the first key is above the one before it, if there are both
abbrev pub AreAbove : Option (Bor (List ℕ)) → Entries → Type 0
AreAbove None es = Unit {0}
AreAbove (Some j) es = ComesBefore j.now es

-- the bytes are pairs one after another in a canonical encoding, that go on from a key
abbrev pub CanonEntries : ℕ → Option (Bor (List ℕ)) → List ℕ → Type 0
CanonEntries d j s = (es : Entries) × CanonPairs s es × AreAbove j es × (entries_depth es ≤ d)

-- the body of the container that the head is of, if it is one, is canonical, and containers nest at most
-- d deep in the value
abbrev pub HasCanonicalBody : ℕ → Head → Type 0
HasCanonicalBody d (head.Plain r) = Unit {0}
HasCanonicalBody d (head.FieldArray i) = (0 < d) × CanonValues (d - 1) (slice_bytes i)
HasCanonicalBody d (head.FieldTable i) = (0 < d) × CanonEntries (d - 1) None (slice_bytes i)

-- no alternate tag is first, and after a boolean's 0 or 1
abbrev pub IsFirstSpelling : List ℕ → Type 0
IsFirstSpelling [] = Unit {0}
IsFirstSpelling (c ∷ b) = (c ≢ 85) × (c ≢ 76) × (c ≡ 116 → IsStrict amqp.Boolean b)
