-- `OutcomeWithin`, reading if containers nest at most that deep, has the laws of `Outcome`, and is
-- the same if the bytes can't nest deeper.
use Rattle.std.proofs.Common.{◌≡◌, ◌↔◌, ◌≤◌, ◌*◌, ◌+◌, ◌/◌, ℕ, List, ◌∷◌, ◌++◌, length, Some, refl, ap, ◌∙◌, subst, arith, length-append}
use Rattle.amqp_value_core.specs.declared.types.amqp_type.AMQPType.{AMQPType}
use Rattle.amqp_value_core.specs.Values.{Tree}
use Rattle.amqp_value_core.specs.Ids.{kind}
use Rattle.amqp_value_core.specs.Grammar.{Wire, Raw}
use Rattle.amqp_value_core.specs.Outcomes.{Reading, found, more, unknown, malformed, lack, RawOutcomeBy, OutcomeBy, no_byte, no_tag, needs_more, at_start, not_at_start, Outcome, RawOutcome, StillWaits, with_more}
use Rattle.amqp_value_core.specs.Nesting.{WireWithin, within_wire, RawWithin, OutcomeWithin, RawOutcomeWithin}
use Rattle.amqp_value_core.proofs.Bytes.{one_held}
use Rattle.amqp_value_core.proofs.Headers.{lack-raw}
use Rattle.amqp_value_core.proofs.MoreBytes.{more_raw_bytes_by, more_bytes_by}
use Rattle.amqp_value_core.proofs.Outcomes.{PrefixBy, HasOnePrefix, raw_whole_by, prefix_found, raw_to_value_by, value_to_raw_by, one_outcome_by}
use Rattle.amqp_value_core.proofs.Unique.{one_reading}
use Rattle.amqp_value_core.proofs.Nests.{nesting-le, raw_nesting-le, wire_of, raw_of, wire_within, raw_within}

-- ---- of any P

-- P decides what Q does, if they hold of the same prefixes
pub raw_outcome_same : (P Q : List ℕ → Tree → Type 0) (type : AMQPType) (s : List ℕ) (o : Reading) → ((b rest : List ℕ) (v : Tree) → s ≡ b ++ rest → P b v → Q b v)
    → ((b rest : List ℕ) (v : Tree) → s ≡ b ++ rest → Q b v → P b v) → RawOutcomeBy P type s o → RawOutcomeBy Q type s o
raw_outcome_same P Q type s (found v rest) there back (b, p, is) = (b, there b rest v is p, is)
raw_outcome_same P Q type s (more n) there back x = x
raw_outcome_same P Q type s malformed there back (whole, none) = (whole, λ b rest v q is. none b rest v (back b rest v is q) is)
raw_outcome_same P Q type s unknown there back x = x

outcome_same : (P Q : List ℕ → Tree → Type 0) (s : List ℕ) (o : Reading) → ((b rest : List ℕ) (v : Tree) → s ≡ b ++ rest → P b v → Q b v)
    → ((b rest : List ℕ) (v : Tree) → s ≡ b ++ rest → Q b v → P b v) → OutcomeBy P s o → OutcomeBy Q s o
outcome_same P Q _ _ there back no_byte = no_byte
outcome_same P Q _ _ there back (no_tag c b k) = no_tag c b k
outcome_same P Q _ _ there back (needs_more c type b n k e) = needs_more c type b n k e
outcome_same P Q _ _ there back (at_start w rest v p) = at_start w rest v (there w rest v refl p)
outcome_same P Q _ _ there back (not_at_start c type b k e none) = not_at_start c type b k e (λ w rest v q is. none w rest v (back w rest v is q) is)

-- ---- within a depth

one_within : (d : ℕ) → HasOnePrefix (WireWithin d)
one_within d b c x y v u p q e = one_reading b c x y v u (wire_of d b v p) (wire_of d c u q) e

-- reading a value within a depth results in one outcome
pub one_outcome_within : (d : ℕ) (s : List ℕ) (o p : Reading) → OutcomeWithin d s o → OutcomeWithin d s p → o ≡ p
one_outcome_within d s o p x y = one_outcome_by (WireWithin d) (one_within d) (wire_of d) s o p x y

-- what is found is at the start
pub prefix_within : (d : ℕ) (s rest : List ℕ) (v : Tree) → OutcomeWithin d s (found v rest) → (w : List ℕ) × WireWithin d w v × (s ≡ w ++ rest)
prefix_within d s rest v x = prefix_found (WireWithin d) s rest v x

-- an encoding at the start of c and b, if c is a type tag: a payload of c's type is at the start
-- of b
raw_of_wire : (d c : ℕ) (type : AMQPType) (b w rest : List ℕ) (v : Tree) → kind c ≡ Some type → WireWithin d w v → c ∷ b ≡ w ++ rest
    → (p : List ℕ) × RawWithin d type p v × (b ≡ p ++ rest)
raw_of_wire d c type b _ rest _ k (within_wire _ e type2 p v k2 q) is =
    let head : c ≡ e = cc in
    let same : type2 ≡ type = one_held (kind c) type2 type (ap kind head ∙ k2) k in
    (p, subst (λ (t : AMQPType). RawWithin d t p v) same q, cc)

-- reading a type tag and then its payload is reading the value
pub raw_to_value_within : (d c : ℕ) (type : AMQPType) (b : List ℕ) (o : Reading) → kind c ≡ Some type → RawOutcomeWithin d type b o → OutcomeWithin d (c ∷ b) o
raw_to_value_within d c type b o k x =
    raw_to_value_by (RawWithin d type) (WireWithin d) c type k (λ p v q. within_wire d c type p v k q) b (λ w rest v q e. raw_of_wire d c type b w rest v k q e) o x

-- and the other way round
pub value_to_raw_within : (d c : ℕ) (type : AMQPType) (b : List ℕ) (o : Reading) → kind c ≡ Some type → OutcomeWithin d (c ∷ b) o → RawOutcomeWithin d type b o
value_to_raw_within d c type b o k x =
    value_to_raw_by (RawWithin d type) (WireWithin d) c type k (λ p v q. within_wire d c type p v k q) b (λ w rest v q e. raw_of_wire d c type b w rest v k q e) o (wire_of d) x

-- a complete length-prefixed field results in what its prefix decides
pub raw_whole_within : (d : ℕ) (type : AMQPType) (s : List ℕ) (o : Reading) → lack type s ≡ 0 → PrefixBy (RawWithin d type) s o → RawOutcomeWithin d type s o
raw_whole_within d type s o whole f = raw_whole_by (RawWithin d type) type s o whole f

-- a payload is found at the start
pub raw_found_within : (d : ℕ) (type : AMQPType) (b rest : List ℕ) (v : Tree) → RawWithin d type b v → RawOutcomeWithin d type (b ++ rest) (found v rest)
raw_found_within d type b rest v p = raw_whole_within d type (b ++ rest) (found v rest) (lack-raw type b rest v (raw_of d type b v p)) (b, p, refl)

-- an encoding is found at the start
pub wire_found_within : (d : ℕ) (w rest : List ℕ) (v : Tree) → WireWithin d w v → OutcomeWithin d (w ++ rest) (found v rest)
wire_found_within _ _ rest _ (within_wire d c type b v k p) =
    raw_to_value_within d c type (b ++ rest) (found v rest) k (raw_found_within d type b rest v p)

-- ---- no limit

-- a depth that the bytes can't pass limits nothing
pub unlimited : (d : ℕ) (s : List ℕ) (o : Reading) → length s ≤ 5 * d + 4 → OutcomeWithin d s o → Outcome s o
unlimited d s o enough x =
    outcome_same (WireWithin d) Wire s o (λ b rest v e p. wire_of d b v p)
    (λ b rest v e p. wire_within d b v p (omega (arith, nesting-le b v p, ap length e, length-append b rest))) x

pub raw_unlimited : (d : ℕ) (type : AMQPType) (s : List ℕ) (o : Reading) → length s ≤ 5 * d + 3 → RawOutcomeWithin d type s o → RawOutcome type s o
raw_unlimited d type s o enough x =
    raw_outcome_same (RawWithin d type) (Raw type) type s o (λ b rest v e p. raw_of d type b v p)
    (λ b rest v e p. raw_within d type b v p (omega (arith, raw_nesting-le type b v p, ap length e, length-append b rest))) x

-- an encoding is one in which containers nest at most as deep as a fifth of its bytes, and any
-- deeper
pub deep_enough : (w : List ℕ) (v : Tree) → Wire w v ↔ ((d : ℕ) → length w / 5 ≤ d → WireWithin d w v)
deep_enough w v = (λ p d le. wire_within d w v p (omega (arith, nesting-le w v p)), λ all. wire_of (length w / 5) w v (all (length w / 5) (omega arith)))

-- ---- more bytes

-- the outcome of reading a value within a depth, with more bytes
pub more_bytes_within : (d : ℕ) (s t : List ℕ) (o : Reading) → OutcomeWithin d s o → StillWaits o t → OutcomeWithin d (s ++ t) (with_more o t)
more_bytes_within d s t o x waits =
    more_bytes_by (WireWithin d) s t o
    (λ c type b k y. raw_to_value_within d c type (b ++ t) (with_more o t) k (more_raw_bytes_by (RawWithin d type) type (raw_of d type) b t o (value_to_raw_within d c type b o k y) waits)) x waits
