-- `Outcome` and `compute_outcome`, reading as a relation and as a function, agree. So payloads of
-- fixed width, long strings and byte arrays are never malformed.
use Rattle.std.proofs.Common.{ℕ, ◌≡◌, ◌↔◌, sym, subst, Option, Some, None, List, [], ◌∷◌, ◌++◌, length, arith, length-append, suc, zero, ◌≢◌, refl}
use Rattle.std.specs.Prelude.{MatchOption}
use Rattle.amqp_value_core.specs.declared.types.amqp_type.AMQPType.{AMQPType}
use Rattle.amqp_value_core.specs.Values.{Tree}
use Rattle.amqp_value_core.specs.Ids.{kind}
use Rattle.amqp_value_core.specs.Grammar.{Wire, Raw}
use Rattle.amqp_value_core.specs.Nesting.{WireWithin, RawWithin, OutcomeWithin}
use Rattle.amqp_value_core.specs.Bytes.{IsBytes}
use Rattle.amqp_value_core.specs.Outcomes.{Reading, found, more, unknown, malformed, lack, OutcomeBy, Outcome, RawOutcome}
use Rattle.amqp_value_core.specs.Decode.{outcome_by, meaning, compute_outcome, compute_raw_outcome}
use Rattle.amqp_value_core.proofs.Found.{found_wire, found_raw, by_layout, by_lack}
use Rattle.amqp_value_core.proofs.Limited.{one_outcome_within}
use Rattle.amqp_value_core.proofs.Outcomes.{NeedsMoreOr, PrefixBy, raw_from_cases, NeedsMoreOr-weaker, from_cases, one_outcome, one_raw_outcome}
use Rattle.amqp_value_core.proofs.Nests.{nesting-le, raw_nesting-le, wire_of, raw_of, wire_within, raw_within}
use Rattle.amqp_value_core.proofs.Sound.{PrefixOrError, WireEnds, raw_ends, wire_ends, means_spelled}
use Rattle.amqp_value_core.specs.declared.types.amqp_type.AMQPType.TheVariants as amqp
use Rattle.amqp_value_core.specs.Layouts.{fixed}

-- an encoding at the start is the outcome
outcome_at : (s w rest : List ℕ) (v : Tree) → Wire w v → s ≡ w ++ rest → compute_outcome s ≡ found v rest
outcome_at s w rest v p is =
    subst (λ x. compute_outcome x ≡ found v rest) (sym is) (found_wire (length (w ++ rest)) w rest v (wire_within (length (w ++ rest)) w v p (omega (arith, nesting-le w v p, length-append w rest))))

-- so is a payload
raw_outcome_at : (type : AMQPType) (s b rest : List ℕ) (v : Tree) → Raw type b v → s ≡ b ++ rest → compute_raw_outcome type s ≡ found v rest
raw_outcome_at type s b rest v p is =
    subst (λ x. compute_raw_outcome type x ≡ found v rest) (sym is) (found_raw (length (b ++ rest)) type b rest v (raw_within (length (b ++ rest)) type b v p (omega (arith, raw_nesting-le type b v p, length-append b rest))))

-- if each P at the start is the outcome, an error means that there is no such P
prefix_by : (P Q : List ℕ → Tree → Type 0) (s : List ℕ) (o : Reading) → ((w rest : List ℕ) (v : Tree) → P w v → s ≡ w ++ rest → o ≡ found v rest)
    → ((w : List ℕ) (v : Tree) → Q w v → P w v) → PrefixOrError Q s o → PrefixBy P s o
prefix_by P Q s (found v rest) finds forget (w, q, is) = (w, forget w v q, is)
prefix_by P Q s malformed finds forget ends = λ w rest v p is. let e = finds w rest v p is in cc
prefix_by P Q s (more n) finds forget ends = ends
prefix_by P Q s unknown finds forget ends = ends

-- reading a payload results in what the function returns
pub raw_outcome_holds : (type : AMQPType) (s : List ℕ) → IsBytes s → RawOutcome type s (compute_raw_outcome type s)
raw_outcome_holds type s bytes =
    raw_from_cases (Raw type) type s (compute_raw_outcome type s)
    (NeedsMoreOr-weaker (lack type s) _ _ (compute_raw_outcome type s)
    (prefix_by (Raw type) (RawWithin (length s) type) s (compute_raw_outcome type s) (raw_outcome_at type s) (raw_of (length s) type))
    (raw_ends (length s) (meaning (length s)) (means_spelled (length s)) type s bytes))

-- and to nothing else
raw_outcome_only : (type : AMQPType) (s : List ℕ) (o : Reading) → IsBytes s → RawOutcome type s o → o ≡ compute_raw_outcome type s
raw_outcome_only type s o bytes here =
    one_raw_outcome type s o (compute_raw_outcome type s) here (raw_outcome_holds type s bytes)

-- reading that finds only encodings, and each P at the start, results in this outcome
outcome_by_ends : (depth : ℕ) (P : List ℕ → Tree → Type 0) (s : List ℕ) (o : Reading) → ((w : List ℕ) (v : Tree) → WireWithin depth w v → P w v)
    → ((w rest : List ℕ) (v : Tree) → P w v → s ≡ w ++ rest → o ≡ found v rest) → WireEnds depth s o → OutcomeBy P s o
outcome_by_ends depth P [] o forget finds ends = from_cases P [] o ends
outcome_by_ends depth P (c ∷ b) o forget finds ends = from_cases P (c ∷ b) o (at_kind (kind c) ends) where
  at_kind : (k : Option AMQPType) → MatchOption k (o ≡ unknown) (λ type. NeedsMoreOr (lack type b) (PrefixOrError (WireWithin depth) (c ∷ b) o) o)
      → MatchOption k (o ≡ unknown) (λ type. NeedsMoreOr (lack type b) (PrefixBy P (c ∷ b) o) o)
  at_kind None is = is
  at_kind (Some type) ends = NeedsMoreOr-weaker (lack type b) _ _ o (prefix_by P (WireWithin depth) (c ∷ b) o finds forget) ends

-- reading a value results in what the function returns
pub outcome_holds : (s : List ℕ) → IsBytes s → Outcome s (compute_outcome s)
outcome_holds s bytes =
    outcome_by_ends (length s) Wire s (compute_outcome s) (wire_of (length s)) (outcome_at s) (wire_ends (length s) (meaning (length s)) (means_spelled (length s)) s bytes)

-- and to nothing else
outcome_only : (s : List ℕ) (o : Reading) → IsBytes s → Outcome s o → o ≡ compute_outcome s
outcome_only s o bytes here = one_outcome s o (compute_outcome s) here (outcome_holds s bytes)

-- the relation is the function
pub outcome_is : (s : List ℕ) (o : Reading) → IsBytes s → Outcome s o ↔ (o ≡ compute_outcome s)
outcome_is s o bytes = (outcome_only s o bytes, λ is. subst (Outcome s) (sym is) (outcome_holds s bytes))

-- of payloads too
pub raw_outcome_is : (type : AMQPType) (s : List ℕ) (o : Reading) → IsBytes s → RawOutcome type s o ↔ (o ≡ compute_raw_outcome type s)
raw_outcome_is type s o bytes = (raw_outcome_only type s o bytes, λ is. subst (RawOutcome type s) (sym is) (raw_outcome_holds type s bytes))

-- ---- within a depth

-- the function finds each encoding that nests no deeper
within_at : (d : ℕ) (s w rest : List ℕ) (v : Tree) → WireWithin d w v → s ≡ w ++ rest → outcome_by (meaning d) s ≡ found v rest
within_at d s w rest v p is = subst (λ x. outcome_by (meaning d) x ≡ found v rest) (sym is) (found_wire d w rest v p)

-- reading within a depth results in what the function returns, with containers at most that deep
pub within_holds : (d : ℕ) (s : List ℕ) → IsBytes s → OutcomeWithin d s (outcome_by (meaning d) s)
within_holds d s bytes = outcome_by_ends d (WireWithin d) s (outcome_by (meaning d) s) (λ w v q. q) (within_at d s) (wire_ends d (meaning d) (means_spelled d) s bytes)

-- and to nothing else
pub within_is : (d : ℕ) (s : List ℕ) (o : Reading) → IsBytes s → OutcomeWithin d s o ↔ (o ≡ outcome_by (meaning d) s)
within_is d s o bytes =
    (λ x. one_outcome_within d s o (outcome_by (meaning d) s) x (within_holds d s bytes), λ is. subst (OutcomeWithin d s) (sym is) (within_holds d s bytes))

abbrev IsNotMalformed : Reading → Type 0
IsNotMalformed malformed = ⊥
IsNotMalformed _ = Unit {0}

-- each complete payload has a value
by_layout_not_malformed : (n : ℕ) (type : AMQPType) (b : List ℕ) → type ≢ amqp.ShortString → type ≢ amqp.FieldArray → type ≢ amqp.FieldTable
    → IsNotMalformed (by_layout (fixed type) (meaning n) type b)
by_layout_not_malformed n amqp.ShortString b no_short no_array no_table = absurd (no_short refl)
by_layout_not_malformed n amqp.FieldArray b no_short no_array no_table = absurd (no_array refl)
by_layout_not_malformed n amqp.FieldTable b no_short no_array no_table = absurd (no_table refl)
by_layout_not_malformed n _ b no_short no_array no_table = tt

by_lack_not_malformed : (k n : ℕ) (type : AMQPType) (b : List ℕ) → IsNotMalformed (by_layout (fixed type) (meaning n) type b) → IsNotMalformed (by_lack k (meaning n) type b)
by_lack_not_malformed zero n type b here = here
by_lack_not_malformed (suc k) n type b here = tt

pub never_malformed : (type : AMQPType) (s : List ℕ) → IsBytes s → type ≢ amqp.ShortString → type ≢ amqp.FieldArray → type ≢ amqp.FieldTable
    → RawOutcome type s malformed → ⊥
never_malformed type s bytes no_short no_array no_table here =
    let is : malformed ≡ compute_raw_outcome type s = (raw_outcome_is type s malformed bytes).0 here in
    subst IsNotMalformed (sym is) (by_lack_not_malformed (lack type s) (length s) type s (by_layout_not_malformed (length s) type s no_short no_array no_table))
