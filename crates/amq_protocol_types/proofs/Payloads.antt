-- Lemmas on reading one payload: of fixed width (`number_found`), of a type that is no container
-- (`plain_found`), or without a limit (`raw_unlimited_result`).
use Rattle.std.proofs.Common.{◌≡◌, ◌<◌, ◌∙◌, ℕ, List, [], length, ap, sym, subst, arith, ◌^◌, ◌++◌, ℤ, Bool, true, false, cond, nat_eq, Some, refl, ap₂, ◌≢◌, Result, Ok, Err, MatchResult}
use Rattle.std.specs.Prelude.{not}
use Rattle.std.specs.Int.{Width, w8, w16, w32, w64, byte_len, to_be_bytes, from_be_bytes, cast_signed, cast_unsigned}
use Rattle.std.proofs.lemmas.Nat.{from_be_bytes-to_be_bytes_2, from_be_bytes-to_be_bytes_4, from_be_bytes-to_be_bytes_8}
use Rattle.amqp_value_core.specs.declared.types.amqp_type.AMQPType.{AMQPType}
use Rattle.amqp_value_core.specs.Values.{Tree, Trees, Entries, scalar, void, Scalar, boolean, number, decimal}
use Rattle.amqp_value_core.specs.Outcomes.{Reading, more, unknown, malformed, RawHeavy, RawOutcome, found}
use Rattle.amqp_value_core.specs.Nesting.{RawWithin, within_plain, RawOutcomeWithin}
use Rattle.amq_protocol_types.specs.declared.parsing.errors.ErrorKind.TheVariants.{Eof}
use Rattle.amq_protocol_types.specs.parsing.Refusals.{Refusal}
use Rattle.amq_protocol_types.specs.parsing.ParseResults.{IsRefusal}
use Rattle.amq_protocol_types.specs.parsing.PayloadResults.{OnlyLacks, bad_kind, RawRefuses, IsNumberRead}
use Rattle.amqp_value_core.specs.declared.value.AMQPValue.TheVariants.{Void, rolls-Void}
use Rattle.amqp_value_core.specs.declared.value.AMQPValue.TheOpen.{AMQPValue-F}
use Rattle.amqp_value_core.specs.declared.value.AMQPValue.TheFolds.{fold-roll-AMQPValue}
use Rattle.amqp_value_core.specs.View.{view, view_step, array_step, table_step}
use Rattle.amqp_value_core.specs.declared.types.amqp_type.AMQPType.TheVariants as amqp
use Rattle.amqp_value_core.specs.Layouts.{Layout, fixed, truth, whole_number}
use Rattle.amqp_value_core.specs.Grammar.{Raw, raw_fixed}
use Rattle.amqp_value_core.proofs.GrammarLaws.{raw_found, raw_of, raw_outcome_same, raw_unlimited}
use Rattle.amqp_value_core.specs.declared.value.AMQPValue.{AMQPValue}
use Rattle.amq_protocol_types.proofs.Refusals.{IsRefusal-weaker, OnlyLacks-refuses, raw_refused}

-- nothing, as a tree
pub view-Void : view Void ≡ scalar void
view-Void = ap view (sym rolls-Void) ∙ fold-roll-AMQPValue Tree Trees Entries view_step array_step table_step AMQPValue-F.Void

-- ---- types of fixed width

-- a payload of fixed width at the start is read
pub fixed_found : (type : AMQPType) (f : Layout) (s b rest : List ℕ) → fixed type ≡ Some f → length b ≡ f.width → s ≡ b ++ rest
    → RawOutcome type s (found (scalar (f.denotes b)) rest)
fixed_found type f s b rest row len e = rw e (raw_found type b rest (scalar (f.denotes b)) (raw_fixed type f b row len))

-- the bytes of n in the width are as many as the width has, and n is read back from them
pub record WidthReadsBack (w : Width) (n : ℕ) : Type 0 where
  pub wide : length (to_be_bytes w n) ≡ byte_len w
  pub back : from_be_bytes w (to_be_bytes w n) ≡ n

-- so it is with each number that fits
pub WidthReadsBack-8 : (n : ℕ) → n < 2 ^ 8 → WidthReadsBack w8 n
WidthReadsBack-8 n h = record { wide = refl; back = omega arith }

pub WidthReadsBack-16 : (n : ℕ) → n < 2 ^ 16 → WidthReadsBack w16 n
WidthReadsBack-16 n h = record { wide = refl; back = from_be_bytes-to_be_bytes_2 n h }

pub WidthReadsBack-32 : (n : ℕ) → n < 2 ^ 32 → WidthReadsBack w32 n
WidthReadsBack-32 n h = record { wide = refl; back = from_be_bytes-to_be_bytes_4 n h }

pub WidthReadsBack-64 : (n : ℕ) → n < 2 ^ 64 → WidthReadsBack w64 n
WidthReadsBack-64 n h = record { wide = refl; back = from_be_bytes-to_be_bytes_8 n h }

-- the bytes of n at the start are read as n, of a type that is one number
pub number_found : (type : AMQPType) (w : Width) (s rest : List ℕ) (n : ℕ) → fixed type ≡ Some (whole_number w type) → WidthReadsBack w n
    → IsNumberRead w s n rest → RawOutcome type s (found (scalar (number type n)) rest)
number_found type w s rest n row r e =
    subst (λ (m : ℕ). RawOutcome type s (found (scalar (number type m)) rest)) r.back
    (fixed_found type (whole_number w type) s (to_be_bytes w n) rest row r.wide e)

-- and so is a signed number that has the bits of n
pub signed_found : (type : AMQPType) (w : Width) (s rest : List ℕ) (n : ℕ) (z : ℤ) → fixed type ≡ Some (whole_number w type) → WidthReadsBack w n
    → cast_unsigned w (cast_signed w n) ≡ n → z ≡ cast_signed w n → IsNumberRead w s n rest
    → RawOutcome type s (found (scalar (number type (cast_unsigned w (cast_signed w (cast_unsigned w z))))) rest)
signed_found type w s rest n z row r same is e =
    subst (λ (m : ℕ). RawOutcome type s (found (scalar (number type m)) rest)) (sym bits)
    (number_found type w s rest n row r e)
  where
    bits : cast_unsigned w (cast_signed w (cast_unsigned w z)) ≡ n
    bits = rw (is, same, same) refl

-- a truth value at the start is read
pub boolean_found : (s rest : List ℕ) (n : ℕ) → WidthReadsBack w8 n → IsNumberRead w8 s n rest
    → RawOutcome amqp.Boolean s (found (scalar (boolean (not (nat_eq n 0)))) rest)
boolean_found s rest n r e =
    subst (λ (x : Scalar). RawOutcome amqp.Boolean s (found (scalar x) rest)) (ap boolean (ap truth r.back ∙ as_not (nat_eq n 0)))
    (fixed_found amqp.Boolean _ s (to_be_bytes w8 n) rest refl refl e)
  where
    as_not : (b : Bool) → cond b false true ≡ not b
    as_not true = refl
    as_not false = refl

-- a decimal number at the start is read: its scale, and its digits after it
pub decimal_found : (s middle rest : List ℕ) (scale n : ℕ) → WidthReadsBack w8 scale → WidthReadsBack w32 n
    → IsNumberRead w8 s scale middle → IsNumberRead w32 middle n rest → RawOutcome amqp.DecimalValue s (found (scalar (decimal scale n)) rest)
decimal_found s middle rest scale n first second d e =
    subst (λ (x : Scalar). RawOutcome amqp.DecimalValue s (found (scalar x) rest)) (ap₂ decimal first.back second.back)
    (fixed_found amqp.DecimalValue _ s (to_be_bytes w8 scale ++ to_be_bytes w32 n) rest refl refl (d ∙ ap (λ (t : List ℕ). to_be_bytes w8 scale ++ t) e))

-- nothing is read if no byte is asked for
pub void_found : (s : List ℕ) → RawOutcome amqp.Void s (found (scalar void) s)
void_found s = fixed_found amqp.Void _ s [] s refl refl refl

-- a LongLongUInt is read as the LongLongInt of the same bytes
as_signed : (b : List ℕ) (v : Tree) → Raw amqp.LongLongUInt b v → Raw amqp.LongLongInt b v
as_signed _ _ (raw_fixed type f b row len) = raw_fixed amqp.LongLongInt f b row len

as_unsigned : (b : List ℕ) (v : Tree) → Raw amqp.LongLongInt b v → Raw amqp.LongLongUInt b v
as_unsigned _ _ (raw_fixed type f b row len) = raw_fixed amqp.LongLongUInt f b row len

pub unsigned_outcome : (s : List ℕ) (o : Reading) → RawOutcome amqp.LongLongInt s o → RawOutcome amqp.LongLongUInt s o
unsigned_outcome s (found v rest) (b, p, is) = (b, as_unsigned b v p, is)
unsigned_outcome s (more n) x = x
unsigned_outcome s malformed (whole, none) = (whole, λ b rest v p is. none b rest v (as_signed b v p) is)
unsigned_outcome s unknown x = x

-- ---- payloads that are no container, and results without a limit

-- what reading a payload that is no container's results in is the same within any depth
plain_outcome : (d : ℕ) (type : AMQPType) (s : List ℕ) (o : Reading) → type ≢ amqp.FieldArray → type ≢ amqp.FieldTable → RawOutcome type s o → RawOutcomeWithin d type s o
plain_outcome d type s o no_array no_table x =
    raw_outcome_same (Raw type) (RawWithin d type) type s o (λ b rest v e p. within_plain d type b v no_array no_table p) (λ b rest v e p. raw_of d type b v p) x

-- a payload of the type isn't a container
abbrev pub IsPlainPayload : AMQPType → Type 0
IsPlainPayload amqp.FieldArray = ⊥
IsPlainPayload amqp.FieldTable = ⊥
IsPlainPayload _ = Unit {0}

plain_within : (d : ℕ) (type : AMQPType) (s : List ℕ) (o : Reading) → IsPlainPayload type → RawOutcome type s o → RawOutcomeWithin d type s o
plain_within d type s o plain x = plain_outcome d type s o (λ e. subst IsPlainPayload e plain) (λ e. subst IsPlainPayload e plain) x

pub plain_found : (d : ℕ) (type : AMQPType) (s rest : List ℕ) (v : Tree) → IsPlainPayload type → RawOutcome type s (found v rest) → RawOutcomeWithin d type s (found v rest)
plain_found d type s rest v plain x = plain_within d type s (found v rest) plain x

-- so it is of a type that is known to be `plain`
pub plain_arm : (d : ℕ) (plain type : AMQPType) (s rest : List ℕ) (v : Tree) → type ≡ plain → IsPlainPayload plain → RawOutcome plain s (found v rest) → RawOutcomeWithin d type s (found v rest)
plain_arm d plain type s rest v is no_container x = rw is (plain_found d plain s rest v no_container x)

plain_refuses : (d : ℕ) (type : AMQPType) (s : List ℕ) (heavy : Type 0) (e : Refusal) → IsPlainPayload type → (heavy → RawHeavy type s) → IsRefusal (RawOutcome type s) heavy e
    → IsRefusal (RawOutcomeWithin d type s) (RawHeavy type s) e
plain_refuses d type s heavy e plain weaker x =
    IsRefusal-weaker (RawOutcome type s) (RawOutcomeWithin d type s) heavy (RawHeavy type s) e (λ o y. plain_within d type s o plain y) weaker x

pub plain_lacks : (d : ℕ) (type : AMQPType) (s : List ℕ) (heavy : Type 0) (e : Refusal) → IsPlainPayload type → (heavy → RawHeavy type s) → OnlyLacks (RawOutcome type s) heavy e
    → IsRefusal (RawOutcomeWithin d type s) (RawHeavy type s) e
plain_lacks d type s heavy e plain weaker x = plain_refuses d type s heavy e plain weaker (OnlyLacks-refuses (RawOutcome type s) heavy e x)

-- a LongLongUInt is rejected as the LongLongInt of the same bits
pub unsigned_refuses : (d : ℕ) (s : List ℕ) (e : Refusal) → OnlyLacks (RawOutcome amqp.LongLongInt s) ⊥ e → IsRefusal (RawOutcomeWithin d amqp.LongLongUInt s) (RawHeavy amqp.LongLongUInt s) e
unsigned_refuses d s e x =
    IsRefusal-weaker (RawOutcome amqp.LongLongInt s) (RawOutcomeWithin d amqp.LongLongUInt s) ⊥ (RawHeavy amqp.LongLongUInt s) e
    (λ o y. plain_within d amqp.LongLongUInt s o tt (unsigned_outcome s o y)) (λ h. absurd h) (OnlyLacks-refuses (RawOutcome amqp.LongLongInt s) ⊥ e x)

-- a type that isn't a short string's has this kind of error
pub eof_of_type : (type : AMQPType) → type ≢ amqp.ShortString → bad_kind type ≡ Eof
eof_of_type amqp.ShortString no_short = absurd (no_short refl)
eof_of_type _ no_short = refl

-- a depth that the bytes can't pass limits no result
pub raw_unlimited_result : {I V : Type 0} (bytes : I → List ℕ) (value : V → Tree) (type : AMQPType) (d : ℕ) (s : List ℕ) (r : Result (I × V) Refusal) → d ≡ length s
    → MatchResult r (λ x. RawOutcomeWithin d type s (found (value x.1) (bytes x.0))) (IsRefusal (RawOutcomeWithin d type s) (RawHeavy type s))
    → MatchResult r (λ x. RawOutcome type s (found (value x.1) (bytes x.0))) (IsRefusal (RawOutcome type s) (RawHeavy type s))
raw_unlimited_result bytes value type d s (Ok x) e p = raw_unlimited d type s (found (value x.1) (bytes x.0)) (omega arith) p
raw_unlimited_result bytes value type d s (Err r) e p =
    IsRefusal-weaker (RawOutcomeWithin d type s) (RawOutcome type s) (RawHeavy type s) (RawHeavy type s) r (λ o x. raw_unlimited d type s o (omega arith) x) (λ h. h) p

-- so of any payload that isn't a short string's
pub raw_value_result : {I : Type 0} (bytes : I → List ℕ) (type : AMQPType) (d : ℕ) (s : List ℕ) (r : Result (I × AMQPValue) Refusal) → type ≢ amqp.ShortString → d ≡ length s
    → MatchResult r (λ x. RawOutcomeWithin d type s (found (view x.1) (bytes x.0))) (IsRefusal (RawOutcomeWithin d type s) (RawHeavy type s))
    → MatchResult r (λ x. RawOutcome type s (found (view x.1) (bytes x.0))) (RawRefuses type s)
raw_value_result bytes type d s (Ok x) no_short e p = raw_unlimited_result bytes view type d s (Ok x) e p
raw_value_result bytes type d s (Err r) no_short e p =
    raw_refused type s (RawHeavy type s) r (eof_of_type type no_short) (λ h. h) (raw_unlimited_result bytes view type d s (Err r) e p)
