-- Lemmas on errors of parsers (`IsRefusal`): if one is right of a payload or a type tag, it is
-- right of the value.
use Rattle.std.proofs.Common.{◌≡◌, ◌<◌, ◌≤◌, ◌∙◌, ℕ, suc, List, [], ◌∷◌, length, Option, ap, sym, subst, arith}
use Rattle.amqp_value_core.specs.declared.types.amqp_type.AMQPType.{AMQPType}
use Rattle.amqp_value_core.specs.Values.{Tree}
use Rattle.amqp_value_core.specs.Outcomes.{Reading, more, unknown, malformed, OutcomeBy, no_byte, no_tag, needs_more, Outcome, RawHeavy, Heavy, RawOutcome}
use Rattle.amqp_value_core.specs.Nesting.{WireWithin, OutcomeWithin}
use Rattle.amq_protocol_types.specs.declared.parsing.errors.Err.TheVariants.{Incomplete, Error, Failure}
use Rattle.amq_protocol_types.specs.declared.parsing.errors.Needed.{Needed}
use Rattle.amq_protocol_types.specs.declared.parsing.errors.Needed.TheVariants.{Unknown, Size}
use Rattle.amq_protocol_types.specs.declared.parsing.errors.ErrorKind.TheVariants.{MapOpt, MapRes, Eof, OutOfMemory, TooLarge}
use Rattle.amq_protocol_types.specs.parsing.Refusals.{Refusal}
use Rattle.amq_protocol_types.proofs.Extents.{whole_wants_none}
use Rattle.amq_protocol_types.specs.parsing.ParseResults.{IsRefusal}
use Rattle.amq_protocol_types.specs.parsing.PayloadResults.{OnlyLacks, bad_kind, RawRefuses, IsNoType}
use Rattle.amq_protocol_types.specs.parsing.Headers.{extent_at, extent, wanted_at, wanted, IsWholeValue}

-- an error stays right if what is read and when it allocates stay right
pub IsRefusal-weaker : (Is Now : Reading → Type 0) (heavy now : Type 0) (e : Refusal) → ((o : Reading) → Is o → Now o) → (heavy → now)
    → IsRefusal Is heavy e → IsRefusal Now now e
IsRefusal-weaker Is Now heavy now (Incomplete Unknown) f h x = x
IsRefusal-weaker Is Now heavy now (Incomplete (Size n)) f h x = f (more n) x
IsRefusal-weaker Is Now heavy now (Error MapOpt) f h x = f unknown x
IsRefusal-weaker Is Now heavy now (Error Eof) f h x = f malformed x
IsRefusal-weaker Is Now heavy now (Error MapRes) f h x = x
IsRefusal-weaker Is Now heavy now (Error OutOfMemory) f h x = x
IsRefusal-weaker Is Now heavy now (Error TooLarge) f h x = x
IsRefusal-weaker Is Now heavy now (Failure k) f h x = (x.0, h x.1)

-- the error of a payload, if it isn't a short string, and it allocates if the payload does
pub raw_refused : (type : AMQPType) (s : List ℕ) (heavy : Type 0) (e : Refusal) → bad_kind type ≡ Eof → (heavy → RawHeavy type s)
    → IsRefusal (RawOutcome type s) heavy e → RawRefuses type s e
raw_refused type s heavy (Incomplete Unknown) kind f x = absurd x
raw_refused type s heavy (Incomplete (Size n)) kind f x = x
raw_refused type s heavy (Error MapOpt) kind f x = absurd x
raw_refused type s heavy (Error Eof) kind f x = (sym kind, x)
raw_refused type s heavy (Error MapRes) kind f x = absurd x
raw_refused type s heavy (Error OutOfMemory) kind f x = absurd x
raw_refused type s heavy (Error TooLarge) kind f x = absurd x
raw_refused type s heavy (Failure k) kind f x = (x.0, f x.1)

-- if no type is read, that is what reading a value results in
pub no_type_by : (P : List ℕ → Tree → Type 0) (s : List ℕ) (o : Reading) → IsNoType s o → OutcomeBy P s o
no_type_by P [] o e = subst (OutcomeBy P []) (sym e) no_byte
no_type_by P (c ∷ b) o (e, k) = subst (OutcomeBy P (c ∷ b)) (sym e) (no_tag c b k)

pub no_type_outcome : (d : ℕ) (s : List ℕ) (o : Reading) → IsNoType s o → OutcomeWithin d s o
no_type_outcome d s o x = no_type_by (WireWithin d) s o x

pub no_type_refused : (d : ℕ) (s : List ℕ) (e : Refusal) → IsRefusal (IsNoType s) ⊥ e → IsRefusal (OutcomeWithin d s) (Heavy s) e
no_type_refused d s e x = IsRefusal-weaker (IsNoType s) (OutcomeWithin d s) ⊥ (Heavy s) e (no_type_outcome d s) (λ none. absurd none) x

-- of some bytes, that the first isn't a type tag
pub no_type_unknown : (frame : ℕ) (s : List ℕ) (e : Refusal) → 0 < length s → IsRefusal (IsNoType s) ⊥ e → Outcome s unknown × (extent s ≤ frame)
no_type_unknown frame [] e some x = absurd (omega arith)
no_type_unknown frame (c ∷ b) (Error MapOpt) some x = (no_tag c b x.1, omega (arith, ap (λ (o : Option AMQPType). extent_at o b) x.1))
no_type_unknown frame (c ∷ b) (Error Eof) some x = absurd (let e : malformed ≡ unknown = x.0 in cc)
no_type_unknown frame (c ∷ b) (Error MapRes) some x = absurd x
no_type_unknown frame (c ∷ b) (Error OutOfMemory) some x = absurd x
no_type_unknown frame (c ∷ b) (Error TooLarge) some x = absurd x
no_type_unknown frame (c ∷ b) (Incomplete Unknown) some x = absurd x
no_type_unknown frame (c ∷ b) (Incomplete (Size n)) some x = absurd (let e : more n ≡ unknown = x.0 in cc)
no_type_unknown frame (c ∷ b) (Failure k) some x = absurd x.1

-- whatever the depth
pub unknown_within : (d : ℕ) (s : List ℕ) → Outcome s unknown → OutcomeWithin d s unknown
unknown_within d _ (no_tag c b k) = no_tag c b k

-- a value that is all there asks for no more bytes
pub whole_asks_none : (d : ℕ) (s : List ℕ) (n : Needed) → IsWholeValue s → IsRefusal (OutcomeWithin d s) (Heavy s) (Incomplete n) → ⊥
whole_asks_none d s Unknown whole x = x
whole_asks_none d s (Size n) whole x = by s n (whole_wants_none s whole) x
  where
    by : (s : List ℕ) (n : ℕ) → wanted s ≡ 0 → OutcomeWithin d s (more n) → ⊥
    by _ _ none no_byte = cc
    by _ _ none (needs_more c type b n k e) = let some : suc n ≡ 0 = sym (ap (λ (o : Option AMQPType). wanted_at o b) k ∙ e) ∙ none in cc

-- an error that comes only if bytes are missing is an error
pub OnlyLacks-refuses : (Is : Reading → Type 0) (heavy : Type 0) (e : Refusal) → OnlyLacks Is heavy e → IsRefusal Is heavy e
OnlyLacks-refuses Is heavy (Incomplete lack) x = x
OnlyLacks-refuses Is heavy (Error kind) x = absurd x
OnlyLacks-refuses Is heavy (Failure kind) x = x
