-- `read_in_place`: why a body isn't read (`bad_value`, `bad_pair`), that one value is
-- (`one_value`), and that `to_owned` can read again what was read (`values_there`, `pairs_there`).
use Rattle.std.proofs.Common.{◌≡◌, ◌<◌, ℕ, List, length, refl, arith, ◌∙◌, sym, ap, ◌≤◌}
use Rattle.amqp_value_core.specs.declared.types.amqp_type.AMQPType.TheVariants as amqp
use Rattle.amqp_value_core.specs.Values.{Tree, Entries, short, array, table}
use Rattle.amqp_value_core.specs.Nesting.{OutcomeWithin}
use Rattle.amqp_value_core.specs.Outcomes.{Reading, found, malformed, Heavy, RawOutcome, Outcome}
use Rattle.amqp_value_core.proofs.GrammarLaws.{unlimited, prefix_within, one_mean, one_body_meaning, one_pairs_meaning, body_nesting-le, pairs_nesting-le, body_within, pairs_within}
use Rattle.amqp_in_place.specs.InPlaceResults.{IsLeft}
use Rattle.amqp_in_place.proofs.Refusals.{by_outcome}
use Rattle.amq_protocol_types.specs.declared.parsing.errors.Err.TheVariants.{Incomplete, Error, Failure}
use Rattle.amq_protocol_types.specs.declared.parsing.errors.Needed.TheVariants.{Size}
use Rattle.amq_protocol_types.specs.declared.parsing.errors.ErrorKind.TheVariants.{MapRes}
use Rattle.amq_protocol_types.specs.parsing.Refusals.{Refusal, inside}
use Rattle.amq_protocol_types.specs.parsing.ParseResults.{IsRefusal}
use Rattle.amq_protocol_types.specs.parsing.Bodies.{IsNoBody, IsNoTable}
use Rattle.amq_protocol_types.proofs.ParsingLaws.{IsRefusal-weaker, ArrayBodyRead, ArrayBodyRead-refused, TableBodyRead, TableBodyRead-bad_key, TableBodyRead-bad_value}
use Rattle.std.specs.Prelude.{All}
use Rattle.std.specs.Str.{IsUtf8}
use Rattle.std.proofs.lemmas.Str.{IsUtf8-from_ascii}
use Rattle.std.proofs.lemmas.Str.Ascii.{IsAscii-from_all}
use Rattle.amqp_in_place.specs.declared.refs.TableRef.{TableRef}
use Rattle.amqp_in_place.specs.declared.refs.ValueRef.{ValueRef}
use Rattle.amqp_in_place.specs.declared.refs.ValueRef.TheVariants as at
use Rattle.amqp_in_place.specs.Refs.{array_body, table_body, IsOneValue, IsOneTable}
use Rattle.std.proofs.Math.Logic.{∥∥₁_elim}
use Rattle.amq_protocol_types.specs.declared.parsing.errors.ErrorKind.{ErrorKind}
use Rattle.amqp_in_place.specs.Bodies.{HasValues, HasPairs}

-- bytes below 128 are UTF-8
pub all_ascii_is_utf8 : (s : List ℕ) → All (λ b. b < 128) s → IsUtf8 s
all_ascii_is_utf8 s ascii = IsUtf8-from_ascii s (IsAscii-from_all s ascii)

-- what isn't there when memory runs out isn't there
no_heavy : (Is : Reading → Type 0) (heavy : Type 0) (e : Refusal) → IsRefusal Is ⊥ e → IsRefusal Is heavy e
no_heavy Is heavy e x = IsRefusal-weaker Is Is ⊥ heavy e (λ o y. y) (λ h. absurd h) x

-- the error of what is in a body, if nothing is allocated: the body isn't one
reported : (Is Now : Reading → Type 0) (heavy : Type 0) (e : Refusal) → IsRefusal Is ⊥ e → IsRefusal Now heavy (inside e) → Now malformed
reported Is Now heavy (Incomplete m) x y = y
reported Is Now heavy (Error k) x y = y
reported Is Now heavy (Failure k) x y = absurd x.1

pub bad_value : (d : ℕ) (s : List ℕ) (xs : List Tree) (rest : List ℕ) (e : Refusal) → ArrayBodyRead d s xs rest → 0 < length rest
    → IsRefusal (OutcomeWithin d rest) ⊥ e → IsNoBody d s malformed
bad_value d s xs rest e g h x =
    reported (OutcomeWithin d rest) (IsNoBody d s) (0 < length s) e x (ArrayBodyRead-refused d s xs rest e g h (no_heavy (OutcomeWithin d rest) (Heavy rest) e x))

pub bad_pair : (d : ℕ) (s : List ℕ) (es : Entries) (rest k after : List ℕ) (e : Refusal) → TableBodyRead d s es rest
    → RawOutcome amqp.ShortString rest (found (short k) after) → IsRefusal (OutcomeWithin d after) ⊥ e → IsNoTable d s malformed
bad_pair d s es rest k after e g x y =
    reported (OutcomeWithin d after) (IsNoTable d s) (0 < length s) e y (TableBodyRead-bad_value d s es rest k after e g x (no_heavy (OutcomeWithin d after) (Heavy after) e y))

-- a key that isn't read
pub no_key_there : (d : ℕ) (s : List ℕ) (es : Entries) (rest : List ℕ) → TableBodyRead d s es rest → 0 < length rest → RawOutcome amqp.ShortString rest malformed → IsNoTable d s malformed
no_key_there d s es rest g h x = TableBodyRead-bad_key d s es rest (Error MapRes) g h (refl, x)

pub bad_key : (d : ℕ) (s : List ℕ) (es : Entries) (rest : List ℕ) (e : Refusal) → TableBodyRead d s es rest → 0 < length rest
    → IsRefusal (RawOutcome amqp.ShortString rest) ⊥ e → IsNoTable d s malformed
bad_key d s es rest e g h x =
    by_outcome (λ (e : Refusal). IsNoTable d s malformed) (RawOutcome amqp.ShortString rest) ⊥ (λ n y. TableBodyRead-bad_key d s es rest (Incomplete (Size n)) g h y)
    (λ y. absurd y) (no_key_there d s es rest g h) (λ k h. absurd h) e x

-- a depth that the bytes can't pass limits no error
pub unlimited_refused : (d : ℕ) (s : List ℕ) (e : Refusal) → d ≡ length s → IsRefusal (OutcomeWithin d s) ⊥ e → IsRefusal (Outcome s) ⊥ e
unlimited_refused d s e is x = IsRefusal-weaker (OutcomeWithin d s) (Outcome s) ⊥ ⊥ e (λ o y. unlimited d s o (omega arith) y) (λ h. h) x

-- what is found leaves the rest of the input
pub left_after : (d : ℕ) (s : List ℕ) (v : Tree) (rest : List ℕ) → OutcomeWithin d s (found v rest) → IsLeft s rest
left_after d s v rest x = let f = prefix_within d s rest v x in (f.0, f.2)

-- ---- what is referred to is one value

pub one_table : (t : TableRef) → IsOneTable t
one_table t es fs x y =
    let same = one_pairs_meaning (table_body t) (table_body t) x.0 y.0 x.1 y.1 refl in
    one_mean x.0 y.0 es fs same x.2 y.2

pub one_value : (r : ValueRef) → IsOneValue r
one_value (at.FieldArray a) u v x y =
    let same = one_body_meaning (array_body a) (array_body a) x.0 y.0 x.1 y.1 refl in
    x.2 ∙ (ap array same ∙ sym y.2)
one_value (at.FieldTable t) u v x y =
    x.2 ∙ (ap table (one_table t x.0 y.0 x.1 y.1) ∙ sym y.2)
one_value _ u v x y = x ∙ sym y

-- ---- reading again what was checked

pub no_prop : IsProp ⊥
no_prop x y = absurd x

-- if bytes are values, the only error is out of memory
pub values_there : (d : ℕ) (s : List ℕ) (e : Refusal) → length s ≤ d → ∥ HasValues s ∥₁ → IsRefusal (IsNoBody d s) (0 < length s) e → ((k : ErrorKind) → e ≡ Failure k → ⊥) → ⊥
values_there d s e deep has x other =
    by_outcome (λ (e : Refusal). ((k : ErrorKind) → e ≡ Failure k → ⊥) → ⊥) (IsNoBody d s) (0 < length s) (λ n y. absurd y) (λ y. absurd y)
    (λ y f. absurd (∥∥₁_elim has no_prop (λ (p : HasValues s). y p.0 (body_within d s p.0 p.1 (omega (arith, body_nesting-le s p.0 p.1))))))
    (λ k h f. f k refl) e x other

-- and if they are pairs
pub pairs_there : (d : ℕ) (s : List ℕ) (e : Refusal) → length s ≤ d → ∥ HasPairs s ∥₁ → IsRefusal (IsNoTable d s) (0 < length s) e → ((k : ErrorKind) → e ≡ Failure k → ⊥) → ⊥
pairs_there d s e deep has x other =
    by_outcome (λ (e : Refusal). ((k : ErrorKind) → e ≡ Failure k → ⊥) → ⊥) (IsNoTable d s) (0 < length s) (λ n y. absurd y) (λ y. absurd y)
    (λ y f. absurd (∥∥₁_elim has no_prop (λ (p : HasPairs s). y p.0 (pairs_within d s p.0 p.1 (omega (arith, pairs_nesting-le s p.0 p.1))))))
    (λ k h f. f k refl) e x other
