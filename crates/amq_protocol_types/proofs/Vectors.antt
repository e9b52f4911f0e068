-- Lemmas on the results of generators, for the laws of writing and for `to_vec`: a buffer takes what
-- fits its capacity, and a vector fails only if memory runs out, or for a length.
use Rattle.std.proofs.Common.{◌≡◌, ◌≢◌, ◌+◌, ◌^◌, ◌<◌, ◌≤◌, ◌⊎◌, inl, inr, ℕ, Bool, true, List, length, Option, Some, IfSome, Vec, Result, Err, IsOk, refl, subst, arith}
use Rattle.amqp_value_core.specs.Values.{Tree, table, Entries}
use Rattle.amqp_value_core.specs.Texts.{Fits}
use Rattle.amqp_value_core.specs.Grammar.{Wire, Raw}
use Rattle.amqp_value_core.proofs.GrammarLaws.{bounded_wire, what_raw_reads}
use Rattle.amqp_value_core.specs.declared.types.amqp_type.AMQPType.TheVariants as amqp
use Rattle.amq_protocol_types.specs.declared.generation.error.GenError.{GenError}
use Rattle.amq_protocol_types.specs.declared.generation.error.GenError.TheVariants.{BufferTooSmall, LengthTooLong, OutOfMemory, IoError, InvalidOffset}
use Rattle.amq_protocol_types.specs.generation.Outputs.{OutputState, Writes}
use Rattle.amq_protocol_types.specs.generation.OutputViews.{seen_vector}
use Rattle.amq_protocol_types.specs.generation.NewVectors.{IsNotEncoded}

-- what fits the capacity is written
pub has_capacity : {b : Bool} {A : Type 0} {xs : List ℕ} {s t : OutputState} {r : Result (Unit {0}) GenError} (n : ℕ)
    → Writes b A xs s r t → s.capacity ≡ Some n → A → length xs ≤ n → IsOk r
has_capacity {xs = xs} {r = r} n p capacity fits enough =
    let P : Option ℕ → Type 0 = λ o. IfSome o (λ m. length xs ≤ m → IsOk r) in
    subst P capacity (p.succeeds fits) enough

-- an error of a vector, once an offset that is too great is turned into a length that is too long
pub not_encoded : {Z : Type 0} {A B : Type 0} {xs : List ℕ} (old new : Vec ℕ Z) (e turned : GenError)
    → Writes true A xs (seen_vector old) (Err e) (seen_vector new) → (B → A)
    → (e ≢ InvalidOffset → turned ≡ e) → (e ≡ InvalidOffset → (turned ≡ LengthTooLong) × (B → ⊥)) → IsNotEncoded B turned
not_encoded old new BufferTooSmall turned p lengths other offset = let (c, is, less) = p.fails.too_small refl in absurd cc
not_encoded old new LengthTooLong turned p lengths other offset = inr (other (λ is. cc), λ fits. p.fails.too_long refl (lengths fits))
not_encoded old new OutOfMemory turned p lengths other offset = inl (other (λ is. cc))
not_encoded old new (IoError kind) turned p lengths other offset = elim (p.fails.failed kind refl) [ inl more ↦ absurd (omega arith) | inr full ↦ absurd (omega arith) ]
not_encoded old new InvalidOffset turned p lengths other offset = inr (offset refl)

-- if each length fits, only memory can be lacking
for_memory : {A : Type 0} (e : GenError) → IsNotEncoded A e → A → e ≡ OutOfMemory
for_memory e (inl memory) fits = memory
for_memory e (inr (is, unfit)) fits = absurd (unfit fits)

-- so if each length fits, and the position after the bytes fits 64 bits
pub only_memory : {Z : Type 0} {A : Type 0} {xs : List ℕ} (old new : Vec ℕ Z) (e : GenError)
    → Writes true A xs (seen_vector old) (Err e) (seen_vector new) → A → length old.items + length xs < 2 ^ 64 → e ≡ OutOfMemory
only_memory {A = A} old new e p fits few =
    for_memory e (not_encoded {B = A} old new e e p (λ each. each) (λ _. refl) (λ is. absurd (omega (arith, few, p.fails.offset is)))) fits

-- of a value or a table that was parsed each length fits
pub parsed_value : (v : Tree) (e : GenError) → IsNotEncoded (Fits v) e → (w : List ℕ) → Wire w v → e ≡ OutOfMemory
parsed_value v e p w is = for_memory e p (bounded_wire w v is).fits

pub parsed_table : (es : Entries) (e : GenError) → IsNotEncoded (Fits (table es)) e → (b : List ℕ) → Raw amqp.FieldTable b (table es) → e ≡ OutOfMemory
parsed_table es e p b is = for_memory e p (what_raw_reads amqp.FieldTable b (table es) (λ same. cc) is).0
