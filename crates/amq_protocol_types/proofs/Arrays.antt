-- Lemmas for `gen_field_array`, which writes values one after another, after their length.
use Rattle.std.proofs.Common.{◌≡◌, ℕ, ◌+◌, ◌<◌, List, [], ◌∷◌, ◌++◌, length, get_or, take, sym, ap, ◌∙◌, subst, zero, suc, ◌≤◌, replicate, arith, append_assoc, append-nil, length-append, true, Result, Ok, Err, OnOk}
use Rattle.std.proofs.lemmas.List.{take_more, take_all}
use Rattle.amqp_value_core.specs.declared.value.AMQPValue.{AMQPValue}
use Rattle.amqp_value_core.specs.View.{view}
use Rattle.amqp_value_core.specs.Containers.{trees}
use Rattle.amqp_value_core.specs.InMemory.{IsValue, AreValues}
use Rattle.amqp_value_core.specs.declared.types.amqp_type.AMQPType.{AMQPType}
use Rattle.amqp_value_core.specs.Values.{Tree, scalar, short, long, octets, array, table, type_of}
use Rattle.amqp_value_core.specs.Texts.{payload, text, body, Fits, AllFit}
use Rattle.amqp_value_core.specs.Ids.{id_of}
use Rattle.amqp_value_core.specs.Grammar.{long_field}
use Rattle.amq_protocol_types.specs.declared.generation.error.GenError.{GenError}
use Rattle.amq_protocol_types.specs.generation.Outputs.{OutputState, Writes}
use Rattle.amq_protocol_types.specs.generation.BufferOutput.{IsConsistentOutput, TruncatesTo, PatchesLength}
use Rattle.amq_protocol_types.proofs.Steps.{refused_inside, length_put}

-- the first items and the next one
pub taken_more : {A : Type 0} (vs : List A) (k : ℕ) (v : A) → k < length vs → v ≡ get_or vs k v → take k vs ++ v ∷ [] ≡ take (k + 1) vs
taken_more vs k v h e = ap (λ u. take k vs ++ u ∷ []) e ∙ sym (take_more vs k v h)

-- if one more is a value, all are
values_more : (vs : List AMQPValue) (v : AMQPValue) → AreValues (trees vs) → IsValue (view v) → AreValues (trees (vs ++ v ∷ []))
values_more [] v p q = (q, tt)
values_more (u ∷ vs) v p q = (p.0, values_more vs v p.1 q)

pub values_next : (vs : List AMQPValue) (k : ℕ) (v : AMQPValue) → k < length vs → v ≡ get_or vs k v → AreValues (trees (take k vs)) → IsValue (view v) → AreValues (trees (take (k + 1) vs))
values_next vs k v h e p q =
    let P : List AMQPValue → Type 0 = λ us. AreValues (trees us) in
    subst P (taken_more vs k v h e) (values_more (take k vs) v p q)

-- a type tag and the payload are the canonical encoding
pub text_of : (v : Tree) (type : AMQPType) → type ≡ type_of v → text v ≡ id_of type ∷ [] ++ payload v
text_of v type e = ap (λ t. id_of t ∷ payload v) (sym e)

-- a type tag is one byte
pub longer_by_id : (v : Tree) → 1 + length (payload v) ≤ length (text v)
longer_by_id (scalar x) = omega arith
longer_by_id (short s) = omega arith
longer_by_id (long s) = omega arith
longer_by_id (octets s) = omega arith
longer_by_id (array vs) = omega arith
longer_by_id (table es) = omega arith

-- the canonical encodings of some values, and then that of one more
body_more : (vs : List AMQPValue) (v : AMQPValue) → body (trees (vs ++ v ∷ [])) ≡ body (trees vs) ++ text (view v)
body_more [] v = append-nil (text (view v))
body_more (u ∷ vs) v = ap (λ l. text (view u) ++ l) (body_more vs v) ∙ sym (append_assoc (text (view u)) (body (trees vs)) (text (view v)))

-- if one more fits, all do
fit_more : (vs : List AMQPValue) (v : AMQPValue) → AllFit (trees vs) → Fits (view v) → AllFit (trees (vs ++ v ∷ []))
fit_more [] v p q = (q, tt)
fit_more (u ∷ vs) v p q = (p.0, fit_more vs v p.1 q)

-- their canonical encodings, after four reserved bytes
pub body_next : (vs : List AMQPValue) (k : ℕ) (v : AMQPValue) → k < length vs → v ≡ get_or vs k v → replicate 4 0 ++ body (trees (take (k + 1) vs)) ≡ replicate 4 0 ++ body (trees (take k vs)) ++ text (view v)
body_next vs k v h e = ap (λ l. replicate 4 0 ++ l) (ap (λ us. body (trees us)) (sym (taken_more vs k v h e)) ∙ body_more (take k vs) v)

pub fit_next : (vs : List AMQPValue) (k : ℕ) (v : AMQPValue) → k < length vs → v ≡ get_or vs k v → AllFit (trees (take k vs)) → Fits (view v) → AllFit (trees (take (k + 1) vs))
fit_next vs k v h e p q =
    let P : List AMQPValue → Type 0 = λ us. AllFit (trees us) in
    subst P (taken_more vs k v h e) (fit_more (take k vs) v p q)

-- if all fit, each does
fits_at : (vs : List AMQPValue) (k : ℕ) (d : AMQPValue) → k < length vs → AllFit (trees vs) → Fits (view (get_or vs k d))
fits_at [] k d h p = absurd (omega arith)
fits_at (v ∷ vs) zero d h p = p.0
fits_at (v ∷ vs) (suc k) d h p = fits_at vs k d (omega arith) p.1

-- the encodings of the first values and that of the next are no longer than all of them
within_at : (vs : List AMQPValue) (k : ℕ) (d : AMQPValue) → k < length vs → length (body (trees (take k vs))) + length (text (view (get_or vs k d))) ≤ length (body (trees vs))
within_at [] k d h = absurd (omega arith)
within_at (v ∷ vs) zero d h = omega (arith, length-append (text (view v)) (body (trees vs)))
within_at (v ∷ vs) (suc k) d h = omega (arith, length-append (text (view v)) (body (trees vs)), length-append (text (view v)) (body (trees (take k vs))), within_at vs k d (omega arith))

-- what each element fits, by the element's own name
pub fits_of : (vs : List AMQPValue) (k : ℕ) (v : AMQPValue) → k < length vs → v ≡ get_or vs k v → AllFit (trees vs) → Fits (view v)
fits_of vs k v h e p =
    let P : AMQPValue → Type 0 = λ u. Fits (view u) in
    subst P (sym e) (fits_at vs k v h p)

pub within_of : (vs : List AMQPValue) (k : ℕ) (v : AMQPValue) → k < length vs → v ≡ get_or vs k v → length (body (trees (take k vs))) + length (text (view v)) ≤ length (body (trees vs))
within_of vs k v h e =
    let P : AMQPValue → Type 0 = λ u. length (body (trees (take k vs))) + length (text (view u)) ≤ length (body (trees vs)) in
    subst P (sym e) (within_at vs k v h)

-- the first k values were put after four reserved bytes
abbrev pub HasPutValues : List AMQPValue → ℕ → OutputState → OutputState → Type 0
HasPutValues vs k s t = Writes true (AllFit (trees (take k vs))) (replicate 4 0 ++ body (trees (take k vs))) s (Ok tt) t

-- what an array's generator must promise
abbrev pub ArrayOwes : List AMQPValue → OutputState → Result (Unit {0}) GenError → OutputState → Type 0
ArrayOwes vs s r t = Writes true (Fits (array (trees vs))) (long_field (body (trees vs))) s r t

-- the next value was rejected, and all was taken back
pub value_refused : (vs items : List AMQPValue) (k : ℕ) (v : AMQPValue) (at : ℕ) {s t u w : OutputState} {e : GenError} → vs ≡ items → k < length vs → v ≡ get_or vs k v → at ≡ s.position → IsConsistentOutput s → HasPutValues vs k s t → Writes true (Fits (view v)) (text (view v)) t (Err e) u → TruncatesTo at u w → ArrayOwes items s (Err e) w
value_refused vs items k v at {s = s} {w = w} {e = e} all more next place whole p q back =
    let P : List AMQPValue → Type 0 = λ us. ArrayOwes us s (Err e) w in
    subst P all (refused_inside _ (body (trees vs)) (Fits (array (trees vs))) at place whole (within_of vs k v more next) (λ fit. fits_of vs k v more next fit.1) p q back)

-- once k counts them all, all were put
all_put : (vs : List AMQPValue) (k : ℕ) (s t : OutputState) → length vs ≤ k → HasPutValues vs k s t → Writes true (AllFit (trees vs)) (replicate 4 0 ++ body (trees vs)) s (Ok tt) t
all_put vs k s t done p =
    let P : List AMQPValue → Type 0 = λ us. Writes true (AllFit (trees us)) (replicate 4 0 ++ body (trees us)) s (Ok tt) t in
    subst P (take_all k vs done) p

-- their length was filled in, or rejected
pub array_closed : (vs items : List AMQPValue) (k at : ℕ) {s t w : OutputState} (r : Result (Unit {0}) GenError) → vs ≡ items → length vs ≤ k → at ≡ s.position → IsConsistentOutput s → HasPutValues vs k s t → PatchesLength at t r w → ArrayOwes items s r w
array_closed vs items k at {s = s} {t = t} {w = w} r all done place whole p f =
    let P : List AMQPValue → Type 0 = λ us. ArrayOwes us s r w in
    subst P all (length_put (body (trees vs)) r _ at place whole (λ many fit. omega (arith, fit.0)) (λ few fit. (omega arith, fit)) (all_put vs k s t done p) f)

-- all of them are a value, whatever comes of their length
pub array_value : (vs items : List AMQPValue) (k : ℕ) (r : Result (Unit {0}) GenError) → vs ≡ items → length vs ≤ k → AreValues (trees (take k vs)) → OnOk r (IsValue (array (trees items)))
array_value vs items k (Ok _) all done is =
    let P : List AMQPValue → Type 0 = λ us. AreValues (trees us) in
    subst P all (subst P (take_all k vs done) is)
array_value vs items k (Err _) all done is = tt
