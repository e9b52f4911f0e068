-- Lemmas for `gen_field_table`, which writes entries one after another, after their length.
use Rattle.std.proofs.Common.{◌≡◌, ℕ, ◌+◌, ◌≤◌, true, Result, Ok, Err, OnOk, List, [], ◌∷◌, ◌++◌, length, replicate, refl, sym, ap, ◌∙◌, subst, arith, append_assoc, append-nil, length-append}
use Rattle.std.specs.Ordering.{nat_cmp}
use Rattle.std.specs.Cmp.Lexicographic.{slice_cmp}
use Rattle.std.specs.List.Sorted.{IsStrictlySortedBy}
use Rattle.std.specs.Map.{keys_of}
use Rattle.amqp_value_core.specs.declared.types.amqp_type.AMQPType.{AMQPType}
use Rattle.amqp_value_core.specs.declared.value.AMQPValue.{AMQPValue}
use Rattle.amqp_value_core.specs.Values.{Tree, table, type_of}
use Rattle.amqp_value_core.specs.Ids.{id_of}
use Rattle.amqp_value_core.specs.Bytes.{IsShort}
use Rattle.amqp_value_core.specs.Grammar.{short_field, long_field}
use Rattle.amqp_value_core.specs.View.{view}
use Rattle.amqp_value_core.specs.Containers.{entries}
use Rattle.amqp_value_core.specs.Texts.{text, payload, pairs, Fits, EntriesFit}
use Rattle.amqp_value_core.specs.InMemory.{IsValue, AreEntries}
use Rattle.amq_protocol_types.specs.declared.generation.error.GenError.{GenError}
use Rattle.amq_protocol_types.specs.generation.Outputs.{OutputState, Writes}
use Rattle.amq_protocol_types.specs.generation.BufferOutput.{IsConsistentOutput, TruncatesTo, PatchesLength}
use Rattle.amq_protocol_types.proofs.Arrays.{text_of}
use Rattle.amq_protocol_types.proofs.Steps.{both_put, refused, refused_inside, length_put}

-- the entries of a table, with their values in memory
abbrev pub Stored : Type 0
Stored = List (List ℕ × AMQPValue)

-- ---- some entries, and others after them

-- the encodings of both
pairs-append : (es fs : Stored) → pairs (entries (es ++ fs)) ≡ pairs (entries es) ++ pairs (entries fs)
pairs-append [] fs = refl
pairs-append (e ∷ es) fs =
    ap (λ l. short_field e.0 ++ (text (view e.1) ++ l)) (pairs-append es fs)
    ∙ ap (λ l. short_field e.0 ++ l) (sym (append_assoc (text (view e.1)) (pairs (entries es)) (pairs (entries fs))))
    ∙ sym (append_assoc (short_field e.0) (text (view e.1) ++ pairs (entries es)) (pairs (entries fs)))

-- if one more fits, all do
fit_more : (es : Stored) (k : List ℕ) (v : AMQPValue) → EntriesFit (entries es) → Fits (view v) → EntriesFit (entries (es ++ (k, v) ∷ []))
fit_more [] k v p q = (q, tt)
fit_more (e ∷ es) k v p q = (p.0, fit_more es k v p.1 q)

-- if all fit, each does
fit_after : (es : Stored) (k : List ℕ) (v : AMQPValue) (fs : Stored) → EntriesFit (entries (es ++ (k, v) ∷ fs)) → Fits (view v)
fit_after [] k v fs p = p.0
fit_after (e ∷ es) k v fs p = fit_after es k v fs p.1

-- ---- keys and values

-- each key is a short string, and each value one
abbrev pub AreStoredEntries : Stored → Type 0
AreStoredEntries [] = Unit {0}
AreStoredEntries (e ∷ es) = (IsShort e.0 × IsValue (view e.1)) × AreStoredEntries es

stored_more : (es : Stored) (k : List ℕ) (v : AMQPValue) → AreStoredEntries es → IsShort k → IsValue (view v) → AreStoredEntries (es ++ (k, v) ∷ [])
stored_more [] k v p is value = ((is, value), tt)
stored_more (e ∷ es) k v p is value = (p.0, stored_more es k v p.1 is value)

-- with sorted keys they are a value's entries
are_entries : (es : Stored) → IsStrictlySortedBy (slice_cmp nat_cmp) (keys_of es) → AreStoredEntries es → AreEntries (entries es)
unfolding IsStrictlySortedBy
are_entries [] rising p = tt
are_entries (e ∷ []) rising p = (p.0.0, p.0.1, tt, tt)
are_entries (e ∷ f ∷ es) rising p = (p.0.0, p.0.1, rising.0.0, are_entries (f ∷ es) rising.1 p.1)

-- ---- writing

-- of all entries some were put after four reserved bytes, and these are left
pub record HasPutEntries (all left : Stored) (s t : OutputState) : Type 0 where
  pub done : Stored
  pub split : done ++ left ≡ all
  pub written : Writes true (EntriesFit (entries done)) (replicate 4 0 ++ pairs (entries done)) s (Ok tt) t
  pub stored : AreStoredEntries done

-- four bytes were reserved
pub none_put : (all left : Stored) {s t : OutputState} → left ≡ all → Writes true (Unit {0}) (replicate 4 0) s (Ok tt) t → HasPutEntries all left s t
none_put all left same p = record { done = []; split = same; written = p; stored = tt }

-- one more entry was put
pub one_more_put : {all left rest : Stored} (k : List ℕ) (v : AMQPValue) {s t u : OutputState} → left ≡ (k, v) ∷ rest → IsShort k → IsValue (view v) → HasPutEntries all left s t → Writes true (Fits (view v)) (short_field k ++ text (view v)) t (Ok tt) u → HasPutEntries all rest s u
one_more_put {rest = rest} k v here is value p q =
    let done = p.done ++ (k, v) ∷ [] in
    let last : pairs (entries ((k, v) ∷ [])) ≡ short_field k ++ text (view v) = ap (λ l. short_field k ++ l) (append-nil (text (view v))) in
    let bytes : replicate 4 0 ++ pairs (entries done) ≡ replicate 4 0 ++ pairs (entries p.done) ++ (short_field k ++ text (view v)) =
    ap (λ l. replicate 4 0 ++ l) (pairs-append p.done ((k, v) ∷ []) ∙ ap (λ l. pairs (entries p.done) ++ l) last) in
    record {
      done = done;
      split = append_assoc p.done ((k, v) ∷ []) rest ∙ ap (λ l. p.done ++ l) (sym here) ∙ p.split;
      written = both_put _ _ bytes (fit_more p.done k v) p.written q;
      stored = stored_more p.done k v p.stored is value;
    }

-- a key with the type tag, and the payload
pub key_then : (k name : List ℕ) (v : Tree) (type : AMQPType) → name ≡ k → type ≡ type_of v → short_field k ++ text v ≡ (short_field name ++ id_of type ∷ []) ++ payload v
key_then k name v type same e =
    ap (λ s. short_field s ++ text v) (sym same) ∙ ap (λ l. short_field name ++ l) (text_of v type e) ∙ sym (append_assoc (short_field name) (id_of type ∷ []) (payload v))

-- an entry's key and type tag were put and its payload rejected, and they were taken back
pub key_taken_back : {A : Type 0} (k name : List ℕ) (v : Tree) (type : AMQPType) (at : ℕ) {s t u w : OutputState} {e : GenError} → name ≡ k → type ≡ type_of v → at ≡ s.position → IsConsistentOutput s → Writes true A (short_field name ++ id_of type ∷ []) s (Ok tt) t → Writes true (Fits v) (payload v) t (Err e) u → TruncatesTo at u w → Writes true (Fits v) (short_field k ++ text v) s (Err e) w
key_taken_back k name v type at same is place whole p q back =
    let long = ap length (key_then k name v type same is) ∙ length-append (short_field name ++ id_of type ∷ []) (payload v) in
    refused (Fits v) (short_field k ++ text v) at place whole (omega (arith, long)) (λ fit. fit) p q back

-- what a table's generator must promise
abbrev pub TableOwes : Stored → OutputState → Result (Unit {0}) GenError → OutputState → Type 0
TableOwes all s r w = Writes true (Fits (table (entries all))) (long_field (pairs (entries all))) s r w

-- the next entry was rejected, and all was taken back
pub entry_refused : {all left rest : Stored} (k : List ℕ) (v : AMQPValue) (at : ℕ) {s t u w : OutputState} {e : GenError} → left ≡ (k, v) ∷ rest → at ≡ s.position → IsConsistentOutput s → HasPutEntries all left s t → Writes true (Fits (view v)) (short_field k ++ text (view v)) t (Err e) u → TruncatesTo at u w → TableOwes all s (Err e) w
entry_refused {rest = rest} k v at {s = s} {w = w} {e = e} here place whole p q back =
    let split : p.done ++ (k, v) ∷ rest ≡ _ = ap (λ l. p.done ++ l) (sym here) ∙ p.split in
    let some = pairs (entries p.done) in
    let long : length some + length (short_field k ++ text (view v)) ≤ length (pairs (entries (p.done ++ (k, v) ∷ rest))) =
    omega (arith, ap length (pairs-append p.done ((k, v) ∷ rest)), length-append some (pairs (entries ((k, v) ∷ rest))), length-append k (text (view v)), length-append k (text (view v) ++ pairs (entries rest)), length-append (text (view v)) (pairs (entries rest))) in
    let P : Stored → Type 0 = λ es. TableOwes es s (Err e) w in
    subst P split (refused_inside some _ _ at place whole long (λ fit. fit_after p.done k v rest fit.1) p.written q back)

-- all entries were put
all_put : {all left : Stored} {s t : OutputState} → left ≡ [] → (p : HasPutEntries all left s t) → p.done ≡ all
all_put none p = sym (append-nil p.done) ∙ ap (λ l. p.done ++ l) (sym none) ∙ p.split

-- their length was filled in, or rejected
pub table_closed : {all left : Stored} (at : ℕ) {s t w : OutputState} (r : Result (Unit {0}) GenError) → left ≡ [] → at ≡ s.position → IsConsistentOutput s → HasPutEntries all left s t → PatchesLength at t r w → TableOwes all s r w
table_closed at {s = s} {w = w} r none place whole p f =
    let es = entries p.done in
    let P : Stored → Type 0 = λ fs. TableOwes fs s r w in
    subst P (all_put none p) (length_put (pairs es) r _ at place whole (λ many fit. omega (arith, fit.0)) (λ few fit. (omega arith, fit)) p.written f)

-- all of them are a value, whatever comes of their length
pub table_value : {all left from : Stored} {s t : OutputState} (r : Result (Unit {0}) GenError) → left ≡ [] → from ≡ all → IsStrictlySortedBy (slice_cmp nat_cmp) (keys_of from) → HasPutEntries all left s t → OnOk r (IsValue (table (entries all)))
table_value {all = all} (Ok _) none same rising p =
    let P : Stored → Type 0 = λ es. IsStrictlySortedBy (slice_cmp nat_cmp) (keys_of es) in
    are_entries all (subst P same rising) (subst AreStoredEntries (all_put none p) p.stored)
table_value (Err _) none same rising p = tt
