-- Lemmas on `Writes`, most of them for a buffer: two calls that follow one another write the bytes
-- of both, or the second fails and those of the first are taken back.
use Rattle.std.proofs.Common.{◌≡◌, ℕ, ◌+◌, ◌-◌, ◌^◌, ◌<◌, ◌≤◌, inl, inr, Bool, true, IfSome, OnOk, Result, Ok, Err, List, [], ◌++◌, length, take, drop, replicate, refl, sym, ap, ◌∙◌, subst, arith, length-append}
use Rattle.std.specs.Option.{option_map}
use Rattle.std.specs.Io.KnownBytes.{Appends}
use Rattle.std.proofs.KnownBytes.{Appends-trans}
use Rattle.std.proofs.lemmas.List.{drop-drop}
use Rattle.std.specs.Int.{w32, to_be_bytes}
use Rattle.amqp_value_core.specs.Grammar.{long_field}
use Rattle.amq_protocol_types.specs.declared.generation.error.GenError.{GenError}
use Rattle.amq_protocol_types.specs.declared.generation.error.GenError.TheVariants.{LengthTooLong}
use Rattle.amq_protocol_types.specs.generation.Outputs.{OutputState, Writes, HasFailed}
use Rattle.amq_protocol_types.specs.generation.BufferOutput.{IsConsistentOutput, TruncatesTo, PatchesLength, filled}
use Rattle.amq_protocol_types.proofs.Capacities.{both_fit, both_left, capacity_back, both_too_many, still_fixed, rest_fits, reported_back, prefix_overwritten, any_capacity}

-- bytes were put: what holds of errors then holds too
pub bytes_put : {b : Bool} {A : Type 0} {xs : List ℕ} {s t : OutputState} → Appends s.written t.written xs → t.position ≡ s.position + length xs → t.tail ≡ drop (length xs) s.tail → A
    → IfSome s.capacity (λ capacity. length xs ≤ capacity) → t.capacity ≡ option_map (λ capacity. capacity - length xs) s.capacity → s.faults ≤ t.faults → Writes b A xs s (Ok tt) t
bytes_put {s = s} appended moved tail fits capacity left faults = record {
  wrote = record { appended = appended; moved = moved; tail = tail; fits = fits; capacity = capacity; capacity_left = left };
  stays = λ _. tt;
  succeeds = λ _. any_capacity _ s.capacity _ refl;
  fails = tt;
  faults = faults;
}

-- if bytes were put, each length in them fits its field
pub lengths_of : {b : Bool} {A : Type 0} {xs : List ℕ} {s t : OutputState} (r : Result (Unit {0}) GenError) → Writes b A xs s r t → OnOk r A
lengths_of (Ok _) p = p.wrote.fits
lengths_of (Err _) p = tt

-- xs were put, and then ys: so both were
pub both_put : {b : Bool} {A B : Type 0} {xs ys : List ℕ} {s t u : OutputState} (C : Type 0) (zs : List ℕ) → zs ≡ xs ++ ys → (A → B → C) → Writes b A xs s (Ok tt) t → Writes b B ys t (Ok tt) u → Writes b C zs s (Ok tt) u
both_put {xs = xs} {ys = ys} {s = s} {t = t} {u = u} C zs both lengths p q =
    let sum : length zs ≡ length xs + length ys = ap length both ∙ length-append xs ys in
    let P : List ℕ → Type 0 = λ l. Appends s.written u.written l in
    bytes_put (subst P (sym both) (Appends-trans s.written t.written u.written xs ys p.wrote.appended q.wrote.appended)) (omega (arith, p.wrote.moved, q.wrote.moved))
    (q.wrote.tail ∙ ap (drop (length ys)) p.wrote.tail ∙ drop-drop (length ys) (length xs) s.tail ∙ ap (λ n. drop n s.tail) (sym sum)) (lengths p.wrote.fits q.wrote.fits)
    (both_fit s.capacity t.capacity _ _ _ sum p.wrote.capacity p.wrote.capacity_left q.wrote.capacity) (both_left s.capacity t.capacity u.capacity _ _ _ sum p.wrote.capacity_left q.wrote.capacity_left) (omega (arith, p.faults, q.faults))

-- a device that failed in a later call has failed since an earlier one
pub failed_since : (s t u w : OutputState) → s.faults ≤ t.faults → w.faults ≡ u.faults → HasFailed t u → HasFailed s w
failed_since s t u w before after (inl more) = inl (omega arith)
failed_since s t u w before after (inr most) = inr (after ∙ most)

-- xs were put, ys rejected, and xs taken back: so more than both was rejected
pub refused : {A B : Type 0} {xs ys : List ℕ} {s t u w : OutputState} {e : GenError} (C : Type 0) (zs : List ℕ) (at : ℕ) → at ≡ s.position → IsConsistentOutput s → length xs + length ys ≤ length zs → (C → B) → Writes true A xs s (Ok tt) t → Writes true B ys t (Err e) u → TruncatesTo at u w → Writes true C zs s (Err e) w
refused {xs = xs} {ys = ys} {s = s} {t = t} {u = u} {w = w} {e = e} C zs at place whole long lengths p q back =
    let done = p.wrote in
    let kept = q.stays refl in
    let error = q.fails in
    let cut : u.position - at ≡ length xs = omega (arith, done.moved, kept.position) in
    record {
      wrote = tt;
      stays = λ _. record {
        position = back.position ∙ place;
        written = reported_back s.written t.written w.written s.position xs whole.counted whole.written done.appended (back.written ∙ (λ i. option_map (take (place i)) (kept.written i)));
        capacity = capacity_back s.capacity t.capacity w.capacity (length xs) done.capacity done.capacity_left (back.capacity ∙ (λ i. option_map (λ n. n + cut i) (kept.capacity i)));
      };
      succeeds = λ c. rest_fits _ s.capacity t.capacity _ _ _ long done.capacity_left (q.succeeds (lengths c));
      fails = record {
        too_small = λ is. both_too_many s.capacity t.capacity _ _ _ long done.capacity done.capacity_left (error.too_small is);
        too_long = λ is c. error.too_long is (lengths c);
        failed = λ kind is. failed_since s t u w p.faults back.faults (error.failed kind is);
        offset = λ is. omega (arith, error.offset is, done.moved);
        memory = λ is. error.memory is;
        no_other = λ fixed. error.no_other (still_fixed s.capacity t.capacity _ done.capacity_left fixed);
      };
      faults = omega (arith, p.faults, q.faults, back.faults);
    }

-- a length that doesn't fit its field is rejected if nothing more was written
refused_as_long : (s : OutputState) (C : Type 0) → (C → ⊥) → Writes true C [] s (Err LengthTooLong) s
refused_as_long s C long = record {
  wrote = tt;
  stays = λ _. record { position = refl; written = refl; capacity = refl };
  succeeds = λ c. absurd (long c);
  fails = record { too_small = λ e. cc; too_long = λ _. long; failed = λ kind e. cc; offset = λ e. cc; memory = λ e. cc; no_other = λ _. inr refl };
  faults = omega arith;
}

-- zeros were put, and then more; the zeros were overwritten
pub filled_in : {A : Type 0} (zeros more : List ℕ) {s t : OutputState} (C : Type 0) (ys : List ℕ) → IsConsistentOutput s → length zeros ≡ length ys → (A → C) → Writes true A (zeros ++ more) s (Ok tt) t → Writes true C (ys ++ more) s (Ok tt) (filled t s.position ys)
filled_in zeros more {s = s} {t = t} C ys whole same lengths p =
    let sum : length (ys ++ more) ≡ length (zeros ++ more) = length-append ys more ∙ ap (λ n. n + length more) (sym same) ∙ sym (length-append zeros more) in
    let Fit : ℕ → Type 0 = λ n. IfSome s.capacity (λ capacity. n ≤ capacity) in
    bytes_put (prefix_overwritten s.written t.written s.position zeros ys more whole.counted same p.wrote.appended) (p.wrote.moved ∙ ap (λ n. s.position + n) (sym sum))
    (p.wrote.tail ∙ ap (λ n. drop n s.tail) (sym sum)) (lengths p.wrote.fits) (subst Fit (sym sum) p.wrote.capacity) (p.wrote.capacity_left ∙ ap (λ n. option_map (λ m. m - n) s.capacity) (sym sum)) p.faults

-- what a buffer wrote, whatever shows that it is one
pub by_buffer : {b : Bool} {A : Type 0} {xs : List ℕ} {s t : OutputState} → b ≡ true → Writes b A xs s (Ok tt) t → Writes true A xs s (Ok tt) t
by_buffer {A = A} {xs = xs} {s = s} {t = t} e p =
    let P : Bool → Type 0 = λ c. Writes c A xs s (Ok tt) t in
    subst P e p

-- after four reserved bytes some bytes of `all` were put, ys rejected, and all taken back
pub refused_inside : {A B : Type 0} (some all : List ℕ) {ys : List ℕ} {s t u w : OutputState} {e : GenError} (C : Type 0) (at : ℕ) → at ≡ s.position → IsConsistentOutput s → length some + length ys ≤ length all → (C → B) → Writes true A (replicate 4 0 ++ some) s (Ok tt) t → Writes true B ys t (Err e) u → TruncatesTo at u w → Writes true C (long_field all) s (Err e) w
refused_inside some all C at place whole long lengths p q back = refused C (long_field all) at place whole (omega arith) lengths p q back

-- after four reserved bytes all were put; their number was filled in, or doesn't fit and all are
-- taken back
pub length_put : {A : Type 0} (all : List ℕ) {s t w : OutputState} (r : Result (Unit {0}) GenError) (C : Type 0) (at : ℕ) → at ≡ s.position → IsConsistentOutput s → (2 ^ 32 ≤ length all → C → ⊥) → (length all < 2 ^ 32 → A → C) → Writes true A (replicate 4 0 ++ all) s (Ok tt) t → PatchesLength at t r w → Writes true C (long_field all) s r w
length_put all {s = s} {t = t} {w = w} (Ok _) C at place whole long short p f =
    let count : t.position - at - 4 ≡ length all = omega (arith, p.wrote.moved) in
    let few : length all < 2 ^ 32 = omega (arith, f.fits) in
    let end : filled t s.position (to_be_bytes w32 (length all)) ≡ w = (λ i. filled t (sym place i) (to_be_bytes w32 (sym count i))) ∙ sym f.filled in
    let P : OutputState → Type 0 = λ u. Writes true C (long_field all) s (Ok tt) u in
    subst P end (filled_in (replicate 4 0) all C (to_be_bytes w32 (length all)) whole refl (short few) p)
length_put all {s = s} {t = t} {w = w} (Err e) C at place whole long short p f =
    let many : 2 ^ 32 ≤ length all = omega (arith, p.wrote.moved, f.too_long) in
    let P : GenError → Type 0 = λ d. Writes true C (long_field all) s (Err d) w in
    subst P (sym f.refused) (refused C (long_field all) at place whole (omega arith) (λ c. c) p (refused_as_long t C (long many)) f.back)
