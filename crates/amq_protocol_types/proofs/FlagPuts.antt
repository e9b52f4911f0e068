-- Lemmas for `gen_flags`: bytes that are put one after another, to any output (`PutSoFar`).
use Rattle.std.proofs.Common.{◌≡◌, ℕ, ◌+◌, ◌-◌, ◌≤◌, inl, Bool, IsTrue, Option, Some, None, IfSome, Result, Ok, Err, List, [], ◌∷◌, ◌++◌, length, refl, sym, ap, ◌∙◌, subst, arith, length-append}
use Rattle.std.specs.Option.{option_map}
use Rattle.std.proofs.lemmas.Bool.{false≢true}
use Rattle.amq_protocol_types.specs.declared.generation.error.GenError.{GenError}
use Rattle.amq_protocol_types.specs.generation.Outputs.{OutputState, Writes}
use Rattle.amq_protocol_types.specs.generation.BufferOutput.{AppendsBytes, PromisesCapacity}
use Rattle.amq_protocol_types.proofs.Capacities.{nothing_appended, both_too_many, still_fixed, rest_fits}
use Rattle.amq_protocol_types.proofs.Steps.{bytes_put, both_put, failed_since}

-- some bytes were put, and a buffer won't reject those after them, n in all
pub record PutSoFar (b : Bool) (n : ℕ) (done : List ℕ) (before after : OutputState) : Type 0 where
  pub written : Writes b (Unit {0}) done before (Ok tt) after
  pub promise : IsTrue b → n ≤ after.promise + length done

no_less : (capacity : Option ℕ) → capacity ≡ option_map (λ n. n - 0) capacity
no_less None = refl
no_less (Some n) = ap Some (omega arith)

none_fit : (capacity : Option ℕ) → IfSome capacity (λ n. 0 ≤ n)
none_fit None = tt
none_fit (Some n) = omega arith

-- the buffer was grown, and nothing is written yet
pub capacity_promised : {b : Bool} {n m : ℕ} {s t : OutputState} → n ≡ m → PromisesCapacity b n s (Ok tt) t → PutSoFar b m [] s t
capacity_promised {s = s} {t = t} same m = record {
  written =
      bytes_put (nothing_appended s.written t.written m.written) (m.position ∙ omega arith) m.tail tt (none_fit s.capacity) (m.capacity ∙ no_less s.capacity) m.faults;
  promise = λ is. omega (arith, m.promise is);
}

-- growing the buffer for the bytes was rejected
pub capacity_refused : {b : Bool} {n : ℕ} {s t : OutputState} {e : GenError} (all : List ℕ) → n ≡ length all → PromisesCapacity b n s (Err e) t → Writes b (Unit {0}) all s (Err e) t
capacity_refused {b = b} {n = n} {s = s} {t = t} {e = e} all count m =
    let P : ℕ → Type 0 = λ k. PromisesCapacity b k s (Err e) t in
    let r = subst P count m in
    let failed : GenError → Result (Unit {0}) GenError = λ d. Err d in
    record {
      wrote = tt;
      stays = λ _. record { position = r.position; written = r.written; capacity = r.capacity };
      succeeds = λ _. r.succeeds;
      fails = record {
        too_small = λ is. r.too_small (ap failed is);
        too_long = λ is _. r.too_long (ap failed is);
        failed = r.failed;
        offset = λ is. r.offset (ap failed is);
        memory = λ is. r.memory (ap failed is);
        no_other = λ fixed. inl (r.no_other fixed);
      };
      faults = r.faults;
    }

-- more bytes were put
pub put_more : {b : Bool} {n : ℕ} {done ys : List ℕ} {s t u : OutputState} → PutSoFar b n done s t → AppendsBytes b ys t (Ok tt) u → PutSoFar b n (done ++ ys) s u
put_more {done = xs} {ys = ys} so_far new = record {
  written = both_put (Unit {0}) (xs ++ ys) refl (λ _ _. tt) so_far.written new.written;
  promise = λ is. omega (arith, so_far.promise is, new.promise, length-append xs ys);
}

-- more bytes were rejected: then it isn't a buffer, since a buffer promised them
pub refused_later : {b : Bool} {n : ℕ} {done ys : List ℕ} {s t u : OutputState} {e : GenError} (all : List ℕ) → n ≡ length all → length done + length ys ≤ length all → PutSoFar b n done s t → AppendsBytes b ys t (Err e) u → Writes b (Unit {0}) all s (Err e) u
refused_later {b = b} {n = n} {done = xs} {ys = ys} {s = s} {t = t} {u = u} {e = e} all count long so_far new =
    let p = so_far.written in
    let q = new.written in
    let no_buffer : IsTrue b → ⊥ = λ is.
    let kept : length ys ≤ t.promise = omega (arith, so_far.promise is) in
    false≢true (new.promised kept) in
    record {
      wrote = tt;
      stays = λ is. absurd (no_buffer is);
      succeeds = λ _. rest_fits _ s.capacity t.capacity _ _ _ long p.wrote.capacity_left (q.succeeds tt);
      fails = record {
        too_small = λ is. both_too_many s.capacity t.capacity _ _ _ long p.wrote.capacity p.wrote.capacity_left (q.fails.too_small is);
        too_long = λ is. q.fails.too_long is;
        failed = λ kind is. failed_since s t u u p.faults refl (q.fails.failed kind is);
        offset = λ is. omega (arith, q.fails.offset is, p.wrote.moved);
        memory = λ is. q.fails.memory is;
        no_other = λ fixed. q.fails.no_other (still_fixed s.capacity t.capacity _ p.wrote.capacity_left fixed);
      };
      faults = omega (arith, p.faults, q.faults);
    }

-- all bytes were put
pub all_put : {b : Bool} {n : ℕ} {done : List ℕ} {s t : OutputState} (all : List ℕ) → done ≡ all → PutSoFar b n done s t → Writes b (Unit {0}) all s (Ok tt) t
all_put {b = b} {s = s} {t = t} all same so_far =
    let P : List ℕ → Type 0 = λ l. Writes b (Unit {0}) l s (Ok tt) t in
    subst P same so_far.written

-- one byte more of all is left
pub one_fits : (done rest after all : List ℕ) (b : ℕ) → rest ≡ b ∷ after → done ++ rest ≡ all → length done + 1 ≤ length all
one_fits done rest after all b is whole =
    let long = ap length (ap (λ l. done ++ l) (sym is) ∙ whole) in
    omega (arith, long, length-append done (b ∷ after))
