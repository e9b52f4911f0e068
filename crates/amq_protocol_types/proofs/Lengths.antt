-- Lemmas for `gen_with_len`: what its closure appends gets its length before it, or is taken back.
-- Proofs of test_codec cite them too.
use Rattle.std.proofs.Common.{◌≡◌, ℕ, Bool, IsTrue, ◌+◌, ◌-◌, ◌≤◌, true, inr, Some, None, IsSome, IfSome, Option, Result, Ok, Err, OnOk, OnErr, IfErr, List, [], ◌++◌, length, take, drop, replicate, refl, sym, ap, ◌∙◌, subst, arith, length-append}
use Rattle.std.specs.Prelude.{⊤}
use Rattle.std.specs.Option.{option_map}
use Rattle.std.specs.Int.{w32, to_be_bytes}
use Rattle.std.specs.Io.KnownBytes.{Appends}
use Rattle.std.proofs.KnownBytes.{Appends-trans}
use Rattle.std.proofs.lemmas.List.{drop-drop}
use Rattle.amqp_value_core.specs.Grammar.{long_field}
use Rattle.amq_protocol_types.specs.declared.generation.error.GenError.{GenError}
use Rattle.amq_protocol_types.specs.generation.Outputs.{OutputState, Writes}
use Rattle.amq_protocol_types.specs.generation.BufferOutput.{IsConsistentOutput, TruncatesTo, PatchesLength, filled}
use Rattle.amq_protocol_types.specs.generation.Lengths.{OnlyAppends, IsReserved, AppendsWithLength, RefusesWithLength}
use Rattle.amq_protocol_types.specs.generation.Contexts.{start_of, state_of}
use Rattle.amq_protocol_types.specs.declared.generation.context.WriteContext.{WriteContext}
use Rattle.amq_protocol_types.proofs.Capacities.{nothing_appended, reported_back, prefix_overwritten}

-- the position counts what was appended
pub counted : (a b : Option (List ℕ)) (n m : ℕ) (xs : List ℕ) → IsSome a → IfSome a (λ put. length put ≡ n) → IsSome b → IfSome b (λ put. length put ≡ m) → Appends a b xs → m ≡ n + length xs
counted None b n m xs h e k d p = absurd cc
counted (Some put) None n m xs h e k d p = absurd cc
counted (Some put) (Some all) n m xs h e k d p = sym d ∙ ap length p ∙ length-append put xs ∙ ap (λ i. i + length xs) e

-- what only appends leaves the position or raises it
pub after : {s t : OutputState} {r : Result (Unit {0}) GenError} → IsConsistentOutput s → IsConsistentOutput t → OnlyAppends s r t → s.position ≤ t.position
after {s = s} {t = t} here there o =
    let n = counted s.written t.written s.position t.position o.more here.written here.counted there.written there.counted o.appended in
    omega arith

-- an error that leaves the bytes as they were only appends
pub refusal_appends : {s t : OutputState} {e : GenError} → t.written ≡ s.written → OnlyAppends s (Err e) t
refusal_appends {s = s} {t = t} same = record { more = []; appended = nothing_appended s.written t.written same; tail = tt }

-- what was written is appended, and a rejected write leaves a buffer's bytes
pub write_appends : {b : Bool} {A : Type 0} {xs : List ℕ} {s t : OutputState} {r : Result (Unit {0}) GenError} → b ≡ true → Writes b A xs s r t → OnlyAppends s r t
write_appends {xs = xs} {r = Ok _} e p = record { more = xs; appended = p.wrote.appended; tail = p.wrote.tail }
write_appends {r = Err _} e p = refusal_appends (p.stays (subst IsTrue (sym e) refl)).written

-- what appends and then appends again only appends
pub then_appends : {s t u : OutputState} {r : Result (Unit {0}) GenError} → OnlyAppends s (Ok tt) t → OnlyAppends t r u → OnlyAppends s r u
then_appends {s = s} {t = t} {u = u} {r = r} p q = record {
  more = p.more ++ q.more;
  appended = Appends-trans s.written t.written u.written p.more q.more p.appended q.appended;
  tail = by r q.tail;
}
  where
    by : (r : Result (Unit {0}) GenError) → OnOk r (u.tail ≡ drop (length q.more) t.tail) → OnOk r (u.tail ≡ drop (length (p.more ++ q.more)) s.tail)
    by (Ok _) e =
        let sum : length p.more + length q.more ≡ length (p.more ++ q.more) = sym (length-append p.more q.more) in
        e ∙ ap (drop (length q.more)) p.tail ∙ drop-drop (length q.more) (length p.more) s.tail ∙ ap (λ n. drop n s.tail) sum
    by (Err _) e = tt

-- what was appended after four reserved bytes was taken back with them
pub taken_back : {s t u w : OutputState} {r : Result (Unit {0}) GenError} (at : ℕ) → at ≡ s.position → IsConsistentOutput s → Writes true ⊤ (replicate 4 0) s (Ok tt) t → OnlyAppends t r u → TruncatesTo at u w → w.written ≡ s.written
taken_back {s = s} {t = t} {u = u} {w = w} at place whole p o back =
    reported_back s.written u.written w.written s.position (replicate 4 0 ++ o.more) whole.counted whole.written
    (Appends-trans s.written t.written u.written (replicate 4 0) o.more p.wrote.appended o.appended)
    (back.written ∙ ap (λ n. option_map (take n) u.written) place)

-- a call appended after four reserved bytes, which were then filled with the number of what it
-- appended, or were taken back with that
module _ {W : Type 0} (seen : W → OutputState) (may : WriteContext W → Result (Unit {0}) GenError → WriteContext W → Type 0) (old before after new : WriteContext W) (at : ℕ) (place : at ≡ (state_of seen old).position) (whole : IsConsistentOutput (state_of seen old)) (end : IsConsistentOutput (state_of seen after)) (reserved : IsReserved seen old before) (appends : (x y : WriteContext W) (r : Result (Unit {0}) GenError) → may x r y → OnlyAppends (state_of seen x) r (state_of seen y)) (called : may before (Ok tt) after) where
  abbrev s : OutputState
  s = state_of seen old

  abbrev u : OutputState
  u = state_of seen after

  abbrev w : OutputState
  w = state_of seen new

  -- it only appended
  abbrev o : OnlyAppends (state_of seen before) (Ok tt) u
  o = appends before after (Ok tt) called

  -- the four bytes and those after them
  both : Appends s.written u.written (replicate 4 0 ++ o.more)
  both = Appends-trans s.written (state_of seen before).written u.written (replicate 4 0) o.more reserved.zeros.wrote.appended o.appended

  -- how many they are
  size : u.position - at - 4 ≡ length o.more
  size = let n = counted s.written u.written s.position u.position (replicate 4 0 ++ o.more) whole.written whole.counted end.written end.counted both in omega arith

  -- what is after the position
  rest : u.tail ≡ drop (length (long_field o.more)) s.tail
  rest =
      let sum : 4 + length o.more ≡ length (long_field o.more) = omega arith in
      o.tail ∙ ap (drop (length o.more)) reserved.zeros.wrote.tail ∙ drop-drop (length o.more) 4 s.tail ∙ ap (λ n. drop n s.tail) sum

  module _ (e : w ≡ filled u at (to_be_bytes w32 (u.position - at - 4))) where
    -- the number is that of what was appended
    number : w ≡ filled u s.position (to_be_bytes w32 (length o.more))
    number = e ∙ (λ i. filled u (place i) (to_be_bytes w32 (size i)))

    -- so that is after its length
    put : Appends s.written w.written (long_field o.more)
    put = subst (λ (x : OutputState). Appends s.written x.written (long_field o.more)) (sym number) (prefix_overwritten s.written u.written s.position (replicate 4 0) (to_be_bytes w32 (length o.more)) o.more whole.counted refl both)

    -- and is all that was put
    moved : w.position ≡ s.position + length (long_field o.more)
    moved =
        let n = counted s.written u.written s.position u.position (replicate 4 0 ++ o.more) whole.written whole.counted end.written end.counted both in
        let same : w.position ≡ u.position = ap (λ (x : OutputState). x.position) number in
        omega arith

    -- the tail was cut by as much
    tail : w.tail ≡ drop (length (long_field o.more)) s.tail
    tail = ap (λ (x : OutputState). x.tail) number ∙ rest

  -- if the number fits, it is put before what was appended
  pub put_with_length : (r : Result (Unit {0}) GenError) → PatchesLength at u r w → start_of new ≡ start_of after → OnOk r (AppendsWithLength seen may old new)
  put_with_length (Ok _) f start = record {
    before = before;
    after = after;
    reserved = reserved;
    called = called;
    more = o.more;
    appended = o.appended;
    fits = omega (arith, f.fits, size);
    put = put f.filled;
    moved = moved f.filled;
    filled = number f.filled;
    start = start;
  }
  put_with_length (Err e) f start = tt

  -- if it doesn't fit, the call may pass it
  pub too_long : (r : Result (Unit {0}) GenError) → PatchesLength at u r w → start_of new ≡ start_of after → IfErr r (RefusesWithLength seen may old new)
  too_long (Ok _) f start = tt
  too_long (Err e) f start = inr (inr (
    f.refused,
    record {
      before = before;
      after = after;
      reserved = reserved;
      called = called;
      more = o.more;
      appended = o.appended;
      long = omega (arith, f.too_long, size);
      start = start;
    },
  ))

  -- then all is taken back
  pub all_back : (r : Result (Unit {0}) GenError) → PatchesLength at u r w → OnErr r (w.written ≡ s.written)
  all_back (Ok _) f = tt
  all_back (Err e) f = taken_back at place whole reserved.zeros o f.back

  -- so it only appends
  pub length_appends : (r : Result (Unit {0}) GenError) → PatchesLength at u r w → OnlyAppends s r w
  length_appends (Ok _) f = record { more = long_field o.more; appended = put f.filled; tail = tail f.filled }
  length_appends (Err e) f = refusal_appends (all_back (Err e) f)
