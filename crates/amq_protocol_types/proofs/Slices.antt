-- Lemmas for `SliceOutput`: what `put`, `reserve` and `fill` do to its bytes and its capacity.
use Rattle.std.proofs.Common.{◌≡◌, ℕ, ◌+◌, ◌-◌, ◌≤◌, true, Some, Ok, List, ◌++◌, length, take, drop, refl, sym, ap, ◌∙◌, subst, arith, rules, length-append, length-drop}
use Rattle.std.proofs.lemmas.Slice.{take-put_mid, drop-put_mid}
use Rattle.std.proofs.lemmas.List.{drop-drop, length-take-le, same_lists, places}
use borrow.Rule.Slice.PartMut.{put_mid}
use Rattle.amq_protocol_types.specs.generation.BufferOutput.{AppendsBytes, filled, overwrite}
use Rattle.amq_protocol_types.specs.generation.OutputViews.{Sliced, seen_slice}
use Rattle.amq_protocol_types.proofs.Steps.{bytes_put}

-- a slice's bytes before a place, and those from there on
abbrev pub cut_at : List ℕ → ℕ → Sliced
cut_at xs at = record { put = take at xs; tail = drop at xs }

-- bytes that fit were put
put_fits : (s t : Sliced) (ys : List ℕ) → length ys ≤ length s.tail → t.put ≡ s.put ++ ys → t.tail ≡ drop (length ys) s.tail → AppendsBytes true ys (seen_slice s) (Ok tt) (seen_slice t)
put_fits s t ys fit put tail =
    let long = ap length put ∙ length-append s.put ys in
    let left = ap length tail ∙ length-drop (length ys) s.tail in
    record {
      written = bytes_put put long tail tt fit (ap Some left) (omega arith);
      stayed = tt;
      promised = λ _. refl;
      promise = omega arith;
    }

-- bytes were written at the place, and the place moved after them
pub put_next : (s : Sliced) (xs ys bytes : List ℕ) (at k : ℕ) → cut_at xs at ≡ s → ys ≡ bytes → length bytes ≡ k → at + k ≤ length xs → AppendsBytes true bytes (seen_slice s) (Ok tt) (seen_slice (cut_at (put_mid at (at + k - at) xs ys) (at + k)))
put_next s xs ys bytes at k was same long fit =
    let tail : drop (length bytes) (drop at xs) ≡ drop (at + k) xs = ap (λ n. drop n (drop at xs)) long ∙ drop-drop k at xs in
    let count : length ys ≡ k = ap length same ∙ long in
    let left = length-drop at xs in
    let P : Sliced → Type 0 = λ x. AppendsBytes true bytes (seen_slice x) (Ok tt) (seen_slice (cut_at (put_mid at (at + k - at) xs ys) (at + k))) in
    subst P was (put_fits (cut_at xs at) _ bytes (omega arith)
    (take-put_mid at (at + k - at) xs ys (at + k) (omega arith) (omega arith) ∙ ap (λ l. take at xs ++ l) same)
    (drop-put_mid at (at + k - at) xs ys (at + k) (omega arith) (omega arith) (omega arith) ∙ sym tail))

-- of two parts that don't overlap either may be written first
pub either_first : (p k q l : ℕ) (xs ys zs : List ℕ) → length ys ≡ k → length zs ≡ l → p + k ≤ q → q + l ≤ length xs → put_mid p k (put_mid q l xs zs) ys ≡ put_mid q l (put_mid p k xs ys) zs
either_first p k q l xs ys zs long more apart fit = same_lists _ _ (search (rules, places)) (λ n d m. grind (arith, places))

-- a part that is overwritten leaves the list as long as it was
pub as_long : (p k : ℕ) (xs ys : List ℕ) → length ys ≡ k → p + k ≤ length xs → length (put_mid p k xs ys) ≡ length xs
as_long p k xs ys long fit = search (rules, places)

-- bytes before the place were overwritten
pub fill_before : (s : Sliced) (xs ys bytes : List ℕ) (from at : ℕ) → cut_at xs at ≡ s → ys ≡ bytes → from + length bytes ≤ length s.put → at ≤ length xs → seen_slice (cut_at (put_mid from (from + length bytes - from) xs ys) at) ≡ filled (seen_slice s) from bytes
fill_before s xs ys bytes from at was same h fit =
    let k = from + length bytes - from in
    let new = put_mid from k xs ys in
    let count : length ys ≡ length bytes = ap length same in
    let place : length (take at xs) ≡ length s.put = ap (λ t. length t.put) was in
    let whole = length-take-le at xs fit in
    let put : take at new ≡ overwrite (take at xs) from ys = same_lists _ _ (search (rules, places)) (λ n d l. grind (arith, places)) in
    let long : length (take at new) ≡ length (take at xs) = search (rules, places) in
    let tail : drop at new ≡ drop at xs = drop-put_mid from k xs ys at (omega arith) (omega arith) (omega arith) in
    let seen : seen_slice (cut_at new at) ≡ filled (seen_slice (cut_at xs at)) from ys = λ i. record { written = Some (put i); position = long i; capacity = Some (length (tail i)); promise = length (tail i); faults = 0; tail = tail i } in
    seen ∙ (λ i. filled (seen_slice (was i)) from (same i))
