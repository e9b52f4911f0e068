-- Lists of bytes: their parts, the numbers that they encode, prefixes, and two lists as one.
use Rattle.std.proofs.Common.{ℕ, suc, zero, ◌<◌, ◌^◌, sym, subst, List, [], ◌∷◌, ◌++◌, get_or, take, drop, arith, ◌≡◌, ◌≤◌, length, refl, ap, ◌∙◌, take-append-drop, Option, Some, ◌-◌, min, rules, length-append}
use Rattle.std.proofs.lemmas.List.{take_at, take-append-le, same_lists, places}
use Rattle.std.specs.Int.{w8, w16, w32, w64, from_be_bytes}
use Rattle.std.proofs.lemmas.Option.{same_Some}
use Rattle.amqp_value_core.specs.Bytes.{IsBytes}

-- a part of some bytes is bytes
pub bytes_before : (s t : List ℕ) → IsBytes (s ++ t) → IsBytes s
bytes_before [] t bytes = tt
bytes_before (c ∷ s) t bytes = (bytes.0, bytes_before s t bytes.1)

pub bytes_after : (s t : List ℕ) → IsBytes (s ++ t) → IsBytes t
bytes_after [] t bytes = bytes
bytes_after (c ∷ s) t bytes = bytes_after s t bytes.1

pub bytes_take : (n : ℕ) (s : List ℕ) → IsBytes s → IsBytes (take n s)
bytes_take n s bytes = bytes_before (take n s) (drop n s) (subst IsBytes (sym (take-append-drop n s)) bytes)

pub bytes_drop : (n : ℕ) (s : List ℕ) → IsBytes s → IsBytes (drop n s)
bytes_drop n s bytes = bytes_after (take n s) (drop n s) (subst IsBytes (sym (take-append-drop n s)) bytes)

-- each is below 256
pub byte_at : (s : List ℕ) → IsBytes s → (i : ℕ) → get_or s i 0 < 256
byte_at [] bytes i = omega arith
byte_at (c ∷ s) bytes zero = bytes.0
byte_at (c ∷ s) bytes (suc i) = byte_at s bytes.1 i

-- a number is below the power of 2 that its width has
pub below_1 : (s : List ℕ) → IsBytes s → from_be_bytes w8 s < 2 ^ 8
below_1 s bytes = omega (arith, byte_at s bytes 0)

pub below_2 : (s : List ℕ) → IsBytes s → from_be_bytes w16 s < 2 ^ 16
below_2 s bytes = omega (arith, byte_at s bytes 0, byte_at s bytes 1)

pub below_4 : (s : List ℕ) → IsBytes s → from_be_bytes w32 s < 2 ^ 32
below_4 s bytes = omega (arith, byte_at s bytes 0, byte_at s bytes 1, byte_at s bytes 2, byte_at s bytes 3)

pub below_8 : (s : List ℕ) → IsBytes s → from_be_bytes w64 s < 2 ^ 64
below_8 s bytes =
    omega (arith, byte_at s bytes 0, byte_at s bytes 1, byte_at s bytes 2, byte_at s bytes 3, byte_at s bytes 4, byte_at s bytes 5, byte_at s bytes 6, byte_at s bytes 7)

-- bytes after bytes are bytes
pub bytes_join : (s t : List ℕ) → IsBytes s → IsBytes t → IsBytes (s ++ t)
bytes_join [] t first second = second
bytes_join (c ∷ s) t first second = (first.0, bytes_join s t first.1 second)

-- ---- prefixes

-- two prefixes of one list that are as long are one, and so are the rests
pub same_prefixes : (a b x y : List ℕ) → length a ≡ length b → a ++ x ≡ b ++ y → (a ≡ b) × (x ≡ y)
same_prefixes [] [] x y len e = (refl, e)
same_prefixes [] (d ∷ b) x y len e = absurd (omega arith)
same_prefixes (c ∷ a) [] x y len e = absurd (omega arith)
same_prefixes (c ∷ a) (d ∷ b) x y len e =
    let rest = same_prefixes a b x y (omega arith) (cc) in
    (cc, rest.1)

-- a prefix of a joined list that is no longer than its first part is a prefix of that part
pub prefix_inside : (s t b rest : List ℕ) → s ++ t ≡ b ++ rest → length b ≤ length s → s ≡ b ++ drop (length b) s
prefix_inside s t b rest e le =
    let prefix : take (length b) s ≡ b = sym (take-append-le (length b) s t le) ∙ (ap (take (length b)) e ∙ take_at b rest (length b) refl) in
    sym (take-append-drop (length b) s) ∙ ap (λ (p : List ℕ). p ++ drop (length b) s) prefix

-- what an option holds is one thing
pub one_held : {A : Type 0} (o : Option A) (x y : A) → o ≡ Some x → o ≡ Some y → x ≡ y
one_held o x y d e = same_Some x y (sym d ∙ e)

-- ---- two lists as one

-- what is left of both after the first n is what is left of each
drop_both : (n : ℕ) (xs ys : List ℕ) → drop n xs ++ drop (n - length xs) ys ≡ drop n (xs ++ ys)
drop_both zero xs ys =
    let none : 0 - length xs ≡ 0 = omega arith in
    ap (λ k. xs ++ drop k ys) none
drop_both (suc n) [] ys =
    let all : suc n - 0 ≡ suc n = omega arith in
    ap (λ k. drop k ys) all
drop_both (suc n) (x ∷ xs) ys =
    let fewer : suc n - suc (length xs) ≡ n - length xs = omega arith in
    ap (λ k. drop n xs ++ drop k ys) fewer ∙ drop_both n xs ys

-- what is left of a list from place a on, if that is n or its end
left_from : (n a : ℕ) (xs : List ℕ) → a ≡ min n (length xs) → take (length xs - a) (drop a xs) ≡ drop n xs
left_from n a xs e = same_lists _ _ (search (rules, places)) (λ n d l. grind (arith, places))

-- so what is left of each makes what is left of both
pub both_left : (n a b : ℕ) (xs ys : List ℕ) → a ≡ min n (length xs) → b ≡ n - length xs → n ≤ length (xs ++ ys) → take (length xs - a) (drop a xs) ++ take (length ys - b) (drop b ys) ≡ drop n (xs ++ ys)
both_left n a b xs ys e f few =
    let size = length-append xs ys in
    let rest = left_from b b ys (omega arith) in
    (λ i. left_from n a xs e i ++ (rest ∙ ap (λ k. drop k ys) f) i) ∙ drop_both n xs ys
