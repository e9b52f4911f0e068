-- Lemmas for src/key.rt: eight bytes are ASCII if none of their high bits is set, and up to 16 are
-- if the first eight and the last eight are.
use Rattle.std.proofs.Common.{◌≡◌, ◌+◌, ◌-◌, ◌<◌, ◌≤◌, min, ℕ, zero, suc, List, get_or, length, take, drop, refl, sym, ap, ◌∙◌, subst, arith}
use Rattle.std.specs.Int.{w64, from_le_bytes, bit_at}
use Rattle.std.specs.Int.Bits.{bit_and}
use Rattle.std.specs.Str.{IsAscii}
use Rattle.std.specs.Array.{IsFirstChunk, IsWholeChunk}
use Rattle.std.proofs.lemmas.List.{take-append-drop, drop-drop, get_or_past}
use Rattle.std.proofs.lemmas.Nat.Bits.{bit_at-zero, bit_at_and}
use Rattle.std.proofs.lemmas.Str.{IsAscii-drop, IsAscii-append}

abbrev pub high_bits : ℕ
high_bits = 0x8080808080808080

no_more : (n : ℕ) → min n 1 ≡ 0 → n ≡ 0
no_more n is = omega (arith, is)

-- a bit of them isn't set in a number that has none of them
unset : (n k : ℕ) → bit_and n high_bits ≡ 0 → bit_at high_bits k ≡ 1 → bit_at n k ≡ 0
unset n k none one =
    no_more (bit_at n k)
    (ap (λ (m : ℕ). min (bit_at n k) m) (sym one) ∙ (sym (bit_at_and n high_bits k) ∙ (ap (λ (m : ℕ). bit_at m k) none ∙ bit_at-zero k)))

-- eight bytes are ASCII if none of their high bits is set
pub eight_are_ascii : (b : List ℕ) → length b ≡ 8 → ((i : ℕ) → get_or b i 0 < 256) → bit_and (from_le_bytes w64 b) high_bits ≡ 0 → IsAscii b
eight_are_ascii b eight small none = by
  where
    clear : (k : ℕ) → bit_at high_bits k ≡ 1 → bit_at (from_le_bytes w64 b) k ≡ 0
    clear k one = unset (from_le_bytes w64 b) k none one

    by : (i : ℕ) → get_or b i 0 < 128
    by zero = omega (arith, clear 7 refl, small 0, small 1, small 2, small 3, small 4, small 5, small 6, small 7)
    by (suc zero) = omega (arith, clear 15 refl, small 0, small 1, small 2, small 3, small 4, small 5, small 6, small 7)
    by (suc (suc zero)) = omega (arith, clear 23 refl, small 0, small 1, small 2, small 3, small 4, small 5, small 6, small 7)
    by (suc (suc (suc zero))) = omega (arith, clear 31 refl, small 0, small 1, small 2, small 3, small 4, small 5, small 6, small 7)
    by (suc (suc (suc (suc zero)))) = omega (arith, clear 39 refl, small 0, small 1, small 2, small 3, small 4, small 5, small 6, small 7)
    by (suc (suc (suc (suc (suc zero))))) = omega (arith, clear 47 refl, small 0, small 1, small 2, small 3, small 4, small 5, small 6, small 7)
    by (suc (suc (suc (suc (suc (suc zero)))))) = omega (arith, clear 55 refl, small 0, small 1, small 2, small 3, small 4, small 5, small 6, small 7)
    by (suc (suc (suc (suc (suc (suc (suc zero))))))) = omega (arith, clear 63 refl, small 0, small 1, small 2, small 3, small 4, small 5, small 6, small 7)
    by (suc (suc (suc (suc (suc (suc (suc (suc i)))))))) = omega (arith, get_or_past b (suc (suc (suc (suc (suc (suc (suc (suc i)))))))) 0 (omega (arith, eight)))

-- bytes are ASCII if the first eight and the last eight are, which are all of them
pub ends_are_ascii : (s first last : List ℕ) → length s ≤ 16 → IsFirstChunk s first 8 → IsWholeChunk (drop (length s - 8) s) last 8
    → IsAscii first → IsAscii last → IsAscii s
ends_are_ascii s first last few starts ends a b =
    let m = length s - 8 in
    let same : m + (8 - m) ≡ 8 = omega (arith, few, starts.enough) in
    let after : IsAscii (drop 8 s) =
    subst IsAscii (drop-drop (8 - m) m s ∙ ap (λ (k : ℕ). drop k s) same) (IsAscii-drop (drop m s) (8 - m) (subst IsAscii ends.same b)) in
    subst IsAscii (take-append-drop 8 s) (IsAscii-append (take 8 s) (drop 8 s) (subst IsAscii starts.same a) after)
