-- Lemmas on `pack` and `unpack`, for `AMQPFlags`, `gen_flags` and the laws of flags.
use Rattle.std.proofs.Common.{◌≡◌, ◌==◌, ℕ, zero, suc, ◌+◌, ◌*◌, ◌/◌, ◌%◌, ◌^◌, ◌<◌, ◌≤◌, min, Bool, true, false, if◌then◌else◌, Some, List, [], ◌∷◌, ◌++◌, length, get_or, take, drop, map, refl, sym, ap, ◌∙◌, arith, length-append, length-drop, string_bytes, String, Bor}
use Rattle.std.specs.declared.alloc.Global.{Global}
use Rattle.std.specs.List.{zip}
use Rattle.std.proofs.Math.ListN.{get_or-eq_default}
use Rattle.std.proofs.Math.Nat.{pow-suc}
use Rattle.std.proofs.Math.Pow.{pow-lt}
use Rattle.std.proofs.lemmas.Nat.Bits.{bit_at-zero, bit_at_lowest, bit_at-suc}
use Rattle.std.proofs.lemmas.Slice.Zip.{length-zip, get_or-zip}
use Rattle.std.proofs.lemmas.List.FromFn.{length-map-range_with_len, get_or-map-range_with_len}
use Rattle.std.proofs.lemmas.List.{take_more, take_all, take_min, drop_min, at_drop_more, map_more, map-append, get_or-map, length-map, length-take-le, take_at, drop_at, drop-drop, get_or-take, get_or-drop}
use Rattle.std.specs.Int.{bit_at}
use Rattle.amqp_value_core.specs.Maps.{same_bytes}
use Rattle.amq_protocol_types.specs.Flags.{Flag, listed, names_of, values_of, flag_named, bytes_for, number_of, packed, pack, bit_of, bits, unpack, AreFlagsReadBack}

-- the next flag decides, or the flags after it do
pub named_more : (name : List ℕ) (fs : List (String Global × Bool)) (i : ℕ) (f : String Global × Bool) (b : Bool) → i < length fs → f ≡ get_or fs i f → b ≡ same_bytes (string_bytes f.0) name
    → flag_named name (listed (drop i fs)) ≡ (if b then Some f.1 else flag_named name (listed (drop (i + 1) fs)))
named_more name fs i f b few is same =
    at_drop_more (λ l. flag_named name (listed l)) fs i f few
    ∙ ap (λ g. flag_named name (listed (g ∷ drop (i + 1) fs))) (sym is)
    ∙ ap (λ t. if t then Some f.1 else flag_named name (listed (drop (i + 1) fs))) (sym same)

-- one bit more, at its place
number_push : (bs : List Bool) (b : Bool) → number_of (bs ++ b ∷ []) ≡ number_of bs + 2 ^ length bs * (if b then 1 else 0)
number_push [] true = refl
number_push [] false = refl
number_push (x ∷ xs) true = omega (arith, number_push xs true, pow-suc 2 (length xs))
number_push (x ∷ xs) false = omega (arith, number_push xs false)

-- the number of the flags so far and the next
pub next_bit : (fs : List (String Global × Bool)) (i : ℕ) (f : String Global × Bool) → i < length fs → f ≡ get_or fs i f
    → number_of (values_of (listed (take (i + 1) fs))) ≡ number_of (values_of (listed (take i fs))) + 2 ^ i * (if f.1 then 1 else 0)
next_bit fs i f few is =
    let so_far = listed (take i fs) in
    let long : length (values_of so_far) ≡ i = length-map so_far _ ∙ length-map (take i fs) _ ∙ length-take-le i fs (omega arith) in
    ap (λ l. number_of (values_of l)) (map_more _ fs i f few)
    ∙ ap number_of (map-append _ so_far _)
    ∙ number_push (values_of so_far) (get_or fs i f).1
    ∙ (λ k. number_of (values_of so_far) + 2 ^ long k * (if (sym is k).1 then 1 else 0))

-- a bit at its place is below the next place
pub bit_fits : (i byte : ℕ) → i < 8 → byte < 2 ^ i → (byte + 1 * 2 ^ i % 256 ≡ byte + 2 ^ i) × (byte + 2 ^ i < 2 ^ (i + 1))
bit_fits i byte few below =
    let small : 2 ^ i < 2 ^ 8 = pow-lt few in
    let next : 2 ^ (i + 1) ≡ 2 ^ i * 2 = ap (λ n. 2 ^ n) (omega arith) ∙ pow-suc 2 i in
    (omega arith, omega arith)

-- the first eight, or all if they are fewer, are a byte, and the others are packed after it
pack_cut : (bs cs rs : List Bool) → bs ≡ cs ++ rs → length cs ≡ min 8 (length bs) → 0 < length bs → pack bs ≡ number_of cs ∷ pack rs
pack_cut bs cs rs parts size some =
    let count : bytes_for (length bs) ≡ suc (bytes_for (length (drop 8 bs))) = omega (arith, length-drop 8 bs) in
    let prefix : take 8 bs ≡ cs = sym (take_min 8 bs) ∙ ap (take (min 8 (length bs))) parts ∙ take_at cs rs _ size in
    let rest : drop 8 bs ≡ rs = sym (drop_min 8 bs) ∙ ap (drop (min 8 (length bs))) parts ∙ drop_at cs rs _ size in
    ap (λ n. packed n bs) count ∙ (λ k. number_of (prefix k) ∷ pack (rest k))

-- flags as they are in memory are packed so too
pub flags_chunk : (all eight rest : List (String Global × Bool)) (n : ℕ) → n ≡ 8 → all ≡ eight ++ rest → length eight ≡ min n (length all) → 0 < length all
    → pack (values_of (listed all)) ≡ number_of (values_of (listed eight)) ∷ pack (values_of (listed rest))
flags_chunk all eight rest n is parts size some =
    let long : (l : List (String Global × Bool)) → length (values_of (listed l)) ≡ length l = λ l. length-map (listed l) _ ∙ length-map l _ in
    let cut = ap (λ l. values_of (listed l)) parts ∙ ap values_of (map-append _ eight rest) ∙ map-append _ (listed eight) (listed rest) in
    pack_cut (values_of (listed all)) (values_of (listed eight)) (values_of (listed rest)) cut (omega (arith, long all, long eight)) (omega (arith, long all))

-- as many flags are unpacked as there are names and bits
pub length_unpack : (names : List (List ℕ)) (s : List ℕ) → length (unpack names s) ≡ min (length names) (8 * length s)
length_unpack names s = length-zip names (bits s) ∙ ap (min (length names)) (length-map-range_with_len (bit_of s) 0 (8 * length s))

bit_there : (s : List ℕ) (i : ℕ) → i < 8 * length s → get_or (bits s) i false ≡ bit_of s i
bit_there s i few = get_or-map-range_with_len (bit_of s) 0 (8 * length s) i i false few (omega arith)

-- if there is a next name and a next bit, they are the next flag
pub some_flag : (names : List (Bor (List ℕ))) (s : List ℕ) (i : ℕ) → i < length names → i / 8 < length s → i < length (unpack (map (λ n. n.now) names) s)
some_flag names s i few there = omega (arith, length_unpack (map (λ n. n.now) names) s, length-map names (λ n. n.now))

pub next_flag : (names : List (Bor (List ℕ))) (s : List ℕ) (i : ℕ) (d : Bor (List ℕ)) (t : List ℕ) (byte : ℕ) (fs more : List Flag) → i < length names → i / 8 < length s → t ≡ (get_or names i d).now → byte ≡ get_or s (i / 8) 0
    → fs ≡ take i (unpack (map (λ n. n.now) names) s) → more ≡ fs ++ (t, bit_at byte (i % 8) == 1) ∷ [] → more ≡ take (i + 1) (unpack (map (λ n. n.now) names) s)
next_flag names s i d t byte fs more few there is of so_far new =
    let texts = map (λ n. n.now) names in
    let here : get_or (unpack texts s) i (t, false) ≡ (t, bit_at byte (i % 8) == 1) =
    get_or-zip texts (bits s) i (t, false) (omega (arith, length-map names (λ n. n.now))) (omega (arith, length-map-range_with_len (bit_of s) 0 (8 * length s)))
    ∙ (λ k. (get_or-map (λ n. n.now) names i d t few k, bit_there s i (omega arith) k))
    ∙ (λ k. (sym is k, bit_at (sym of k) (i % 8) == 1)) in
    new ∙ (λ k. so_far k ++ sym here k ∷ []) ∙ sym (take_more (unpack texts s) i (t, false) (some_flag names s i few there))

-- all are unpacked if the names or the bytes end
pub all_unpacked : (names : List (Bor (List ℕ))) (s : List ℕ) (i : ℕ) (fs : List Flag) → min (length names) (8 * length s) ≤ i → fs ≡ take i (unpack (map (λ n. n.now) names) s) → fs ≡ unpack (map (λ n. n.now) names) s
all_unpacked names s i fs past is = is ∙ take_all i (unpack (map (λ n. n.now) names) s) (omega (arith, length_unpack (map (λ n. n.now) names) s, length-map names (λ n. n.now)))

-- that many bytes
length_packed : (n : ℕ) (bs : List Bool) → length (packed n bs) ≡ n
length_packed zero bs = refl
length_packed (suc n) bs = ap suc (length_packed n (drop 8 bs))

pub length_pack : (bs : List Bool) → length (pack bs) ≡ bytes_for (length bs)
length_pack bs = length_packed (bytes_for (length bs)) bs

pub count_packed : (all : List (String Global × Bool)) (fs : List Flag) (n : ℕ) → listed all ≡ fs → n ≡ bytes_for (length all) → n ≡ length (pack (values_of fs))
count_packed all fs n is count =
    count ∙ ap bytes_for (sym (length-map all _) ∙ ap length is ∙ sym (length-map fs _)) ∙ sym (length_pack (values_of fs))

-- each byte is the number of its booleans
byte_there : (n : ℕ) (bs : List Bool) (k : ℕ) → k < n → get_or (packed n bs) k 0 ≡ number_of (take 8 (drop (8 * k) bs))
byte_there zero bs k few = absurd (omega (arith, few))
byte_there (suc n) bs zero few = refl
byte_there (suc n) bs (suc k) few =
    let place : 8 + 8 * k ≡ 8 * suc k = omega arith in
    byte_there n (drop 8 bs) k (omega (arith, few)) ∙ ap (λ l. number_of (take 8 l)) (drop-drop (8 * k) 8 bs ∙ ap (λ m. drop m bs) place)

-- each bit of a number is the boolean at its place
number_bit : (bs : List Bool) (i : ℕ) → (bit_at (number_of bs) i == 1) ≡ get_or bs i false
number_bit [] i = ap (λ c. c == 1) (bit_at-zero i)
number_bit (b ∷ bs) zero = ap (λ c. c == 1) (bit_at_lowest (number_of (b ∷ bs))) ∙ lowest b
  where
    lowest : (b : Bool) → (number_of (b ∷ bs) % 2 == 1) ≡ b
    lowest true = let odd : (1 + 2 * number_of bs) % 2 ≡ 1 = omega arith in ap (λ c. c == 1) odd
    lowest false = let even : (0 + 2 * number_of bs) % 2 ≡ 0 = omega arith in ap (λ c. c == 1) even
number_bit (b ∷ bs) (suc i) = ap (λ c. c == 1) (bit_at-suc (number_of (b ∷ bs)) i ∙ ap (λ m. bit_at m i) (half b)) ∙ number_bit bs i
  where
    half : (b : Bool) → number_of (b ∷ bs) / 2 ≡ number_of bs
    half true = omega arith
    half false = omega arith

-- each bit of packed booleans is the boolean of its number, and false if there is none
pub packed_bit : (bs : List Bool) (n : ℕ) → n / 8 < length (pack bs) → bit_of (pack bs) n ≡ get_or bs n false
packed_bit bs n there =
    let k = n / 8 in
    let place : 8 * k + n % 8 ≡ n = omega arith in
    ap (λ c. bit_at c (n % 8) == 1) (byte_there (bytes_for (length bs)) bs k (omega (arith, there, length_pack bs)))
    ∙ number_bit (take 8 (drop (8 * k) bs)) (n % 8)
    ∙ get_or-take 8 (drop (8 * k) bs) (n % 8) false (omega arith)
    ∙ get_or-drop (8 * k) bs (n % 8) false
    ∙ ap (λ m. get_or bs m false) place

-- flag number n is bit n % 8 of byte n / 8
pub flag_is_bit : (bs : List Bool) (n : ℕ) → n < length bs → bit_of (pack bs) n ≡ get_or bs n false
flag_is_bit bs n few = packed_bit bs n (omega (arith, length_pack bs))

-- the bits left over are 0
pub left_over : (bs : List Bool) (n : ℕ) → length bs ≤ n → n / 8 < length (pack bs) → bit_of (pack bs) n ≡ false
left_over bs n past there = packed_bit bs n there ∙ get_or-eq_default bs false past

-- flags are their names with bits that are their booleans, whatever is after these
named_bits : (fs : List Flag) (bs : List Bool) → length fs ≤ length bs → ((i : ℕ) → i < length fs → get_or bs i false ≡ get_or (values_of fs) i false) → zip (names_of fs) bs ≡ fs
named_bits [] bs long same = refl
named_bits (f ∷ fs) [] long same = absurd (omega (arith, long))
named_bits (f ∷ fs) (b ∷ bs) long same = λ k. (f.0, same 0 (omega arith) k) ∷ named_bits fs bs (omega (arith, long)) (λ i few. same (suc i) (omega (arith, few))) k

pub unpacked : (fs : List Flag) → unpack (names_of fs) (pack (values_of fs)) ≡ fs
unpacked fs =
    let s = pack (values_of fs) in
    let count = length_pack (values_of fs) in
    let many = length-map fs (λ f. f.1) in
    named_bits fs (bits s) (omega (arith, length-map-range_with_len (bit_of s) 0 (8 * length s)))
    (λ i few. bit_there s i (omega arith) ∙ flag_is_bit (values_of fs) i (omega arith))

-- what was written is read back, whatever follows
pub flags_read_back : (fs : List Flag) → AreFlagsReadBack fs
flags_read_back fs = λ rest.
    let bytes = pack (values_of fs) in
    let count : length bytes ≡ bytes_for (length (names_of fs)) =
    length_pack (values_of fs) ∙ ap bytes_for (length-map fs _ ∙ sym (length-map fs _)) in
    record {
      enough = omega (arith, length-append bytes rest);
      flags = sym (unpacked fs) ∙ ap (unpack (names_of fs)) (sym (take_at bytes rest _ count));
      left = sym (drop_at bytes rest _ count);
    }
