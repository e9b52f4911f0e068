-- `is_plain` bytes need no escape in a string of JSON; the escapes of others. For `src/printing`.
use Rattle.std.proofs.Common.{◌≡◌, ℕ, ◌+◌, ◌%◌, ◌^◌, ◌≤◌, ltb, Bool, true, cond, eqb, List, [], ◌∷◌, map, length, drop, Fits, w8, refl, sym, ap, ap₂, ◌∙◌, arith, zero, suc, ◌-◌, ◌<◌, ◌/◌, ◌++◌, take, get_or, false, append_assoc, append-nil, decimal}
use Rattle.std.proofs.lemmas.Bool.{agree_below_at, eq-eqb}
use Rattle.std.proofs.lemmas.List.{length-map, drop_more}
use Rattle.std.proofs.lemmas.List.Folds.{prefix_len-append}
use Rattle.std.proofs.lemmas.Simd.{chunk-drop, length-chunk, leading_from_mask_l, mask_l-mod}
use Rattle.std.specs.List.{prefix_len, slice_index}
use Rattle.json.specs.Run.{is_plain, is_stop}
use lib.Bits.{bit_or}
use lib.Lanes.{chunk, zip2, mask_l, top, Each1}
use Rattle.std.specs.Char.{digit_value}
use Rattle.std.specs.Str.Parse.{AllDigits}
use Rattle.std.proofs.lemmas.Fmt.{decimal_is_IsNumeral}
use Rattle.hex.specs.Hex.{lower_digits, encode_with, encode_lower, IsBytes}
use Rattle.json.specs.Token.{key}
use Rattle.json.specs.Print.{escape_byte, escape, token_text}
use Rattle.json.proofs.Printed.Strings.{escape_byte_plain, escape_to_stop}
use Rattle.amqp_json.specs.Written.{is_marked, decimal_text, written_key}

-- ---- plain bytes, several at once

-- no bit is set, so the bytes are plain
pub plain_through : (d : List ℕ) (i n : ℕ) → i + n ≤ length d → mask_l (map is_stop (chunk i n d)) ≡ 0 → prefix_len is_plain (drop i d) ≡ n + prefix_len is_plain (drop (i + n) d)
plain_through d i n room none =
    let c = chunk i n d in
    let rest = prefix_len is_plain (drop (i + n) d) in
    ap (prefix_len is_plain) (chunk-drop i n d) ∙ prefix_len-append is_plain c (drop (i + n) d)
    ∙ ap (λ b. cond b (length c + rest) (prefix_len is_plain c)) (eq-eqb _ _ (leading_from_mask_l is_stop c none))
    ∙ ap (λ k. k + rest) (length-chunk i n d room)

-- what is computed of each byte

abbrev pub hit : ℕ → ℕ → ℕ
hit a b = cond (eqb a b) 255 0

abbrev pub below : ℕ → ℕ → ℕ
below a b = cond (ltb a b) 255 0

both-map : (f g : ℕ → ℕ) (v : List ℕ) → zip2 bit_or (map f v) (map g v) ≡ map (λ x. bit_or (f x) (g x)) v
both-map f g [] = refl
both-map f g (x ∷ v) = ap (λ r. bit_or (f x) (g x) ∷ r) (both-map f g v)

pub both : (f g : ℕ → ℕ) (v : List ℕ) {a b : List ℕ} → a ≡ map f v → b ≡ map g v → zip2 bit_or a b ≡ map (λ x. bit_or (f x) (g x)) v
both f g v p q = ap₂ (zip2 bit_or) p q ∙ both-map f g v

abbrev of_byte : ℕ → ℕ
of_byte x = bit_or (bit_or (hit x 34) (hit x 92)) (below x 32)

each_byte : (v : List ℕ) → Each1 (Fits w8) v → map (top 7) (map of_byte v) ≡ map is_stop v
each_byte [] fits = refl
each_byte (x ∷ v) fits = ap₂ (λ a b. a ∷ b) (agree_below_at (λ y. top 7 (of_byte y)) is_stop 256 x refl fits.0.fits) (each_byte v fits.1)

pub stops_are : (v z : List ℕ) → length v ≤ 64 → Each1 (Fits w8) v → z ≡ map of_byte v → mask_l (map (top 7) z) % 2 ^ 64 ≡ mask_l (map is_stop v)
stops_are v z short fits e = ap (λ l. mask_l l % 2 ^ 64) (ap (map (top 7)) e ∙ each_byte v fits) ∙ mask_l-mod (map is_stop v) 64 (omega (arith, length-map v is_stop))

-- ---- a text with its escapes

pub escaped_run : (text done whole : List ℕ) (from stop : ℕ) → stop ≡ from + prefix_len is_plain (drop from text) → done ++ escape (drop from text) ≡ whole
    → (done ++ take (stop - from) (drop from text)) ++ escape (drop stop text) ≡ whole
escaped_run text done whole from stop is e =
    let part = take (stop - from) (drop from text) in
    let rest = escape (drop stop text) in
    append_assoc done part rest
    ∙ ap (λ l. done ++ l) (ap (λ l. part ++ l) (sym (append-nil rest)) ∙ sym (escape_to_stop text from stop [] is) ∙ append-nil (escape (drop from text))) ∙ e

pub escaped_byte : (text done whole : List ℕ) (from : ℕ) → from < length text → done ++ escape (drop from text) ≡ whole
    → (done ++ escape_byte (get_or text from 0)) ++ escape (drop (from + 1) text) ≡ whole
escaped_byte text done whole from less e =
    append_assoc done (escape_byte (get_or text from 0)) (escape (drop (from + 1) text)) ∙ ap (λ l. done ++ escape l) (sym (drop_more text from 0 less)) ∙ e

-- ---- hexadecimal digits need no escape

abbrev ArePlain : List ℕ → Type 0
ArePlain [] = Unit {0}
ArePlain (d ∷ ds) = (escape_byte d ≡ d ∷ []) × ArePlain ds

digits_are : ArePlain lower_digits
unfolding escape_byte
digits_are = (refl, (refl, (refl, (refl, (refl, (refl, (refl, (refl, (refl, (refl, (refl, (refl, (refl, (refl, (refl, (refl, tt))))))))))))))))

plain_at : (ds : List ℕ) (n : ℕ) → ArePlain ds → n < length ds → escape_byte (slice_index ds n) ≡ slice_index ds n ∷ []
plain_at [] n h less = absurd (omega (arith, less))
plain_at (d ∷ ds) zero h less = h.0
plain_at (d ∷ ds) (suc n) h less = plain_at ds n h.1 (omega (arith, less))

two_digits : (x y : ℕ) (r : List ℕ) → escape_byte x ≡ x ∷ [] → escape_byte y ≡ y ∷ [] → escape r ≡ r → escape (x ∷ y ∷ r) ≡ x ∷ y ∷ r
two_digits x y r p q e = rw (p, q, e) refl

pub digits_plain : (bytes : List ℕ) → IsBytes bytes → escape (encode_lower bytes) ≡ encode_lower bytes
unfolding encode_with
digits_plain [] h = refl
digits_plain (b ∷ bs) h =
    let high : b / 16 < 16 = omega (arith, h 0) in
    let low : b % 16 < 16 = omega arith in
    two_digits (slice_index lower_digits (b / 16)) (slice_index lower_digits (b % 16)) (encode_lower bs) (plain_at lower_digits (b / 16) digits_are high) (plain_at lower_digits (b % 16) digits_are low)
    (digits_plain bs (λ i. h (suc i)))

-- ---- a decimal needs no escape

plain_digit : (c : ℕ) → digit_value c < 10 → escape_byte c ≡ c ∷ []
plain_digit c h = escape_byte_plain c (λ e. grind (arith)) (λ e. grind (arith)) (grind arith)

plain_numeral : (ds rest : List ℕ) → AllDigits 10 ds → escape rest ≡ rest → escape (ds ++ rest) ≡ ds ++ rest
plain_numeral [] rest h e = e
plain_numeral (c ∷ ds) rest h e = rw (plain_digit c h.0, plain_numeral ds rest h.1 e) refl

e_and_minus : (rest : List ℕ) → escape rest ≡ rest → escape (101 ∷ 45 ∷ rest) ≡ 101 ∷ 45 ∷ rest
e_and_minus rest e = rw (escape_byte_plain 101 (λ e. omega (arith, e)) (λ e. omega (arith, e)) (omega arith), escape_byte_plain 45 (λ e. omega (arith, e)) (λ e. omega (arith, e)) (omega arith), e) refl

pub decimal_plain : (scale n : ℕ) → scale < 2 ^ 64 → n < 2 ^ 64 → escape (decimal_text scale n) ≡ decimal_text scale n
decimal_plain scale n few less =
    let second : escape (decimal scale) ≡ decimal scale = ap escape (sym (append-nil (decimal scale))) ∙ plain_numeral (decimal scale) [] (decimal_is_IsNumeral scale few).0.1 refl ∙ append-nil (decimal scale) in
    plain_numeral (decimal n) (101 ∷ 45 ∷ decimal scale) (decimal_is_IsNumeral n less).0.1 (e_and_minus (decimal scale) second)

-- ---- a key with one more `$`

marked : (k : List ℕ) (b : Bool) → is_marked k ≡ b → cond b (34 ∷ 36 ∷ []) (34 ∷ []) ++ (escape k ++ 34 ∷ 58 ∷ []) ≡ 34 ∷ (escape (cond b (36 ∷ k) k) ++ 34 ∷ 58 ∷ [])
unfolding escape_byte
marked k true e = refl
marked k false e = refl

pub key_text : (k : List ℕ) → cond (is_marked k) (34 ∷ 36 ∷ []) (34 ∷ []) ++ (escape k ++ 34 ∷ 58 ∷ []) ≡ token_text (key (written_key k))
key_text k = marked k (is_marked k) refl ∙ ap (λ (l : List ℕ). 34 ∷ l) (sym (append_assoc (escape (written_key k)) (34 ∷ []) (58 ∷ [])))
