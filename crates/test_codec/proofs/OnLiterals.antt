-- Which literals of src/worked/encodings.rt are UTF-8, by computing `is_utf8`: its tactics cite
-- them.
use Rattle.std.proofs.Common.{◌≡◌, refl, true, false, [], ◌∷◌}
use Rattle.std.specs.Str.{is_utf8, chars}
use lib.Utf8.{encode}

-- no byte at all
pub empty_text : is_utf8 [] ≡ true
unfolding is_utf8 chars
empty_text = refl

-- a
pub letter_a : is_utf8 (97 ∷ []) ≡ true
unfolding is_utf8 chars encode
letter_a = refl

-- test
pub word_test : is_utf8 (116 ∷ 101 ∷ 115 ∷ 116 ∷ []) ≡ true
unfolding is_utf8 chars encode
word_test = refl

-- e with an acute accent
pub e_acute : is_utf8 (195 ∷ 169 ∷ []) ≡ true
unfolding is_utf8 chars encode
e_acute = refl

-- only the first byte of that letter
pub cut_letter : is_utf8 (195 ∷ []) ≡ false
unfolding is_utf8 chars encode
cut_letter = refl

-- a byte that is in no UTF-8
pub byte_255 : is_utf8 (255 ∷ []) ≡ false
unfolding is_utf8 chars encode
byte_255 = refl

-- the number 0 in two bytes, of which one would be enough
pub overlong : is_utf8 (192 ∷ 128 ∷ []) ≡ false
unfolding is_utf8 chars encode
overlong = refl

-- half of a character of UTF-16
pub surrogate : is_utf8 (237 ∷ 160 ∷ 128 ∷ []) ≡ false
unfolding is_utf8 chars encode
surrogate = refl
