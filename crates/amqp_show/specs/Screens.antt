-- `IsShowable`: text that a terminal shows and doesn't obey. `in_line`: words, made so by escapes.
use Rattle.std.specs.Prelude.{ℕ, Bool, true, false, not, ◌/◌, ◌%◌, ◌==◌, ◌||◌, ◌&&◌, List, [], ◌∷◌, ◌++◌, IsTrue, codes, flat_map, if◌then◌else◌}
use Rattle.std.specs.Char.{is_control, encode_utf8, digit_char}
use Rattle.std.specs.Int.{is_in_range}
use Rattle.std.specs.Str.{chars}

-- a character that can't be seen, or that turns the direction of the text around it
abbrev pub is_hidden : ℕ → Bool
is_hidden c = c == 0xAD || (c == 0x34F || (c == 0x61C || (is_in_range 0x115F 0x1160 c || (is_in_range 0x17B4 0x17B5 c || (is_in_range 0x180B 0x180F c || (is_in_range 0x200B 0x200F c || (is_in_range 0x2028 0x202E c || (is_in_range 0x2060 0x206F c || (c == 0x3164 || (c == 0xFEFF || (c == 0xFFA0 || is_in_range 0xFFF9 0xFFFB c)))))))))))

-- a character that is shown: no control character, and none that is hidden
abbrev pub prints : ℕ → Bool
prints c = not (is_control c || is_hidden c)

-- each character prints
abbrev pub all_print : List ℕ → Bool
all_print [] = true
all_print (c ∷ s) = prints c && all_print s

-- whether s begins with the other characters
abbrev pub begins_with : List ℕ → List ℕ → Bool
begins_with [] s = true
begins_with (c ∷ cs) [] = false
begins_with (c ∷ cs) (d ∷ s) = c == d && begins_with cs s

-- what is after the escape character that begins a colour, or ends it
abbrev pub names_colour : List ℕ → Bool
names_colour s = begins_with (codes "[36m") s || (begins_with (codes "[33m") s || (begins_with (codes "[31m") s || begins_with (codes "[0m") s))

-- each character prints, ends a line, or begins or ends a colour, if there are colours
abbrev pub is_showable : Bool → List ℕ → Bool
is_showable colours [] = true
is_showable colours (c ∷ s) = (prints c || (c == 10 || (colours && (c == 27 && names_colour s)))) && is_showable colours s

-- so does each character of a string in UTF-8
abbrev pub IsShowable : Bool → List ℕ → Type 0
IsShowable colours text = IsTrue (is_showable colours (chars text))

-- a character that doesn't print: `\u` and four digits
abbrev pub escape : ℕ → List ℕ
escape c = codes "\\u" ++ digit_char (c / 4096 % 16) ∷ digit_char (c / 256 % 16) ∷ digit_char (c / 16 % 16) ∷ digit_char (c % 16) ∷ []

-- a character: itself in UTF-8, if it prints
abbrev pub shown_character : ℕ → List ℕ
shown_character c = if prints c then encode_utf8 c else escape c

-- the characters of words, one after another
abbrev pub in_line : List ℕ → List ℕ
in_line words = flat_map shown_character (chars words)
