-- For private clauses of `src/reading/syntax.rt`: which bytes complete those that are scanned to a JSON text.
use Rattle.std.specs.Prelude.{ℕ, ◌<◌, ◌≡◌, ◌==◌, ◌&&◌, ◌||◌, ◌⊎◌, not, List, [], ◌∷◌, ◌++◌, length, take, Bool, true, false, Option, Some, None, nat_le}
use Rattle.std.specs.Option.{is_some}
use Rattle.std.specs.Char.{is_digit, digit_value}
use Rattle.std.specs.List.{prefix_len}
use Rattle.std.specs.Prelude.{drop, option_and_then}
use Rattle.std.specs.Char.{is_ascii_digit}
use Rattle.json.specs.Token.{Token}
use Rattle.json.specs.Text.{content, plain, after_backslash, after_high}
use Rattle.json.specs.Word.{is_operator, is_space, ends_word, after_digits, after_sign, after_whole, after_fraction, after_exponent}
use Rattle.json.specs.Lex.{Mode, between, in_word, in_string, in_escape, Lexeme, lex, fresh, after_value, after_comma, after_key, punctuate}
use Rattle.json.specs.Lex as lexer
use Rattle.json.specs.Json.{Json, Items, Members}
use Rattle.json.specs.Tree.{json_tokens, items_tokens, members_tokens}
use Rattle.amqp_json.specs.declared.reading.brackets.Bracket.{Bracket}
use Rattle.amqp_json.specs.declared.reading.brackets.Bracket.TheVariants.{Array, Object}
use Rattle.amqp_json.specs.declared.reading.syntax.After.{After}
use Rattle.amqp_json.specs.declared.reading.syntax.After.TheVariants.{OpeningBracket, Comma, Other}
use Rattle.amqp_json.specs.declared.reading.syntax.Number.{Number}
use Rattle.amqp_json.specs.declared.reading.syntax.Number.TheVariants as part
use Rattle.amqp_json.specs.declared.reading.syntax.Next.{Next}
use Rattle.amqp_json.specs.declared.reading.syntax.Next.TheVariants as next
use Rattle.amqp_json.specs.declared.reading.syntax.Place.{Place}
use Rattle.amqp_json.specs.declared.reading.syntax.Place.TheVariants as place
use Rattle.amqp_json.specs.reading.Scans.{mode_after}
use Rattle.amqp_json.specs.Meaning.{json_within}

-- after a value the tokens close these brackets, the first one first, and then the text ends
abbrev pub Closes : List Bracket → List Token → Type 0
Closes [] ts = ts ≡ []
Closes (Array ∷ outer) ts = (js : Items) × (rest : List Token) × (ts ≡ items_tokens js ++ rest) × Closes outer rest
Closes (Object ∷ outer) ts = (ms : Members) × (rest : List Token) × (ts ≡ members_tokens ms ++ rest) × Closes outer rest

-- a value, and then the same
abbrev pub BeginsValue : List Bracket → List Token → Type 0
BeginsValue bs ts = (j : Json) × (rest : List Token) × (ts ≡ json_tokens j ++ rest) × Closes bs rest

-- where the rules for commas and colons are
abbrev pub place_of : After → lexer.Place
place_of OpeningBracket = fresh
place_of Comma = after_comma
place_of Other = fresh

-- where a value or a key may come after the opening bracket
abbrev pub place_in : Bracket → Place
place_in Array = place.Value OpeningBracket
place_in Object = place.Key OpeningBracket

-- ---- strings

abbrev pub mode_of : Next → Mode
mode_of next.Escape = in_escape
mode_of next.UOfSecondHalf = in_escape
mode_of n = in_string

-- whether a byte is the digit d
abbrev pub is_thirteen : ℕ → Bool
is_thirteen c = digit_value c == 13

-- the bytes after an escape end the string; of a first half, after the second
abbrev pub unit_ends : Bool → List ℕ → Bool
unit_ends true xs = is_some (content (after_high 0) xs)
unit_ends false xs = is_some (content plain xs)

abbrev pub fourth_ends : Bool → List ℕ → Bool
fourth_ends first [] = false
fourth_ends first (d ∷ xs) = is_digit d 16 && unit_ends first xs

abbrev pub third_ends : Bool → List ℕ → Bool
third_ends first [] = false
third_ends first (c ∷ xs) = is_digit c 16 && fourth_ends first xs

-- 0xd8 to 0xdb begin a first half, 0xdc to 0xdf a second one
abbrev pub is_half : Bool → ℕ → Bool
is_half d b = d && nat_le 8 (digit_value b)

abbrev pub is_second_half : Bool → ℕ → Bool
is_second_half d b = d && nat_le 12 (digit_value b)

abbrev pub equal : Bool → Bool → Bool
equal true b = b
equal false b = not b

abbrev pub second_ends : Bool → Bool → List ℕ → Bool
second_ends second d [] = false
second_ends second d (b ∷ xs) = is_digit b 16 && (equal second (is_second_half d b) && third_ends (is_half d b && not (is_second_half d b)) xs)

abbrev pub first_ends : Bool → List ℕ → Bool
first_ends second [] = false
first_ends second (a ∷ xs) = is_digit a 16 && ((not second || is_thirteen a) && second_ends second (is_thirteen a) xs)

abbrev pub u_ends : List ℕ → Bool
u_ends [] = false
u_ends (u ∷ xs) = (u == 117) && first_ends true xs

abbrev pub backslash_ends : List ℕ → Bool
backslash_ends [] = false
backslash_ends (s ∷ xs) = (s == 92) && u_ends xs

-- the bytes end the string
abbrev pub text_ends : Next → List ℕ → Bool
text_ends next.Character xs = is_some (content plain xs)
text_ends next.Escape xs = is_some (content after_backslash xs)
text_ends (next.FirstDigit second) xs = first_ends second xs
text_ends (next.SecondDigit second d) xs = second_ends second d xs
text_ends (next.ThirdDigit first) xs = third_ends first xs
text_ends (next.FourthDigit first) xs = fourth_ends first xs
text_ends next.BackslashOfSecondHalf xs = backslash_ends xs
text_ends next.UOfSecondHalf xs = u_ends xs

-- the string is a key, or a value
abbrev pub AfterText : Bool → List Bracket → List Lexeme → Type 0
AfterText true bs ls = BeginsValue bs (punctuate after_key ls)
AfterText false bs ls = Closes bs (punctuate after_value ls)

-- ---- numbers and words

-- what follows a number of which the part is read
abbrev pub no_more : List ℕ → List ℕ
no_more xs = drop (prefix_len is_ascii_digit xs) xs

abbrev pub after_part : Number → List ℕ → Option (List ℕ)
after_part part.Minus xs = option_and_then after_exponent (option_and_then after_fraction (after_whole xs))
after_part part.Zero xs = option_and_then after_exponent (after_fraction xs)
after_part part.Integer xs = option_and_then after_exponent (after_fraction (no_more xs))
after_part part.Point xs = option_and_then after_exponent (after_digits xs)
after_part part.Fraction xs = after_exponent (no_more xs)
after_part part.E xs = after_digits (after_sign xs)
after_part part.Sign xs = after_digits xs
after_part part.Exponent xs = Some (no_more xs)

abbrev pub word_ends : Option (List ℕ) → Bool
word_ends None = false
word_ends (Some rest) = ends_word rest

-- directly after a word
abbrev pub EndsWord : List Bracket → List ℕ → Type 0
EndsWord bs xs = (ends_word xs ≡ true) × Closes bs (punctuate after_value (lex in_word xs))

-- these letters, and then the same
abbrev pub Spells : List ℕ → List Bracket → List ℕ → Type 0
Spells letters bs xs = (rest : List ℕ) × (0 < length letters) × (xs ≡ letters ++ rest) × EndsWord bs rest

-- ---- any place

-- these bytes complete a text that is scanned to the place, with these brackets open, the innermost first
abbrev pub Completes : Place → List Bracket → List ℕ → Type 0
Completes (place.Value Other) bs xs = BeginsValue bs (punctuate fresh (lex between xs))
Completes (place.Value after) bs xs = (outer : List Bracket) × (bs ≡ Array ∷ outer) × Closes bs (punctuate (place_of after) (lex between xs))
Completes (place.Key Other) bs xs = ⊥
Completes (place.Key after) bs xs = (outer : List Bracket) × (bs ≡ Object ∷ outer) × Closes bs (punctuate (place_of after) (lex between xs))
Completes place.Colon bs xs = BeginsValue bs (punctuate after_key (lex between xs))
Completes place.Next bs xs = Closes bs (punctuate after_value (lex between xs))
Completes place.EndOfWord bs xs = EndsWord bs xs
Completes (place.Word letters) bs xs = Spells letters.now bs xs
Completes (place.Number part) bs xs = (word_ends (after_part part xs) ≡ true) × Closes bs (punctuate after_value (lex in_word xs))
Completes (place.InString is_key next) bs xs = (text_ends next xs ≡ true) × AfterText is_key bs (lex (mode_of next) xs)
Completes place.TooDeep bs xs = Unit {0}

-- the byte leads from a place to the next
abbrev pub Leads : Place → List Bracket → ℕ → Place → List Bracket → Type 0
Leads from bs c to now = (xs : List ℕ) → Completes from bs (c ∷ xs) → Completes to now xs

-- no bytes after it complete the text
abbrev pub Ends : Place → List Bracket → ℕ → Type 0
Ends from bs c = (xs : List ℕ) → Completes from bs (c ∷ xs) → ⊥

-- the first bytes of the text are scanned to the place
abbrev pub IsScannedTo : List ℕ → ℕ → Place → List Bracket → Type 0
IsScannedTo t at to bs = (rest : List ℕ) (levels : ℕ) (j : Json) → json_within levels (take at t ++ rest) ≡ Some j → Completes to bs rest

-- ---- the parts

-- a bracket that is opened is the innermost, unless too many are open
abbrev pub Opens : Bracket → List Bracket → Place → List Bracket → Type 0
Opens b old to new = (to ≡ place.TooDeep) ⊎ ((to ≡ place_in b) × (new ≡ b ∷ old))

-- the same of a part of a number. Each of its bytes is of a word
abbrev pub PartLeads : Number → ℕ → Option Number → Type 0
PartLeads n c (Some m) = ((is_operator c || is_space c) ≡ false) × ((xs : List ℕ) → after_part n (c ∷ xs) ≡ after_part m xs)
PartLeads n c None = (xs : List ℕ) → after_part n (c ∷ xs) ≡ Some (c ∷ xs)

abbrev pub PartEnds : Number → ℕ → Type 0
PartEnds n c = (xs : List ℕ) → after_part n (c ∷ xs) ≡ None

-- the same of a string, which the byte may close
abbrev pub TextLeads : Next → ℕ → Option Next → Type 0
TextLeads n c (Some m) = (mode_after (mode_of n) c ≡ mode_of m) × ((xs : List ℕ) → text_ends n (c ∷ xs) ≡ true → text_ends m xs ≡ true)
TextLeads n c None = mode_after (mode_of n) c ≡ between

abbrev pub TextEnds : Next → ℕ → Type 0
TextEnds n c = (xs : List ℕ) → text_ends n (c ∷ xs) ≡ true → ⊥
