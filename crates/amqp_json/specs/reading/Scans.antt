-- For private clauses of `src/reading/nesting.rt` and `src/reading/syntax.rt`: how a byte takes the scan of a text further.
use Rattle.std.specs.Prelude.{ℕ, zero, suc, ◌+◌, ◌≤◌, ◌≡◌, ◌==◌, ◌||◌, List, [], ◌∷◌, ◌++◌, length, take, get_or, Bool, cond}
use Rattle.json.specs.Word.{is_operator, is_space}
use Rattle.json.specs.Lex.{Mode, between, in_word, in_string, in_escape, lex}
use Rattle.amqp_json.specs.declared.reading.brackets.Bracket.{Bracket}
use Rattle.amqp_json.specs.declared.reading.brackets.Bracket.TheVariants.{Array}
use Rattle.amqp_json.specs.declared.reading.nesting.Place.{Place}
use Rattle.amqp_json.specs.declared.reading.nesting.Place.TheVariants.{Between, InWord, InString, Escaped}
use Rattle.amqp_json.specs.declared.error.SyntaxError.{SyntaxError}
use Rattle.amqp_json.specs.declared.error.SyntaxError.TheVariants.{UnexpectedEnd, UnfinishedString}
use Rattle.amqp_json.specs.Nesting.{opens, lexemes_fit}

abbrev pub mode_of : Place → Mode
mode_of Between = between
mode_of InWord = in_word
mode_of InString = in_string
mode_of Escaped = in_escape

-- the mode of `lex` after a byte
abbrev pub mode_after : Mode → ℕ → Mode
mode_after between c = cond (c == 34) in_string (cond (is_operator c || is_space c) between in_word)
mode_after in_word c = cond (is_operator c || is_space c) between in_word
mode_after in_string c = cond (c == 34) between (cond (c == 92) in_escape in_string)
mode_after in_escape c = in_string

-- a bracket opens or closes one of `left` levels, and `rest` says whether the others are enough
abbrev pub fits_bracket : ℕ → ℕ → (ℕ → Bool) → Bool
fits_bracket c left rest = cond (c == 123 || c == 91) (opens left rest) (cond (c == 125 || c == 93) (rest (suc left)) (rest left))

-- the same of any byte
abbrev pub fits_byte : Mode → ℕ → ℕ → (ℕ → Bool) → Bool
fits_byte between c left rest = fits_bracket c left rest
fits_byte in_word c left rest = fits_bracket c left rest
fits_byte in_string c left rest = rest left
fits_byte in_escape c left rest = rest left

-- the first bytes of the text are scanned, and `left` more may be opened after them
pub record ScansTo (most : ℕ) (t : List ℕ) (at : ℕ) (mode : Mode) (left : ℕ) : Type 0 where
  pub inside : at ≤ length t
  pub few : left ≤ most + at
  pub same : (rest : List ℕ) → lexemes_fit most (lex between (take at t ++ rest)) ≡ lexemes_fit left (lex mode rest)

-- ---- where a text stops being JSON

-- the brackets that are open, the innermost first, if they are so many of the list, with the innermost last
abbrev pub innermost_first : List Bracket → ℕ → List Bracket
innermost_first bs zero = []
innermost_first bs (suc depth) = get_or bs depth Array ∷ innermost_first bs depth

-- what is wrong at a byte, and not at the end
abbrev pub IsAtByte : SyntaxError → Type 0
IsAtByte UnexpectedEnd = ⊥
IsAtByte UnfinishedString = ⊥
IsAtByte error = Unit {0}
