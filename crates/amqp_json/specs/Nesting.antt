-- `IsTooDeepAt`: a JSON text opens one array or object too many, at which byte, and nothing else is wrong with it before.
use Rattle.std.specs.Prelude.{ℕ, zero, suc, ◌+◌, ◌<◌, ◌≡◌, List, [], ◌∷◌, ◌++◌, length, take, Bool, true, false, Some, option_and_then}
use Rattle.json.specs.Token.{Token, begin_object, end_object, begin_array, end_array}
use Rattle.json.specs.Lex.{Lexeme, token, comma, colon, between, lex, tokens}
use Rattle.amqp_value_core.specs.Values.{Tree}
use Rattle.amqp_json.specs.Meaning.{meaning, json_of}
use Rattle.amqp_json.specs.declared.error.JsonError.{JsonError}
use Rattle.amqp_json.specs.declared.error.JsonError.TheVariants.{Syntax, TooDeep, NotAValue}

-- one of `left` levels is opened, if there is one, and `rest` says whether the others are enough
abbrev pub opens : ℕ → (ℕ → Bool) → Bool
opens zero rest = false
opens (suc left) rest = rest left

-- an opening bracket takes a level, and a closing one gives it back
abbrev pub fits_after : Token → ℕ → (ℕ → Bool) → Bool
fits_after begin_object left rest = opens left rest
fits_after begin_array left rest = opens left rest
fits_after end_object left rest = rest (suc left)
fits_after end_array left rest = rest (suc left)
fits_after t left rest = rest left

-- these tokens, and these lexemes, never open more than `left` arrays and objects at once
abbrev pub fits : ℕ → List Token → Bool
fits left [] = true
fits left (t ∷ ts) = fits_after t left (λ n. fits n ts)

abbrev pub lexemes_fit : ℕ → List Lexeme → Bool
lexemes_fit left [] = true
lexemes_fit left (token t ∷ ls) = fits_after t left (λ n. lexemes_fit n ls)
lexemes_fit left (comma ∷ ls) = lexemes_fit left ls
lexemes_fit left (colon ∷ ls) = lexemes_fit left ls

-- the byte `at` is the bracket, outside of strings, that first opens more than `most` at once
pub record IsFirstTooDeep (most : ℕ) (t : List ℕ) (at : ℕ) : Type 0 where
  pub inside : at < length t
  pub before : lexemes_fit most (lex between (take at t)) ≡ true
  pub through : lexemes_fit most (lex between (take (at + 1) t)) ≡ false

-- nothing else is wrong before one is too many: some of the tokens, from the first on, open more than `most` at once,
-- and could go on to mean a value if one more level were allowed
abbrev pub OpensTooMany : ℕ → List Token → Type 0
OpensTooMany most ts = (front : List Token) × (rest : List Token) × (more : List Token) × (v : Tree) × (ts ≡ front ++ rest) × (fits most front ≡ false) × (option_and_then meaning (json_of (suc most) (front ++ more)) ≡ Some v)

-- the text opens one array or object too many before anything else is wrong with it, and `at` is that bracket
abbrev pub IsTooDeepAt : ℕ → List ℕ → ℕ → Type 0
IsTooDeepAt most t at = IsFirstTooDeep most t at × OpensTooMany most (tokens t)

-- an error that blames the text is `TooDeep(at)` exactly if the text is too deep at that byte; and the same of its tokens
abbrev pub ReportsNesting : ℕ → JsonError → List ℕ → Type 0
ReportsNesting most (TooDeep at) t = IsTooDeepAt most t at
ReportsNesting most (Syntax byte error) t = (at : ℕ) → IsTooDeepAt most t at → ⊥
ReportsNesting most (NotAValue byte mismatch) t = (at : ℕ) → IsTooDeepAt most t at → ⊥
ReportsNesting most e t = Unit {0}

abbrev pub ReportsNestingOf : ℕ → JsonError → List Token → Type 0
ReportsNestingOf most (TooDeep at) ts = OpensTooMany most ts
ReportsNestingOf most (Syntax byte error) ts = OpensTooMany most ts → ⊥
ReportsNestingOf most (NotAValue byte mismatch) ts = OpensTooMany most ts → ⊥
ReportsNestingOf most e ts = Unit {0}
