-- What the tokens of a text begin with, at each byte between its words.
use Rattle.std.proofs.Common.{◌≡◌, ℕ, Bool, true, false, cond, ◌==◌, ◌||◌, List, [], ◌∷◌, ◌++◌, drop, Option, Some, None, refl, sym, ap, ◌∙◌, subst, append_assoc, inl, inr, ◌⊎◌}
use Rattle.std.specs.Option.{is_some}
use Rattle.std.proofs.lemmas.Bool.{true≢false, false≢true, eqb-true, or_cases, or_parts}
use Rattle.json.specs.Token as token
use Rattle.json.specs.Token.{Token}
use Rattle.json.specs.Word.{is_operator, is_space, ends_word, number_before, after_number, word, head}
use Rattle.json.specs.Lex.{Lexeme, comma, colon, Mode, between, in_word, in_string, in_escape, class, string_token, lex, Place, fresh, after_value, after_comma, after_key, begins_colon, may_begin, may_close, if_allowed, place_token, punctuate}
use Rattle.json.specs.Lex as lexer
use Rattle.json.specs.Json.{Json, null, boolean, number, string, array, object, no_items, item, no_members, member}
use Rattle.json.specs.Tree.{json_tokens, items_tokens, members_tokens}
use Rattle.amqp_json.specs.declared.reading.brackets.Bracket.{Bracket}
use Rattle.amqp_json.specs.declared.reading.brackets.Bracket.TheVariants.{Array, Object}
use Rattle.amqp_json.specs.declared.reading.syntax.After.{After}
use Rattle.amqp_json.specs.declared.reading.syntax.After.TheVariants.{OpeningBracket, Comma, Other}
use Rattle.amqp_json.specs.reading.Continuations.{Closes, BeginsValue, place_of, word_ends}
use Rattle.amqp_json.proofs.Scanning.{IsOther, by_byte}

-- ---- the first token

abbrev pub first_is : (Token → Bool) → List Token → Bool
first_is f [] = false
first_is f (t ∷ ts) = f t

abbrev pub starts_value : Token → Bool
starts_value token.begin_object = true
starts_value token.begin_array = true
starts_value (token.string s) = true
starts_value (token.number s) = true
starts_value (token.boolean b) = true
starts_value token.null = true
starts_value t = false

abbrev pub ends_array : Token → Bool
ends_array token.end_array = true
ends_array t = false

abbrev pub starts_item : Token → Bool
starts_item token.end_array = true
starts_item t = starts_value t

abbrev pub starts_member : Token → Bool
starts_member token.end_object = true
starts_member (token.key s) = true
starts_member t = false

-- a token that a word is
abbrev pub is_word : Token → Bool
is_word (token.number s) = true
is_word (token.boolean b) = true
is_word token.null = true
is_word t = false

abbrev pub is_word_or_bad : Token → Bool
is_word_or_bad token.bad = true
is_word_or_bad t = is_word t

abbrev pub is_scalar : Token → Bool
is_scalar (token.string s) = true
is_scalar t = is_word t

json_starts : (j : Json) (us : List Token) → first_is starts_value (json_tokens j ++ us) ≡ true
json_starts null us = refl
json_starts (boolean b) us = refl
json_starts (number s) us = refl
json_starts (string s) us = refl
json_starts (array js) us = refl
json_starts (object ms) us = refl

pub value_starts : (bs : List Bracket) (ts : List Token) → BeginsValue bs ts → first_is starts_value ts ≡ true
value_starts bs ts (j, rest, e, c) = ap (first_is starts_value) e ∙ json_starts j rest

item_first : (ts : List Token) → first_is starts_value ts ≡ true → first_is starts_item ts ≡ true
item_first [] h = h
item_first (token.begin_object ∷ ts) h = h
item_first (token.end_object ∷ ts) h = h
item_first (token.begin_array ∷ ts) h = h
item_first (token.end_array ∷ ts) h = refl
item_first (token.key s ∷ ts) h = h
item_first (token.string s ∷ ts) h = h
item_first (token.number s ∷ ts) h = h
item_first (token.boolean b ∷ ts) h = h
item_first (token.null ∷ ts) h = h
item_first (token.bad ∷ ts) h = h

pub items_start : (outer : List Bracket) (ts : List Token) → Closes (Array ∷ outer) ts → first_is starts_item ts ≡ true
items_start outer ts (no_items, rest, e, c) = ap (first_is starts_item) e
items_start outer ts (item j js, rest, e, c) =
    ap (first_is starts_item) (e ∙ append_assoc (json_tokens j) (items_tokens js) rest) ∙ item_first (json_tokens j ++ (items_tokens js ++ rest)) (json_starts j (items_tokens js ++ rest))

pub members_start : (outer : List Bracket) (ts : List Token) → Closes (Object ∷ outer) ts → first_is starts_member ts ≡ true
members_start outer ts (no_members, rest, e, c) = ap (first_is starts_member) e
members_start outer ts (member k j ms, rest, e, c) = ap (first_is starts_member) e

pub item_value : (outer : List Bracket) (ts : List Token) → first_is ends_array ts ≡ false → Closes (Array ∷ outer) ts → BeginsValue (Array ∷ outer) ts
item_value outer ts other (no_items, rest, e, c) = absurd (false≢true (sym other ∙ ap (first_is ends_array) e))
item_value outer ts other (item j js, rest, e, c) = (j, items_tokens js ++ rest, e ∙ append_assoc (json_tokens j) (items_tokens js) rest, (js, rest, refl, c))

pub scalar_closes : (t : Token) (bs : List Bracket) (us : List Token) → is_scalar t ≡ true → BeginsValue bs (t ∷ us) → Closes bs us
scalar_closes t bs us s (null, rest, e, c) = subst (Closes bs) (sym (ap (drop 1) e)) c
scalar_closes t bs us s (boolean b, rest, e, c) = subst (Closes bs) (sym (ap (drop 1) e)) c
scalar_closes t bs us s (number n, rest, e, c) = subst (Closes bs) (sym (ap (drop 1) e)) c
scalar_closes t bs us s (string n, rest, e, c) = subst (Closes bs) (sym (ap (drop 1) e)) c
scalar_closes t bs us s (array js, rest, e, c) = absurd (true≢false (sym s ∙ ap (first_is is_scalar) e))
scalar_closes t bs us s (object ms, rest, e, c) = absurd (true≢false (sym s ∙ ap (first_is is_scalar) e))

abbrev begins_object : Token → Bool
begins_object token.begin_object = true
begins_object t = false

pub object_opens : (bs : List Bracket) (us : List Token) → BeginsValue bs (token.begin_object ∷ us) → Closes (Object ∷ bs) us
object_opens bs us (object ms, rest, e, c) = (ms, rest, ap (drop 1) e, c)
object_opens bs us (null, rest, e, c) = absurd (true≢false (ap (first_is begins_object) e))
object_opens bs us (boolean b, rest, e, c) = absurd (true≢false (ap (first_is begins_object) e))
object_opens bs us (number s, rest, e, c) = absurd (true≢false (ap (first_is begins_object) e))
object_opens bs us (string s, rest, e, c) = absurd (true≢false (ap (first_is begins_object) e))
object_opens bs us (array js, rest, e, c) = absurd (true≢false (ap (first_is begins_object) e))

abbrev begins_array : Token → Bool
begins_array token.begin_array = true
begins_array t = false

pub array_opens : (bs : List Bracket) (us : List Token) → BeginsValue bs (token.begin_array ∷ us) → Closes (Array ∷ bs) us
array_opens bs us (array js, rest, e, c) = (js, rest, ap (drop 1) e, c)
array_opens bs us (null, rest, e, c) = absurd (true≢false (ap (first_is begins_array) e))
array_opens bs us (boolean b, rest, e, c) = absurd (true≢false (ap (first_is begins_array) e))
array_opens bs us (number s, rest, e, c) = absurd (true≢false (ap (first_is begins_array) e))
array_opens bs us (string s, rest, e, c) = absurd (true≢false (ap (first_is begins_array) e))
array_opens bs us (object ms, rest, e, c) = absurd (true≢false (ap (first_is begins_array) e))

pub array_closes : (outer : List Bracket) (us : List Token) → Closes (Array ∷ outer) (token.end_array ∷ us) → Closes outer us
array_closes outer us (no_items, rest, e, c) = subst (Closes outer) (sym (ap (drop 1) e)) c
array_closes outer us (item j js, rest, e, c) =
    absurd (false≢true (ap (first_is starts_value) (e ∙ append_assoc (json_tokens j) (items_tokens js) rest) ∙ json_starts j (items_tokens js ++ rest)))

abbrev is_key : Token → Bool
is_key (token.key s) = true
is_key t = false

pub object_closes : (outer : List Bracket) (us : List Token) → Closes (Object ∷ outer) (token.end_object ∷ us) → Closes outer us
object_closes outer us (no_members, rest, e, c) = subst (Closes outer) (sym (ap (drop 1) e)) c
object_closes outer us (member k j ms, rest, e, c) = absurd (false≢true (ap (first_is is_key) e))

pub key_opens : (outer : List Bracket) (s : List ℕ) (us : List Token) → Closes (Object ∷ outer) (token.key s ∷ us) → BeginsValue (Object ∷ outer) us
key_opens outer s us (no_members, rest, e, c) = absurd (true≢false (ap (first_is is_key) e))
key_opens outer s us (member k j ms, rest, e, c) = (j, members_tokens ms ++ rest, ap (drop 1) e ∙ append_assoc (json_tokens j) (members_tokens ms) rest, (ms, rest, refl, c))

-- ---- a token at its place

pub allowed : (after : After) (t : Token) (k : Place → List Token) (next : Place) → if_allowed (may_begin (place_of after)) t k next ≡ t ∷ k next
allowed OpeningBracket t k next = refl
allowed Comma t k next = refl
allowed Other t k next = refl

pub token_at : (after : After) (t : Token) (ls : List Lexeme) → punctuate (place_of after) (lexer.token t ∷ ls) ≡ place_token (place_of after) t (begins_colon ls) (λ next. punctuate next ls)
unfolding punctuate
token_at OpeningBracket t ls = refl
token_at Comma t ls = refl
token_at Other t ls = refl

closing_or_bad : (f : Token → Bool) (b : Bool) (t : Token) (k : Place → List Token) (next : Place) → f t ≡ false → f token.bad ≡ false → first_is f (if_allowed b t k next) ≡ false
closing_or_bad f true t k next e bad = e
closing_or_bad f false t k next e bad = bad

pub not_end : (p : Place) (t : Token) (b : Bool) (k : Place → List Token) → ends_array t ≡ false → first_is ends_array (place_token p t b k) ≡ false
not_end p token.begin_object b k e = closing_or_bad ends_array (may_begin p) token.begin_object k fresh refl refl
not_end p token.end_object b k e = closing_or_bad ends_array (may_close p) token.end_object k after_value refl refl
not_end p token.begin_array b k e = closing_or_bad ends_array (may_begin p) token.begin_array k fresh refl refl
not_end p token.end_array b k e = absurd (true≢false e)
not_end p (token.key s) b k e = refl
not_end p (token.string s) true k e = closing_or_bad ends_array (may_begin p) (token.key s) k after_key refl refl
not_end p (token.string s) false k e = closing_or_bad ends_array (may_begin p) (token.string s) k after_value refl refl
not_end p (token.number s) b k e = closing_or_bad ends_array (may_begin p) (token.number s) k after_value refl refl
not_end p (token.boolean x) b k e = closing_or_bad ends_array (may_begin p) (token.boolean x) k after_value refl refl
not_end p token.null b k e = closing_or_bad ends_array (may_begin p) token.null k after_value refl refl
not_end p token.bad b k e = refl

pub string_no_end : (o : Option (List ℕ)) → ends_array (string_token o) ≡ false
string_no_end None = refl
string_no_end (Some s) = refl

pub word_no_end : (t : Token) → is_word_or_bad t ≡ true → ends_array t ≡ false
word_no_end token.begin_object e = refl
word_no_end token.end_object e = refl
word_no_end token.begin_array e = refl
word_no_end token.end_array e = absurd (false≢true e)
word_no_end (token.key s) e = refl
word_no_end (token.string s) e = refl
word_no_end (token.number s) e = refl
word_no_end (token.boolean x) e = refl
word_no_end token.null e = refl
word_no_end token.bad e = refl

-- ---- words

either_word : (b : Bool) (t u : Token) → is_word_or_bad t ≡ true → is_word_or_bad u ≡ true → is_word_or_bad (cond b t u) ≡ true
either_word true t u h k = h
either_word false t u h k = k

number_word : (t : List ℕ) (o : Option (List ℕ)) → is_word_or_bad (number_before t o) ≡ true
number_word t None = refl
number_word t (Some r) = either_word (ends_word r) _ token.bad refl refl

pub word_is : (t : List ℕ) → is_word_or_bad (word t) ≡ true
unfolding word
word_is t =
    either_word (head t == 116) _ _ (either_word _ (token.boolean true) token.bad refl refl) (either_word (head t == 102) _ _ (either_word _ (token.boolean false) token.bad refl refl)
    (either_word (head t == 110) _ _ (either_word _ token.null token.bad refl refl) (number_word t (after_number t))))

pub placed_word : (after : After) (t : Token) (b : Bool) (k : Place → List Token) (bs : List Bracket) → is_word t ≡ true → BeginsValue bs (place_token (place_of after) t b k) → Closes bs (k after_value)
placed_word after (token.number s) b k bs w h = scalar_closes (token.number s) bs (k after_value) refl (subst (BeginsValue bs) (allowed after (token.number s) k after_value) h)
placed_word after (token.boolean x) b k bs w h = scalar_closes (token.boolean x) bs (k after_value) refl (subst (BeginsValue bs) (allowed after (token.boolean x) k after_value) h)
placed_word after token.null b k bs w h = scalar_closes token.null bs (k after_value) refl (subst (BeginsValue bs) (allowed after token.null k after_value) h)
placed_word after token.begin_object b k bs w h = absurd (false≢true w)
placed_word after token.end_object b k bs w h = absurd (false≢true w)
placed_word after token.begin_array b k bs w h = absurd (false≢true w)
placed_word after token.end_array b k bs w h = absurd (false≢true w)
placed_word after (token.key s) b k bs w h = absurd (false≢true w)
placed_word after (token.string s) b k bs w h = absurd (false≢true w)
placed_word after token.bad b k bs w h = absurd (false≢true w)

pub cond_word : (after : After) (x : Bool) (t : Token) (b : Bool) (k : Place → List Token) (bs : List Bracket) → is_word t ≡ true → BeginsValue bs (place_token (place_of after) (cond x t token.bad) b k) → (x ≡ true) × Closes bs (k after_value)
cond_word after true t b k bs w h = (refl, placed_word after t b k bs w h)
cond_word after false t b k bs w h = absurd (false≢true (value_starts bs _ h))

pub number_at : (after : After) (t : List ℕ) (o : Option (List ℕ)) (b : Bool) (k : Place → List Token) (bs : List Bracket) → BeginsValue bs (place_token (place_of after) (number_before t o) b k) → (word_ends o ≡ true) × Closes bs (k after_value)
number_at after t None b k bs h = absurd (false≢true (value_starts bs _ h))
number_at after t (Some r) b k bs h = cond_word after (ends_word r) (token.number _) b k bs refl h

pub string_at : (after : After) (o : Option (List ℕ)) (b : Bool) (k : Place → List Token) (bs : List Bracket) → BeginsValue bs (place_token (place_of after) (string_token o) b k) → (is_some o ≡ true) × Closes bs (k after_value)
string_at after None b k bs h = absurd (false≢true (value_starts bs _ h))
string_at after (Some s) true k bs h = absurd (false≢true (value_starts bs _ (subst (BeginsValue bs) (allowed after (token.key s) k after_key) h)))
string_at after (Some s) false k bs h = (refl, scalar_closes (token.string s) bs (k after_value) refl (subst (BeginsValue bs) (allowed after (token.string s) k after_value) h))

-- ---- bytes

pub by_space : (P : ℕ → Type 0) → P 32 → P 9 → P 10 → P 13 → (x : ℕ) → is_space x ≡ true → P x
by_space P a b c d x h = last (or_cases _ _ h)
  where
    at : (n : ℕ) → P n → (x == n) ≡ true → P x
    at n p e = subst P (sym (eqb-true x n e)) p

    first : ((x == 32) ≡ true) ⊎ ((x == 9) ≡ true) → P x
    first (inl e) = at 32 a e
    first (inr e) = at 9 b e

    second : (((x == 32) || (x == 9)) ≡ true) ⊎ ((x == 10) ≡ true) → P x
    second (inl e) = first (or_cases _ _ e)
    second (inr e) = at 10 c e

    last : ((((x == 32) || (x == 9)) || (x == 10)) ≡ true) ⊎ ((x == 13) ≡ true) → P x
    last (inl e) = second (or_cases _ _ e)
    last (inr e) = at 13 d e

pub lex_word : (x : ℕ) (xs : List ℕ) → IsOther x → is_space x ≡ false → lex between (x ∷ xs) ≡ lexer.token (word (x ∷ xs)) ∷ lex in_word xs
unfolding lex
lex_word x xs o solid = rw (o.no_quote, o.no_backslash, o.no_operator, solid) refl

pub space_between : (xs : List ℕ) (x : ℕ) → is_space x ≡ true → lex between (x ∷ xs) ≡ lex between xs
unfolding lex
space_between xs = by_space (λ x. lex between (x ∷ xs) ≡ lex between xs) refl refl refl refl

pub space_in_word : (xs : List ℕ) (x : ℕ) → is_space x ≡ true → lex in_word (x ∷ xs) ≡ lex between xs
unfolding lex
space_in_word xs = by_space (λ x. lex in_word (x ∷ xs) ≡ lex between xs) refl refl refl refl

pub operator_in_word : (xs : List ℕ) (x : ℕ) → is_operator x ≡ true → lex in_word (x ∷ xs) ≡ lex between (x ∷ xs)
unfolding lex
operator_in_word xs =
    by_byte (λ x. is_operator x ≡ true → lex in_word (x ∷ xs) ≡ lex between (x ∷ xs)) (λ e. absurd (false≢true e)) (λ e. absurd (false≢true e)) (λ e. refl) (λ e. refl) (λ e. refl) (λ e. refl) (λ e. refl) (λ e. refl)
    (λ x o e. absurd (false≢true (sym o.no_operator ∙ e)))

pub over_word : (xs : List ℕ) (x : ℕ) → (is_operator x || is_space x) ≡ false → lex in_word (x ∷ xs) ≡ lex in_word xs
unfolding lex
over_word xs =
    by_byte (λ x. (is_operator x || is_space x) ≡ false → lex in_word (x ∷ xs) ≡ lex in_word xs) (λ e. refl) (λ e. refl) (λ e. absurd (true≢false e)) (λ e. absurd (true≢false e)) (λ e. absurd (true≢false e)) (λ e. absurd (true≢false e)) (λ e. absurd (true≢false e)) (λ e. absurd (true≢false e))
    (λ x o e. let solid : is_space x ≡ false = (or_parts (is_operator x) (is_space x) e).1 in rw (o.no_quote, o.no_backslash, o.no_operator, solid) refl)
