-- `ScansTo`, byte by byte: brackets in a text are those of its lexemes. And its tokens open no more than these.
use Rattle.std.proofs.Common.{◌≡◌, ℕ, suc, ◌+◌, ◌-◌, ◌<◌, ◌≤◌, Bool, true, false, cond, ◌==◌, ◌||◌, List, [], ◌∷◌, ◌++◌, length, take, drop, get_or, Option, Some, None, option_and_then, refl, sym, ap, ◌∙◌, subst, arith, append_assoc, append-nil}
use Rattle.std.specs.List.{starts_with}
use Rattle.std.specs.Prelude.{nat_eq, ◌&&◌}
use Rattle.std.proofs.lemmas.Bool.{eqb-true}
use Rattle.std.proofs.lemmas.List.{take_more}
use Rattle.json.specs.Token as token
use Rattle.json.specs.Token.{Token}
use Rattle.json.specs.Text.{content, plain}
use Rattle.json.specs.Word.{is_operator, is_space, ends_word, literal, number_before, after_number, word, head}
use Rattle.json.specs.Lex.{Lexeme, comma, colon, Mode, between, in_word, in_string, in_escape, class, string_token, lex, lex_byte, Place, fresh, after_value, after_comma, after_key, begins_colon, may_begin, may_close, if_allowed, place_token, punctuate, tokens}
use Rattle.json.specs.Lex as lexer
use Rattle.json.specs.Ascii as ascii
use Rattle.amqp_json.specs.Nesting.{opens, fits_after, fits, lexemes_fit, IsFirstTooDeep, OpensTooMany, IsTooDeepAt}
use Rattle.amqp_json.specs.reading.Scans.{mode_after, fits_byte, ScansTo}
use Rattle.json.specs.Json.{Json, null, boolean, number, string, array, object, Items, no_items, item, Members, no_members, member, value, if_last}
use Rattle.json.specs.Tree.{json_tokens, items_tokens, members_tokens}
use Rattle.json.proofs.Nesting.{value-depth}
use Rattle.json.proofs.Unique.Spelling.{value-json_tokens_back}
use Rattle.amqp_value_core.specs.Values.{Tree}
use Rattle.amqp_json.specs.Meaning.{meaning, meant_within}
use Rattle.amqp_json.proofs.Levels.{fits_after-weaker, fits-front, json_fits}

-- ---- tokens that open nothing

record IsPlain (t : Token) : Type 0 where
  pub same : (left : ℕ) (rest : ℕ → Bool) → fits_after t left rest ≡ rest left

one_of : (b : Bool) (t u : Token) → IsPlain t → IsPlain u → IsPlain (cond b t u)
one_of true t u h k = h
one_of false t u h k = k

bad_plain : IsPlain token.bad
bad_plain = record { same = λ left rest. refl }

number_plain : (t : List ℕ) (o : Option (List ℕ)) → IsPlain (number_before t o)
number_plain t None = bad_plain
number_plain t (Some r) = one_of (ends_word r) (token.number (take (length t - length r) t)) token.bad (record { same = λ left rest. refl }) bad_plain

literal_plain : (name : List ℕ) (u : Token) (t : List ℕ) → IsPlain u → IsPlain (literal name u t)
literal_plain name u t h = one_of (starts_with nat_eq t name && ends_word (drop (length name) t)) u token.bad h bad_plain

word_plain : (t : List ℕ) → IsPlain (word t)
unfolding word
word_plain t =
    let n = number_before t (after_number t) in
    let nothing = literal ascii.null_text token.null t in
    let falsehood = literal ascii.false_text (token.boolean false) t in
    one_of (head t == ascii.lower_t) (literal ascii.true_text (token.boolean true) t) (cond (head t == ascii.lower_f) falsehood (cond (head t == ascii.lower_n) nothing n))
    (literal_plain ascii.true_text (token.boolean true) t (record { same = λ left rest. refl }))
    (one_of (head t == ascii.lower_f) falsehood (cond (head t == ascii.lower_n) nothing n) (literal_plain ascii.false_text (token.boolean false) t (record { same = λ left rest. refl }))
    (one_of (head t == ascii.lower_n) nothing n (literal_plain ascii.null_text token.null t (record { same = λ left rest. refl })) (number_plain t (after_number t))))

string_plain : (o : Option (List ℕ)) → IsPlain (string_token o)
string_plain None = bad_plain
string_plain (Some s) = record { same = λ left rest. refl }

-- ---- a byte

-- a byte that is none of these
pub record IsOther (x : ℕ) : Type 0 where
  pub no_quote : (x == 34) ≡ false
  pub no_backslash : (x == 92) ≡ false
  pub no_operator : is_operator x ≡ false
  pub no_opening : (x == 123 || x == 91) ≡ false
  pub no_closing : (x == 125 || x == 93) ≡ false

pub by_byte : (P : ℕ → Type 0) → P 34 → P 92 → P 123 → P 125 → P 91 → P 93 → P 58 → P 44 → ((x : ℕ) → IsOther x → P x) → (x : ℕ) → P x
by_byte P a b c d e f g h other x =
    at x 34 a (λ q. at x 92 b (λ s. at x 123 c (λ c. at x 125 d (λ d. at x 91 e (λ e. at x 93 f (λ f. at x 58 g (λ g. at x 44 h (λ h.
    other x (record { no_quote = q; no_backslash = s; no_operator = rw (c, d, e, f, g, h) refl; no_opening = rw (c, e) refl; no_closing = rw (d, f) refl })))))))))
  where
    at : (y n : ℕ) → P n → ((y == n) ≡ false → P y) → P y
    at y n is differs = elim (y == n) as (λ b. (y == n) ≡ b → P y) [ true ↦ λ s. subst P (sym (eqb-true y n s)) is | false ↦ λ s. differs s ] refl

module _ (xs : List ℕ) (left : ℕ) where
  -- a byte decides as `fits_byte` does, and then the others
  abbrev Steps : Mode → ℕ → Type 0
  Steps m x = lexemes_fit left (lex m (x ∷ xs)) ≡ fits_byte m x left (λ n. lexemes_fit n (lex (mode_after m x) xs))

  space_or_other : (s : Bool) (x : ℕ) → lexemes_fit left (lex_byte between (cond s lexer.space lexer.other) x xs (λ next. lex next xs)) ≡ lexemes_fit left (lex (cond s between in_word) xs)
  space_or_other true x = refl
  space_or_other false x = (word_plain (x ∷ xs)).same left (λ n. lexemes_fit n (lex in_word xs))

  in_word_still : (s : Bool) (x : ℕ) → lexemes_fit left (lex_byte in_word (cond s lexer.space lexer.other) x xs (λ next. lex next xs)) ≡ lexemes_fit left (lex (cond s between in_word) xs)
  in_word_still true x = refl
  in_word_still false x = refl

  in_string_still : (s : Bool) (x : ℕ) → lexemes_fit left (lex_byte in_string (cond s lexer.space lexer.other) x xs (λ next. lex next xs)) ≡ lexemes_fit left (lex in_string xs)
  in_string_still true x = refl
  in_string_still false x = refl

  step-between : (x : ℕ) → Steps between x
  unfolding lex
  step-between = by_byte (Steps between) ((string_plain (content plain xs)).same left (λ n. lexemes_fit n (lex in_string xs))) refl refl refl refl refl refl refl
      (λ x o. rw (o.no_quote, o.no_backslash, o.no_operator, o.no_opening, o.no_closing) (space_or_other (is_space x) x))

  step-in_word : (x : ℕ) → Steps in_word x
  unfolding lex
  step-in_word = by_byte (Steps in_word) refl refl refl refl refl refl refl refl
      (λ x o. rw (o.no_quote, o.no_backslash, o.no_operator, o.no_opening, o.no_closing) (in_word_still (is_space x) x))

  step-in_string : (x : ℕ) → Steps in_string x
  unfolding lex
  step-in_string = by_byte (Steps in_string) refl refl refl refl refl refl refl refl (λ x o. rw (o.no_quote, o.no_backslash, o.no_operator) (in_string_still (is_space x) x))

  step-in_escape : (x : ℕ) → Steps in_escape x
  unfolding lex
  step-in_escape x = refl

  pub step : (m : Mode) (x : ℕ) → Steps m x
  step between x = step-between x
  step in_word x = step-in_word x
  step in_string x = step-in_string x
  step in_escape x = step-in_escape x

-- ---- the scan

lex-nil : (m : Mode) → lex m [] ≡ []
unfolding lex
lex-nil m = refl

next_taken : (t : List ℕ) (at : ℕ) (rest : List ℕ) → at < length t → take (at + 1) t ++ rest ≡ take at t ++ (get_or t at 0 ∷ rest)
next_taken t at rest inside = ap (λ x. x ++ rest) (take_more t at 0 inside) ∙ append_assoc (take at t) (get_or t at 0 ∷ []) rest

module _ (most : ℕ) (t : List ℕ) (at : ℕ) (m : Mode) (left : ℕ) (so : ScansTo most t at m left) (inside : at < length t) (c : ℕ) (is : c ≡ get_or t at 0) where
  through_byte : (rest : List ℕ) → lexemes_fit most (lex between (take (at + 1) t ++ rest)) ≡ fits_byte m c left (λ n. lexemes_fit n (lex (mode_after m c) rest))
  through_byte rest = ap (λ x. lexemes_fit most (lex between x)) (next_taken t at rest inside ∙ ap (λ y. take at t ++ (y ∷ rest)) (sym is)) ∙ so.same (c ∷ rest) ∙ step rest left m c

  pub scan_next : (now : ℕ) → now ≤ left + 1 → ((rest : ℕ → Bool) → fits_byte m c left rest ≡ rest now) → (next : Mode) → next ≡ mode_after m c → ScansTo most t (at + 1) next now
  scan_next now few fit next goes = record {
    inside = omega (arith, inside);
    few = omega (arith, few, so.few);
    same = λ rest. through_byte rest ∙ fit _ ∙ ap (λ n. lexemes_fit now (lex n rest)) (sym goes);
  }

  pub scan_too_deep : ((rest : ℕ → Bool) → fits_byte m c left rest ≡ false) → IsFirstTooDeep most t at
  scan_too_deep stops = record {
    inside = inside;
    before = ap (λ x. lexemes_fit most (lex between x)) (sym (append-nil (take at t))) ∙ so.same [] ∙ ap (lexemes_fit left) (lex-nil m);
    through = ap (λ x. lexemes_fit most (lex between x)) (sym (append-nil (take (at + 1) t))) ∙ through_byte [] ∙ stops _;
  }

pub scan_first : (most : ℕ) (t : List ℕ) → ScansTo most t 0 between most
scan_first most t = record { inside = omega arith; few = omega arith; same = λ rest. refl }

pub scan_end : (most : ℕ) (t : List ℕ) (at : ℕ) (m : Mode) (left : ℕ) → ScansTo most t at m left → take at t ≡ t → lexemes_fit most (lex between t) ≡ true
scan_end most t at m left so all = ap (λ x. lexemes_fit most (lex between x)) (sym all ∙ sym (append-nil (take at t))) ∙ so.same [] ∙ ap (lexemes_fit left) (lex-nil m)

-- ---- the tokens of lexemes

allowed_fits : (b : Bool) (t : Token) (k : Place → List Token) (next : Place) (n : ℕ) → fits n (t ∷ k next) ≡ true → fits n (if_allowed b t k next) ≡ true
allowed_fits true t k next n h = h
allowed_fits false t k next n h = refl

placed_fits : (p : Place) (t : Token) (b : Bool) (k : Place → List Token) (n : ℕ) (f : ℕ → Bool) → ((next : Place) (m : ℕ) → f m ≡ true → fits m (k next) ≡ true) → fits_after t n f ≡ true → fits n (place_token p t b k) ≡ true
placed_fits p token.begin_object b k n f all h = allowed_fits (may_begin p) token.begin_object k fresh n (fits_after-weaker token.begin_object n f (λ m. fits m (k fresh)) (all fresh) h)
placed_fits p token.end_object b k n f all h = allowed_fits (may_close p) token.end_object k after_value n (all after_value (suc n) h)
placed_fits p token.begin_array b k n f all h = allowed_fits (may_begin p) token.begin_array k fresh n (fits_after-weaker token.begin_array n f (λ m. fits m (k fresh)) (all fresh) h)
placed_fits p token.end_array b k n f all h = allowed_fits (may_close p) token.end_array k after_value n (all after_value (suc n) h)
placed_fits p (token.key s) b k n f all h = refl
placed_fits p (token.string s) true k n f all h = allowed_fits (may_begin p) (token.key s) k after_key n (all after_key n h)
placed_fits p (token.string s) false k n f all h = allowed_fits (may_begin p) (token.string s) k after_value n (all after_value n h)
placed_fits p (token.number s) b k n f all h = allowed_fits (may_begin p) (token.number s) k after_value n (all after_value n h)
placed_fits p (token.boolean x) b k n f all h = allowed_fits (may_begin p) (token.boolean x) k after_value n (all after_value n h)
placed_fits p token.null b k n f all h = allowed_fits (may_begin p) token.null k after_value n (all after_value n h)
placed_fits p token.bad b k n f all h = refl

pub tokens_fit : (p : Place) (ls : List Lexeme) (n : ℕ) → lexemes_fit n ls ≡ true → fits n (punctuate p ls) ≡ true
unfolding punctuate
tokens_fit fresh [] n h = refl
tokens_fit after_value [] n h = refl
tokens_fit after_comma [] n h = refl
tokens_fit after_key [] n h = refl
tokens_fit fresh (lexer.token t ∷ ls) n h = placed_fits fresh t (begins_colon ls) (λ next. punctuate next ls) n (λ m. lexemes_fit m ls) (λ next m. tokens_fit next ls m) h
tokens_fit after_value (lexer.token t ∷ ls) n h = placed_fits after_value t (begins_colon ls) (λ next. punctuate next ls) n (λ m. lexemes_fit m ls) (λ next m. tokens_fit next ls m) h
tokens_fit after_comma (lexer.token t ∷ ls) n h = placed_fits after_comma t (begins_colon ls) (λ next. punctuate next ls) n (λ m. lexemes_fit m ls) (λ next m. tokens_fit next ls m) h
tokens_fit after_key (lexer.token t ∷ ls) n h = placed_fits after_key t (begins_colon ls) (λ next. punctuate next ls) n (λ m. lexemes_fit m ls) (λ next m. tokens_fit next ls m) h
tokens_fit fresh (comma ∷ ls) n h = refl
tokens_fit after_value (comma ∷ ls) n h = tokens_fit after_comma ls n h
tokens_fit after_comma (comma ∷ ls) n h = refl
tokens_fit after_key (comma ∷ ls) n h = refl
tokens_fit fresh (colon ∷ ls) n h = refl
tokens_fit after_value (colon ∷ ls) n h = refl
tokens_fit after_comma (colon ∷ ls) n h = refl
tokens_fit after_key (colon ∷ ls) n h = tokens_fit fresh ls n h

-- so a text whose brackets fit doesn't open too many
pub never_too_many : (most : ℕ) (t : List ℕ) → lexemes_fit most (lex between t) ≡ true → OpensTooMany most (tokens t) → ⊥
never_too_many most t fit (front, rest, more, v, split, deep, means) = cc (fits-front most front rest (ap (fits most) (sym split) ∙ tokens_fit fresh (lex between t) most fit), deep)

-- ---- a text that means a value

whole : (o : Option (Json × List Token)) (v : Tree) → option_and_then meaning (option_and_then (λ p. if_last p.0 p.1) o) ≡ Some v → (j : Json) × (o ≡ Some (j, []))
whole None v e = absurd (cc)
whole (Some (j, [])) v e = (j, refl)
whole (Some (j, t ∷ ts)) v e = absurd (cc)

-- opens at most as many as it may
pub meant_fits : (most : ℕ) (t : List ℕ) (v : Tree) (at : ℕ) → meant_within most t ≡ Some v → IsTooDeepAt most t at → ⊥
meant_fits most t v at means (bracket, (front, rest, more, u, split, deep, goes_on)) =
    let (j, read) = whole (value most (tokens t)) v means in
    let spelled = value-json_tokens_back most (tokens t) [] j read in
    let fit = json_fits j most [] (value-depth most (tokens t) [] j read) in
    cc (fits-front most front rest (ap (fits most) (sym split ∙ spelled) ∙ fit), deep)

-- ---- and so of no text that begins as one that is too deep

-- none of the tokens is bad
abbrev no_bad : List Token → Bool
no_bad [] = true
no_bad (token.bad ∷ ts) = false
no_bad (t ∷ ts) = no_bad ts

mutual
  json_good : (j : Json) (us : List Token) → no_bad (json_tokens j ++ us) ≡ no_bad us
  json_good null us = refl
  json_good (boolean b) us = refl
  json_good (number s) us = refl
  json_good (string s) us = refl
  json_good (array js) us = items_good js us
  json_good (object ms) us = members_good ms us

  items_good : (js : Items) (us : List Token) → no_bad (items_tokens js ++ us) ≡ no_bad us
  items_good no_items us = refl
  items_good (item j js) us = ap no_bad (append_assoc (json_tokens j) (items_tokens js) us) ∙ json_good j (items_tokens js ++ us) ∙ items_good js us

  members_good : (ms : Members) (us : List Token) → no_bad (members_tokens ms ++ us) ≡ no_bad us
  members_good no_members us = refl
  members_good (member k j ms) us = ap no_bad (append_assoc (json_tokens j) (members_tokens ms) us) ∙ json_good j (members_tokens ms ++ us) ∙ members_good ms us

-- what the tokens after a place show of the lexemes
abbrev Shows : (Place → List Token) → (ℕ → Bool) → Type 0
Shows k f = (next : Place) (m : ℕ) → fits m (k next) ≡ true → no_bad (k next) ≡ true → f m ≡ true

placed_shows : (p : Place) (t : Token) (b : Bool) (k : Place → List Token) (n : ℕ) (f : ℕ → Bool) → Shows k f → fits n (place_token p t b k) ≡ true → no_bad (place_token p t b k) ≡ true → fits_after t n f ≡ true
placed_shows p token.begin_object b k n f all h good = opening (may_begin p) h good
  where
    opening : (a : Bool) → fits n (if_allowed a token.begin_object k fresh) ≡ true → no_bad (if_allowed a token.begin_object k fresh) ≡ true → fits_after token.begin_object n f ≡ true
    opening true h good = fits_after-weaker token.begin_object n (λ m. fits m (k fresh)) f (λ m e. all fresh m e good) h
    opening false h good = absurd (cc (good))
placed_shows p token.begin_array b k n f all h good = opening (may_begin p) h good
  where
    opening : (a : Bool) → fits n (if_allowed a token.begin_array k fresh) ≡ true → no_bad (if_allowed a token.begin_array k fresh) ≡ true → fits_after token.begin_array n f ≡ true
    opening true h good = fits_after-weaker token.begin_array n (λ m. fits m (k fresh)) f (λ m e. all fresh m e good) h
    opening false h good = absurd (cc (good))
placed_shows p token.end_object b k n f all h good = closing (may_close p) h good
  where
    closing : (a : Bool) → fits n (if_allowed a token.end_object k after_value) ≡ true → no_bad (if_allowed a token.end_object k after_value) ≡ true → f (suc n) ≡ true
    closing true h good = all after_value (suc n) h good
    closing false h good = absurd (cc (good))
placed_shows p token.end_array b k n f all h good = closing (may_close p) h good
  where
    closing : (a : Bool) → fits n (if_allowed a token.end_array k after_value) ≡ true → no_bad (if_allowed a token.end_array k after_value) ≡ true → f (suc n) ≡ true
    closing true h good = all after_value (suc n) h good
    closing false h good = absurd (cc (good))
placed_shows p (token.key s) b k n f all h good = absurd (cc (good))
placed_shows p (token.string s) true k n f all h good = named (may_begin p) h good
  where
    named : (a : Bool) → fits n (if_allowed a (token.key s) k after_key) ≡ true → no_bad (if_allowed a (token.key s) k after_key) ≡ true → f n ≡ true
    named true h good = all after_key n h good
    named false h good = absurd (cc (good))
placed_shows p (token.string s) false k n f all h good = alone (may_begin p) h good
  where
    alone : (a : Bool) → fits n (if_allowed a (token.string s) k after_value) ≡ true → no_bad (if_allowed a (token.string s) k after_value) ≡ true → f n ≡ true
    alone true h good = all after_value n h good
    alone false h good = absurd (cc (good))
placed_shows p (token.number s) b k n f all h good = alone (may_begin p) h good
  where
    alone : (a : Bool) → fits n (if_allowed a (token.number s) k after_value) ≡ true → no_bad (if_allowed a (token.number s) k after_value) ≡ true → f n ≡ true
    alone true h good = all after_value n h good
    alone false h good = absurd (cc (good))
placed_shows p (token.boolean x) b k n f all h good = alone (may_begin p) h good
  where
    alone : (a : Bool) → fits n (if_allowed a (token.boolean x) k after_value) ≡ true → no_bad (if_allowed a (token.boolean x) k after_value) ≡ true → f n ≡ true
    alone true h good = all after_value n h good
    alone false h good = absurd (cc (good))
placed_shows p token.null b k n f all h good = alone (may_begin p) h good
  where
    alone : (a : Bool) → fits n (if_allowed a token.null k after_value) ≡ true → no_bad (if_allowed a token.null k after_value) ≡ true → f n ≡ true
    alone true h good = all after_value n h good
    alone false h good = absurd (cc (good))
placed_shows p token.bad b k n f all h good = absurd (cc (good))

-- good tokens open as many as the lexemes do
shown : (p : Place) (ls : List Lexeme) (n : ℕ) → fits n (punctuate p ls) ≡ true → no_bad (punctuate p ls) ≡ true → lexemes_fit n ls ≡ true
unfolding punctuate
shown fresh [] n h good = refl
shown after_value [] n h good = refl
shown after_comma [] n h good = refl
shown after_key [] n h good = refl
shown fresh (lexer.token t ∷ ls) n h good = placed_shows fresh t (begins_colon ls) (λ next. punctuate next ls) n (λ m. lexemes_fit m ls) (λ next m. shown next ls m) h good
shown after_value (lexer.token t ∷ ls) n h good = placed_shows after_value t (begins_colon ls) (λ next. punctuate next ls) n (λ m. lexemes_fit m ls) (λ next m. shown next ls m) h good
shown after_comma (lexer.token t ∷ ls) n h good = placed_shows after_comma t (begins_colon ls) (λ next. punctuate next ls) n (λ m. lexemes_fit m ls) (λ next m. shown next ls m) h good
shown after_key (lexer.token t ∷ ls) n h good = placed_shows after_key t (begins_colon ls) (λ next. punctuate next ls) n (λ m. lexemes_fit m ls) (λ next m. shown next ls m) h good
shown fresh (comma ∷ ls) n h good = absurd (cc (good))
shown after_value (comma ∷ ls) n h good = shown after_comma ls n h good
shown after_comma (comma ∷ ls) n h good = absurd (cc (good))
shown after_key (comma ∷ ls) n h good = absurd (cc (good))
shown fresh (colon ∷ ls) n h good = absurd (cc (good))
shown after_value (colon ∷ ls) n h good = absurd (cc (good))
shown after_comma (colon ∷ ls) n h good = absurd (cc (good))
shown after_key (colon ∷ ls) n h good = shown fresh ls n h good

bracket-weaker : (a b : Bool) (n : ℕ) (f g : ℕ → Bool) → ((m : ℕ) → f m ≡ true → g m ≡ true) → cond a (opens n f) (cond b (f (suc n)) (f n)) ≡ true → cond a (opens n g) (cond b (g (suc n)) (g n)) ≡ true
bracket-weaker true b n f g k h = fits_after-weaker token.begin_array n f g k h
bracket-weaker false true n f g k h = k (suc n) h
bracket-weaker false false n f g k h = k n h

byte-weaker : (m : Mode) (x n : ℕ) (f g : ℕ → Bool) → ((i : ℕ) → f i ≡ true → g i ≡ true) → fits_byte m x n f ≡ true → fits_byte m x n g ≡ true
byte-weaker between x n f g k h = bracket-weaker (x == 123 || x == 91) (x == 125 || x == 93) n f g k h
byte-weaker in_word x n f g k h = bracket-weaker (x == 123 || x == 91) (x == 125 || x == 93) n f g k h
byte-weaker in_string x n f g k h = k n h
byte-weaker in_escape x n f g k h = k n h

-- the first bytes of a text open no more than all of it
front_fits : (front rest : List ℕ) (m : Mode) (n : ℕ) → lexemes_fit n (lex m (front ++ rest)) ≡ true → lexemes_fit n (lex m front) ≡ true
front_fits [] rest m n h = ap (lexemes_fit n) (lex-nil m)
front_fits (x ∷ front) rest m n h =
    step front n m x
    ∙ byte-weaker m x n (λ i. lexemes_fit i (lex (mode_after m x) (front ++ rest))) (λ i. lexemes_fit i (lex (mode_after m x) front)) (λ i. front_fits front rest (mode_after m x) i) (sym (step (front ++ rest) n m x) ∙ h)

pub none_begins : (most : ℕ) (t rest : List ℕ) (at : ℕ) (v : Tree) → IsTooDeepAt most t at → meant_within most (take (at + 1) t ++ rest) ≡ Some v → ⊥
none_begins most t rest at v (bracket, too_many) means =
    let u = take (at + 1) t ++ rest in
    let (j, read) = whole (value most (tokens u)) v means in
    let spelled = value-json_tokens_back most (tokens u) [] j read in
    let fit = ap (fits most) spelled ∙ json_fits j most [] (value-depth most (tokens u) [] j read) in
    let good = ap no_bad spelled ∙ json_good j [] in
    cc (front_fits (take (at + 1) t) rest between most (shown fresh (lex between u) most fit good), bracket.through)
