-- `Completes`, byte by byte: which byte leads where, and which leads nowhere.
use Rattle.std.proofs.Common.{◌≡◌, ℕ, suc, ◌+◌, ◌<◌, ◌≤◌, Bool, true, false, cond, ◌==◌, ◌||◌, leb, List, [], ◌∷◌, ◌++◌, length, take, drop, get_or, Option, Some, None, Result, Ok, Err, Bor, option_and_then, refl, sym, ap, ◌∙◌, subst, append_assoc, inl, inr, ◌⊎◌, arith}
use Rattle.std.specs.Prelude.{◌&&◌, nat_eq, MatchResult}
use Rattle.std.specs.List.{starts_with}
use Rattle.std.specs.Char.{is_ascii_digit}
use Rattle.std.specs.Option.{is_some}
use Rattle.std.proofs.lemmas.Bool.{true≢false, false≢true, ne_eqb, and_parts, or_parts, and_left, and_right, lt-leb}
use Rattle.std.proofs.lemmas.Bool.Decides.{Decides-eqb}
use Rattle.std.proofs.lemmas.Slice.Eq.{starts_is}
use Rattle.std.proofs.lemmas.List.{take_more}
use Rattle.json.specs.Token as token
use Rattle.json.specs.Token.{Token}
use Rattle.json.specs.Text.{content, plain}
use Rattle.json.specs.Word.{is_operator, is_space, ends_word, literal, number_before, after_number, after_whole, word}
use Rattle.json.specs.Ascii as ascii
use Rattle.json.specs.Lex.{Lexeme, comma, colon, Mode, between, in_word, in_string, in_escape, string_token, lex, lex_byte, Place, fresh, after_value, after_comma, after_key, begins_colon, may_begin, may_close, if_allowed, place_token, punctuate, tokens}
use Rattle.json.specs.Lex as lexer
use Rattle.json.specs.Json.{Json, value, if_last}
use Rattle.json.proofs.Unique.Spelling.{value-json_tokens_back}
use Rattle.amqp_json.specs.declared.reading.brackets.Bracket.{Bracket}
use Rattle.amqp_json.specs.declared.reading.brackets.Bracket.TheVariants.{Array, Object}
use Rattle.amqp_json.specs.declared.reading.syntax.After.{After}
use Rattle.amqp_json.specs.declared.reading.syntax.After.TheVariants.{OpeningBracket, Comma, Other}
use Rattle.amqp_json.specs.declared.reading.syntax.Number.{Number}
use Rattle.amqp_json.specs.declared.reading.syntax.Number.TheVariants as part
use Rattle.amqp_json.specs.declared.reading.syntax.Next.{Next}
use Rattle.amqp_json.specs.declared.reading.syntax.Next.TheVariants as next
use Rattle.amqp_json.specs.declared.reading.syntax.Place as at
use Rattle.amqp_json.specs.declared.reading.syntax.Place.TheVariants as places
use Rattle.amqp_json.specs.declared.error.SyntaxError.{SyntaxError}
use Rattle.amqp_json.specs.Meaning.{json_within}
use Rattle.amqp_json.specs.Conversions.{BeginsNoJson}
use Rattle.amqp_json.specs.reading.Scans.{mode_after}
use Rattle.amqp_json.specs.reading.Continuations.{Closes, BeginsValue, place_of, place_in, mode_of, no_more, after_part, word_ends, EndsWord, Spells, AfterText, Completes, Leads, Ends, Opens, PartLeads, TextLeads, IsScannedTo}
use Rattle.amqp_json.proofs.Scanning.{IsOther, by_byte}
use Rattle.amqp_json.proofs.Numerals.{no_digits, a_digit, not_equal, of_word, whole_digits}
use Rattle.amqp_json.proofs.Continued.{first_is, starts_value, ends_array, starts_item, starts_member, is_word, is_word_or_bad, value_starts, items_start, members_start, item_value, object_opens, array_opens, array_closes, object_closes, key_opens, allowed, token_at, not_end, string_no_end, word_no_end, word_is, cond_word, number_at, string_at, lex_word, space_between, space_in_word, operator_in_word, over_word}

-- ---- where a value may begin

-- a value begins, unless the bracket closes
as_value : (after : After) (bs : List Bracket) (xs : List ℕ) → first_is ends_array (punctuate (place_of after) (lex between xs)) ≡ false → Completes (places.Value after) bs xs → BeginsValue bs (punctuate (place_of after) (lex between xs))
as_value Other bs xs other h = h
as_value OpeningBracket bs xs other (outer, e, c) = subst (λ b. BeginsValue b (punctuate fresh (lex between xs))) (sym e) (item_value outer _ other (subst (λ b. Closes b (punctuate fresh (lex between xs))) e c))
as_value Comma bs xs other (outer, e, c) = subst (λ b. BeginsValue b (punctuate after_comma (lex between xs))) (sym e) (item_value outer _ other (subst (λ b. Closes b (punctuate after_comma (lex between xs))) e c))

value_at : (after : After) (bs : List Bracket) (ys xs : List ℕ) (t : Token) (m : Mode) → lex between ys ≡ lexer.token t ∷ lex m xs → ends_array t ≡ false → Completes (places.Value after) bs ys
    → BeginsValue bs (place_token (place_of after) t (begins_colon (lex m xs)) (λ n. punctuate n (lex m xs)))
value_at after bs ys xs t m l other h =
    let same = ap (punctuate (place_of after)) l ∙ token_at after t (lex m xs) in
    subst (BeginsValue bs) same (as_value after bs ys (ap (first_is ends_array) same ∙ not_end (place_of after) t (begins_colon (lex m xs)) (λ n. punctuate n (lex m xs)) other) h)

-- at a byte
at_byte : (p : at.Place) (bs : List Bracket) (c d : ℕ) (to : at.Place) (new : List Bracket) → c ≡ d → Leads p bs d to new → Leads p bs c to new
at_byte p bs c d to new e h = subst (λ x. Leads p bs x to new) (sym e) h

pub quote_leads : (after : After) (bs : List Bracket) (c : ℕ) (to : at.Place) → c ≡ 34 → to ≡ places.InString false next.Character → Leads (places.Value after) bs c to bs
unfolding lex
quote_leads after bs c to e is =
    at_byte (places.Value after) bs c 34 to bs e
    (λ xs h. subst (λ (p : at.Place). Completes p bs xs) (sym is)
    (string_at after (content plain xs) (begins_colon (lex in_string xs)) (λ n. punctuate n (lex in_string xs)) bs (value_at after bs (34 ∷ xs) xs (string_token (content plain xs)) in_string refl (string_no_end (content plain xs)) h)))

-- brackets
opened_as : (b : Bracket) (bs : List Bracket) (to : at.Place) (new : List Bracket) (xs : List ℕ) → Opens b bs to new → Completes (place_in b) (b ∷ bs) xs → Completes to new xs
opened_as b bs to new xs (inl e) h = subst (λ (p : at.Place). Completes p new xs) (sym e) tt
opened_as b bs to new xs (inr (e, f)) h = subst (λ (p : at.Place). Completes p new xs) (sym e) (subst (λ l. Completes (place_in b) l xs) (sym f) h)

pub object_leads : (after : After) (bs : List Bracket) (c : ℕ) (to : at.Place) (new : List Bracket) → c ≡ 123 → Opens Object bs to new → Leads (places.Value after) bs c to new
unfolding lex
object_leads after bs c to new e o =
    at_byte (places.Value after) bs c 123 to new e
    (λ xs h. opened_as Object bs to new xs o
    (bs, refl, object_opens bs (punctuate fresh (lex between xs)) (subst (BeginsValue bs) (allowed after token.begin_object (λ n. punctuate n (lex between xs)) fresh) (value_at after bs (123 ∷ xs) xs token.begin_object between refl refl h))))

pub array_leads : (after : After) (bs : List Bracket) (c : ℕ) (to : at.Place) (new : List Bracket) → c ≡ 91 → Opens Array bs to new → Leads (places.Value after) bs c to new
unfolding lex
array_leads after bs c to new e o =
    at_byte (places.Value after) bs c 91 to new e
    (λ xs h. opened_as Array bs to new xs o
    (bs, refl, array_opens bs (punctuate fresh (lex between xs)) (subst (BeginsValue bs) (allowed after token.begin_array (λ n. punctuate n (lex between xs)) fresh) (value_at after bs (91 ∷ xs) xs token.begin_array between refl refl h))))

-- a bracket that closes
closed_as : (bs outer old new : List Bracket) (b : Bracket) (to : at.Place) (xs : List ℕ) → old ≡ b ∷ outer → to ≡ places.Next → new ≡ drop 1 old → Closes outer (punctuate after_value (lex between xs)) → Completes to new xs
closed_as bs outer old new b to xs e is f h =
    subst (λ (p : at.Place). Completes p new xs) (sym is) (subst (λ l. Closes l (punctuate after_value (lex between xs))) (sym (f ∙ ap (drop 1) e)) h)

pub array_ends : (after : After) (bs : List Bracket) (c : ℕ) (to : at.Place) (new : List Bracket) → after ≡ OpeningBracket → c ≡ 93 → to ≡ places.Next → new ≡ drop 1 bs → Leads (places.Value after) bs c to new
unfolding lex punctuate
array_ends after bs c to new a e is f = subst (λ (x : After). Leads (places.Value x) bs c to new) (sym a) (at_byte (places.Value OpeningBracket) bs c 93 to new e ends)
  where
    ends : Leads (places.Value OpeningBracket) bs 93 to new
    ends xs (outer, same, h) = closed_as bs outer bs new Array to xs same is f (array_closes outer _ (subst (λ b. Closes b (punctuate fresh (lex between (93 ∷ xs)))) same h))

pub trailing_comma : (after : After) (bs : List Bracket) (c : ℕ) → after ≡ Comma → c ≡ 93 → Ends (places.Value after) bs c
unfolding lex punctuate
trailing_comma after bs c a e = subst (λ (x : After). Ends (places.Value x) bs c) (sym a) (subst (λ x. Ends (places.Value Comma) bs x) (sym e) ends)
  where
    ends : Ends (places.Value Comma) bs 93
    ends xs (outer, same, h) = false≢true (items_start outer _ (subst (λ b. Closes b (punctuate after_comma (lex between (93 ∷ xs)))) same h))

pub no_array : (after : After) (bs : List Bracket) (c : ℕ) → after ≡ Other → c ≡ 93 → Ends (places.Value after) bs c
unfolding lex punctuate
no_array after bs c a e =
    subst (λ (x : After). Ends (places.Value x) bs c) (sym a) (subst (λ x. Ends (places.Value Other) bs x) (sym e) (λ xs h. false≢true (value_starts bs (punctuate fresh (lex between (93 ∷ xs))) h)))

-- words
letters_at : (name xs : List ℕ) → starts_with nat_eq xs name ≡ true → xs ≡ name ++ drop (length name) xs
letters_at name xs h = (starts_is Decides-eqb xs name (starts_with nat_eq xs name) refl).0 h

module _ (after : After) (bs : List Bracket) (c : ℕ) where
  -- one of the three words
  word_leads : (name rest : List ℕ) (x : Token) → is_word x ≡ true → 0 < length rest → c ∷ rest ≡ name
      → ((xs : List ℕ) → lex between (c ∷ xs) ≡ lexer.token (literal name x (c ∷ xs)) ∷ lex in_word xs) → ((xs : List ℕ) → lex in_word (rest ++ xs) ≡ lex in_word xs) → is_word_or_bad x ≡ true → (xs : List ℕ) → Completes (places.Value after) bs (c ∷ xs) → Spells rest bs xs
  word_leads name rest x word some whole begins over good xs h =
      let both = starts_with nat_eq (c ∷ xs) name && ends_word (drop (length name) (c ∷ xs)) in
      let (found, closes) = cond_word after both x (begins_colon (lex in_word xs)) (λ n. punctuate n (lex in_word xs)) bs word
      (value_at after bs (c ∷ xs) xs (literal name x (c ∷ xs)) in_word (begins xs) (no_end both) h) in
      let (starts, ends) = and_parts _ _ found in
      let n : length name ≡ suc (length rest) = ap length (sym whole) in
      let left : List ℕ = drop (length name) (c ∷ xs) in
      let same : xs ≡ rest ++ left = ap (drop 1) (letters_at name (c ∷ xs) starts ∙ ap (λ l. l ++ left) (sym whole)) in
      (left, some, same, (ends, subst (λ (l : List Lexeme). Closes bs (punctuate after_value l)) (ap (lex in_word) same ∙ over left) closes))
    where
      no_end : (b : Bool) → ends_array (cond b x token.bad) ≡ false
      no_end true = word_no_end x good
      no_end false = refl

  pub true_leads : c ≡ 116 → (xs : List ℕ) → Completes (places.Value after) bs (c ∷ xs) → Spells (114 ∷ 117 ∷ 101 ∷ []) bs xs
  unfolding lex word
  true_leads e =
      word_leads ascii.true_text (114 ∷ 117 ∷ 101 ∷ []) (token.boolean true) refl (omega arith) (ap (λ x. x ∷ 114 ∷ 117 ∷ 101 ∷ []) e)
      (λ xs. subst (λ x. lex between (x ∷ xs) ≡ lexer.token (literal ascii.true_text (token.boolean true) (x ∷ xs)) ∷ lex in_word xs) (sym e) refl) (λ xs. refl) refl

  pub false_leads : c ≡ 102 → (xs : List ℕ) → Completes (places.Value after) bs (c ∷ xs) → Spells (97 ∷ 108 ∷ 115 ∷ 101 ∷ []) bs xs
  unfolding lex word
  false_leads e =
      word_leads ascii.false_text (97 ∷ 108 ∷ 115 ∷ 101 ∷ []) (token.boolean false) refl (omega arith) (ap (λ x. x ∷ 97 ∷ 108 ∷ 115 ∷ 101 ∷ []) e)
      (λ xs. subst (λ x. lex between (x ∷ xs) ≡ lexer.token (literal ascii.false_text (token.boolean false) (x ∷ xs)) ∷ lex in_word xs) (sym e) refl) (λ xs. refl) refl

  pub null_leads : c ≡ 110 → (xs : List ℕ) → Completes (places.Value after) bs (c ∷ xs) → Spells (117 ∷ 108 ∷ 108 ∷ []) bs xs
  unfolding lex word
  null_leads e =
      word_leads ascii.null_text (117 ∷ 108 ∷ 108 ∷ []) token.null refl (omega arith) (ap (λ x. x ∷ 117 ∷ 108 ∷ 108 ∷ []) e)
      (λ xs. subst (λ x. lex between (x ∷ xs) ≡ lexer.token (literal ascii.null_text token.null (x ∷ xs)) ∷ lex in_word xs) (sym e) refl) (λ xs. refl) refl

  -- numbers
  number_leads : (n : Number) → ((xs : List ℕ) → lex between (c ∷ xs) ≡ lexer.token (word (c ∷ xs)) ∷ lex in_word xs) → ((xs : List ℕ) → word (c ∷ xs) ≡ number_before (c ∷ xs) (after_part n xs)) → Leads (places.Value after) bs c (places.Number n) bs
  number_leads n begins is xs h =
      number_at after (c ∷ xs) (after_part n xs) (begins_colon (lex in_word xs)) (λ m. punctuate m (lex in_word xs)) bs
      (subst (λ (t : Token). BeginsValue bs (place_token (place_of after) t (begins_colon (lex in_word xs)) (λ m. punctuate m (lex in_word xs)))) (is xs) (value_at after bs (c ∷ xs) xs (word (c ∷ xs)) in_word (begins xs) (word_no_end _ (word_is (c ∷ xs))) h))

  pub minus_begins : c ≡ 45 → Leads (places.Value after) bs c (places.Number part.Minus) bs
  unfolding lex word after_number
  minus_begins e =
      number_leads part.Minus (λ xs. subst (λ x. lex between (x ∷ xs) ≡ lexer.token (word (x ∷ xs)) ∷ lex in_word xs) (sym e) refl)
      (λ xs. subst (λ x. word (x ∷ xs) ≡ number_before (x ∷ xs) (after_part part.Minus xs)) (sym e) refl)

  pub zero_begins : c ≡ 48 → Leads (places.Value after) bs c (places.Number part.Zero) bs
  unfolding lex word after_number
  zero_begins e =
      number_leads part.Zero (λ xs. subst (λ x. lex between (x ∷ xs) ≡ lexer.token (word (x ∷ xs)) ∷ lex in_word xs) (sym e) refl)
      (λ xs. subst (λ x. word (x ∷ xs) ≡ number_before (x ∷ xs) (after_part part.Zero xs)) (sym e) refl)

  pub digit_begins : 49 ≤ c → c ≤ 57 → Leads (places.Value after) bs c (places.Number part.Integer) bs
  unfolding word after_number
  digit_begins low high =
      let digit = a_digit c (omega (arith, low)) high in
      let differs : (d : ℕ) → is_ascii_digit d ≡ false → (c == d) ≡ false = λ d other. not_equal c d digit other in
      let none = or_parts (is_operator c) (is_space c) (of_word c digit) in
      let other : IsOther c = record { no_quote = differs 34 refl; no_backslash = differs 92 refl; no_operator = none.0; no_opening = rw (differs 123 refl, differs 91 refl) refl; no_closing = rw (differs 125 refl, differs 93 refl) refl } in
      let whole : (xs : List ℕ) → after_whole (c ∷ xs) ≡ Some (no_more xs) = λ xs. whole_digits c xs digit (ne_eqb c 48 (λ x. omega (arith, x, low))) in
      number_leads part.Integer (λ xs. lex_word c xs other none.1)
      (λ xs. rw (differs 116 refl, differs 102 refl, differs 110 refl, differs 45 refl, whole xs) refl)

-- ---- bytes that can't be there

-- the tokens from a byte on, by the byte
abbrev Reads : (Place) → (Token → Bool) → ℕ → Type 0
Reads p f x = (xs : List ℕ) → first_is f (punctuate p (lex between (x ∷ xs))) ≡ false

word_reads : (p : Place) (f : Token → Bool) (x : ℕ) → IsOther x → is_space x ≡ false → ((t : Token) (ls : List Lexeme) → is_word_or_bad t ≡ true → first_is f (punctuate p (lexer.token t ∷ ls)) ≡ false) → Reads p f x
word_reads p f x o solid h xs = ap (λ (ls : List Lexeme). first_is f (punctuate p ls)) (lex_word x xs o solid) ∙ h (word (x ∷ xs)) (lex in_word xs) (word_is (x ∷ xs))

-- none of these begins a value
record StartsNothing (x : ℕ) : Type 0 where
  pub quote : x ≡ 34 → ⊥
  pub brace : x ≡ 123 → ⊥
  pub bracket : x ≡ 91 → ⊥
  pub t : x ≡ 116 → ⊥
  pub f : x ≡ 102 → ⊥
  pub n : x ≡ 110 → ⊥
  pub minus : x ≡ 45 → ⊥
  pub zero : x ≡ 48 → ⊥
  pub digit : is_ascii_digit x ≡ false
  pub solid : is_space x ≡ false

no_word : (x : ℕ) (xs : List ℕ) → StartsNothing x → word (x ∷ xs) ≡ token.bad
unfolding word after_number
no_word x xs s = rw (ne_eqb x 116 s.t, ne_eqb x 102 s.f, ne_eqb x 110 s.n, ne_eqb x 45 s.minus, ne_eqb x 48 s.zero, no_digits x xs s.digit) refl

bad_at : (after : After) (ls : List Lexeme) → first_is starts_item (punctuate (place_of after) (lexer.token token.bad ∷ ls)) ≡ false
unfolding punctuate
bad_at OpeningBracket ls = refl
bad_at Comma ls = refl
bad_at Other ls = refl

nothing_starts : (after : After) (x : ℕ) → StartsNothing x → (x ≡ 93 → ⊥) → Reads (place_of after) starts_item x
unfolding lex punctuate
nothing_starts after =
    by_byte (λ x. StartsNothing x → (x ≡ 93 → ⊥) → Reads (place_of after) starts_item x) (λ s c. absurd (s.quote refl)) (λ s c xs. bad_at after (lex in_word xs)) (λ s c. absurd (s.brace refl)) (λ s c xs. closing after xs)
    (λ s c. absurd (s.bracket refl)) (λ s c. absurd (c refl)) (λ s c xs. colon_at after xs) (λ s c xs. comma_at after xs)
    (λ x o s c xs. ap (λ (ls : List Lexeme). first_is starts_item (punctuate (place_of after) ls)) (lex_word x xs o s.solid ∙ ap (λ (t : Token). lexer.token t ∷ lex in_word xs) (no_word x xs s)) ∙ bad_at after (lex in_word xs))
  where
    closing : (after : After) (xs : List ℕ) → first_is starts_item (punctuate (place_of after) (lex between (125 ∷ xs))) ≡ false
    closing OpeningBracket xs = refl
    closing Comma xs = refl
    closing Other xs = refl

    colon_at : (after : After) (xs : List ℕ) → first_is starts_item (punctuate (place_of after) (lex between (58 ∷ xs))) ≡ false
    colon_at OpeningBracket xs = refl
    colon_at Comma xs = refl
    colon_at Other xs = refl

    comma_at : (after : After) (xs : List ℕ) → first_is starts_item (punctuate (place_of after) (lex between (44 ∷ xs))) ≡ false
    comma_at OpeningBracket xs = refl
    comma_at Comma xs = refl
    comma_at Other xs = refl

no_item : (ts : List Token) → first_is starts_item ts ≡ false → (first_is starts_value ts ≡ false) × (first_is ends_array ts ≡ false)
no_item [] h = (refl, refl)
no_item (token.begin_object ∷ ts) h = absurd (true≢false h)
no_item (token.end_object ∷ ts) h = (refl, refl)
no_item (token.begin_array ∷ ts) h = absurd (true≢false h)
no_item (token.end_array ∷ ts) h = absurd (true≢false h)
no_item (token.key s ∷ ts) h = (refl, refl)
no_item (token.string s ∷ ts) h = absurd (true≢false h)
no_item (token.number s ∷ ts) h = absurd (true≢false h)
no_item (token.boolean b ∷ ts) h = absurd (true≢false h)
no_item (token.null ∷ ts) h = absurd (true≢false h)
no_item (token.bad ∷ ts) h = (refl, refl)

no_digit : (x : ℕ) → (x < 48) ⊎ (58 ≤ x) → is_ascii_digit x ≡ false
no_digit x (inl p) = and_left (leb 48 x) (leb x 57) (lt-leb 48 x p)
no_digit x (inr p) = and_right (leb 48 x) (leb x 57) (lt-leb x 57 (omega (arith, p)))

pub no_value : (after : After) (bs : List Bracket) (c : ℕ) → (c ≡ 34 → ⊥) → (c ≡ 123 → ⊥) → (c ≡ 91 → ⊥) → (c ≡ 93 → ⊥) → (c ≡ 116 → ⊥) → (c ≡ 102 → ⊥) → (c ≡ 110 → ⊥) → (c ≡ 45 → ⊥) → (c ≡ 48 → ⊥)
    → (c < 48) ⊎ (58 ≤ c) → is_space c ≡ false → Ends (places.Value after) bs c
no_value after bs c quote brace bracket closing t f n minus zero digit solid xs h =
    let s : StartsNothing c = record { quote = quote; brace = brace; bracket = bracket; t = t; f = f; n = n; minus = minus; zero = zero; digit = no_digit c digit; solid = solid } in
    let (no_start, no_end) = no_item (punctuate (place_of after) (lex between (c ∷ xs))) (nothing_starts after c s closing xs) in
    true≢false (sym (value_starts bs _ (as_value after bs (c ∷ xs) no_end h)) ∙ no_start)

-- ---- after a value

after_reads : (f : Token → Bool) → f token.bad ≡ false → (t : Token) (ls : List Lexeme) → is_word_or_bad t ≡ true → first_is f (punctuate after_value (lexer.token t ∷ ls)) ≡ false
unfolding punctuate
after_reads f e (token.number s) ls w = e
after_reads f e (token.boolean b) ls w = e
after_reads f e token.null ls w = e
after_reads f e token.bad ls w = e
after_reads f e token.begin_object ls w = absurd (false≢true w)
after_reads f e token.end_object ls w = absurd (false≢true w)
after_reads f e token.begin_array ls w = absurd (false≢true w)
after_reads f e token.end_array ls w = absurd (false≢true w)
after_reads f e (token.key s) ls w = absurd (false≢true w)
after_reads f e (token.string s) ls w = absurd (false≢true w)

string_reads : (f : Token → Bool) → f token.bad ≡ false → (o : Option (List ℕ)) (b : Bool) (k : Place → List Token) → first_is f (place_token after_value (string_token o) b k) ≡ false
string_reads f e None b k = e
string_reads f e (Some s) true k = e
string_reads f e (Some s) false k = e

after_other : (f : Token → Bool) → f token.bad ≡ false → (x : ℕ) → is_space x ≡ false → (x ≡ 44 → ⊥) → (x ≡ 93 → f token.end_array ≡ true → ⊥) → (x ≡ 125 → f token.end_object ≡ true → ⊥) → Reads after_value f x
unfolding lex punctuate
after_other f e =
    by_byte (λ x. is_space x ≡ false → (x ≡ 44 → ⊥) → (x ≡ 93 → f token.end_array ≡ true → ⊥) → (x ≡ 125 → f token.end_object ≡ true → ⊥) → Reads after_value f x)
    (λ s m a o xs. string_reads f e (content plain xs) _ _) (λ s m a o xs. e) (λ s m a o xs. e) (λ s m a o xs. decided (f token.end_object) (o refl)) (λ s m a o xs. e) (λ s m a o xs. decided (f token.end_array) (a refl)) (λ s m a o xs. e) (λ s m a o. absurd (m refl))
    (λ x other s m a o. word_reads after_value f x other s (after_reads f e))
  where
    decided : (b : Bool) → (b ≡ true → ⊥) → b ≡ false
    decided true h = absurd (h refl)
    decided false h = refl

module _ (old bs : List Bracket) (b : Bracket) (c : ℕ) (is : old ≡ b ∷ bs) where
  pub comma_in_array : b ≡ Array → c ≡ 44 → Leads places.Next old c (places.Value Comma) old
  unfolding lex punctuate
  comma_in_array a e = at_byte places.Next old c 44 (places.Value Comma) old e (λ xs h. (bs, is ∙ ap (λ (x : Bracket). x ∷ bs) a, h))

  pub comma_in_object : b ≡ Object → c ≡ 44 → Leads places.Next old c (places.Key Comma) old
  unfolding lex punctuate
  comma_in_object a e = at_byte places.Next old c 44 (places.Key Comma) old e (λ xs h. (bs, is ∙ ap (λ (x : Bracket). x ∷ bs) a, h))

  module _ (to : at.Place) (new : List Bracket) (next_is : to ≡ places.Next) (left : new ≡ drop 1 old) where
    pub end_of_array : b ≡ Array → c ≡ 93 → Leads places.Next old c to new
    unfolding lex punctuate
    end_of_array a e =
        at_byte places.Next old c 93 to new e
        (λ xs h. closed_as bs bs old new b to xs is next_is left (array_closes bs _ (subst (λ l. Closes l (punctuate after_value (lex between (93 ∷ xs)))) (is ∙ ap (λ (x : Bracket). x ∷ bs) a) h)))

    pub end_of_object : b ≡ Object → c ≡ 125 → Leads places.Next old c to new
    unfolding lex punctuate
    end_of_object a e =
        at_byte places.Next old c 125 to new e
        (λ xs h. closed_as bs bs old new b to xs is next_is left (object_closes bs _ (subst (λ l. Closes l (punctuate after_value (lex between (125 ∷ xs)))) (is ∙ ap (λ (x : Bracket). x ∷ bs) a) h)))

  pub not_in_array : b ≡ Array → (c ≡ 44 → ⊥) → (c ≡ 93 → ⊥) → is_space c ≡ false → Ends places.Next old c
  not_in_array a m n solid xs h =
      true≢false (sym (items_start bs _ (subst (λ l. Closes l (punctuate after_value (lex between (c ∷ xs)))) (is ∙ ap (λ (x : Bracket). x ∷ bs) a) h)) ∙ after_other starts_item refl c solid m (λ e q. n e) (λ e q. false≢true q) xs)

  pub not_in_object : b ≡ Object → (c ≡ 44 → ⊥) → (c ≡ 125 → ⊥) → is_space c ≡ false → Ends places.Next old c
  not_in_object a m n solid xs h =
      true≢false (sym (members_start bs _ (subst (λ l. Closes l (punctuate after_value (lex between (c ∷ xs)))) (is ∙ ap (λ (x : Bracket). x ∷ bs) a) h)) ∙ after_other starts_member refl c solid m (λ e q. false≢true q) (λ e q. n e) xs)

-- the text doesn't end
abbrev is_token : List Token → Bool
is_token [] = false
is_token (t ∷ ts) = true

placed_is : (p : Place) (t : Token) (b : Bool) (k : Place → List Token) → is_token (place_token p t b k) ≡ true
placed_is p t b k = by_token t b
  where
    some : (a : Bool) (u : Token) (next : Place) → is_token (if_allowed a u k next) ≡ true
    some true u next = refl
    some false u next = refl

    by_token : (t : Token) (b : Bool) → is_token (place_token p t b k) ≡ true
    by_token token.begin_object b = some (may_begin p) token.begin_object fresh
    by_token token.end_object b = some (may_close p) token.end_object after_value
    by_token token.begin_array b = some (may_begin p) token.begin_array fresh
    by_token token.end_array b = some (may_close p) token.end_array after_value
    by_token (token.key s) b = refl
    by_token (token.string s) true = some (may_begin p) (token.key s) after_key
    by_token (token.string s) false = some (may_begin p) (token.string s) after_value
    by_token (token.number s) b = some (may_begin p) (token.number s) after_value
    by_token (token.boolean x) b = some (may_begin p) (token.boolean x) after_value
    by_token token.null b = some (may_begin p) token.null after_value
    by_token token.bad b = refl

after_comma_is : (ls : List Lexeme) → is_token (punctuate after_comma ls) ≡ true
unfolding punctuate
after_comma_is [] = refl
after_comma_is (lexer.token t ∷ ls) = placed_is after_comma t _ _
after_comma_is (comma ∷ ls) = refl
after_comma_is (colon ∷ ls) = refl

goes_on : (x : ℕ) → is_space x ≡ false → (xs : List ℕ) → is_token (punctuate after_value (lex between (x ∷ xs))) ≡ true
unfolding lex punctuate
goes_on =
    by_byte (λ x. is_space x ≡ false → (xs : List ℕ) → is_token (punctuate after_value (lex between (x ∷ xs))) ≡ true) (λ s xs. placed_is after_value (string_token (content plain xs)) _ _) (λ s xs. refl) (λ s xs. refl) (λ s xs. refl) (λ s xs. refl) (λ s xs. refl) (λ s xs. refl)
    (λ s xs. after_comma_is (lex between xs))
    (λ x o s xs. ap (λ (ls : List Lexeme). is_token (punctuate after_value ls)) (lex_word x xs o s) ∙ placed_is after_value (word (x ∷ xs)) _ _)

pub after_all : (bs : List Bracket) (c : ℕ) → bs ≡ [] → is_space c ≡ false → Ends places.Next bs c
after_all bs c e solid xs h =
    let none : punctuate after_value (lex between (c ∷ xs)) ≡ [] = subst (λ l. Closes l (punctuate after_value (lex between (c ∷ xs)))) e h in
    true≢false (sym (goes_on c solid xs) ∙ ap is_token none)

-- ---- keys and colons

pub key_quote : (after : After) (bs : List Bracket) (c : ℕ) (to : at.Place) → c ≡ 34 → to ≡ places.InString true next.Character → Leads (places.Key after) bs c to bs
unfolding lex punctuate
key_quote after bs c to e is = at_byte (places.Key after) bs c 34 to bs e (λ xs h. subst (λ (p : at.Place). Completes p bs xs) (sym is) (by_place after xs h))
  where
    named : (after : After) (outer : List Bracket) (o : Option (List ℕ)) (b : Bool) (k : Place → List Token) → Closes (Object ∷ outer) (place_token (place_of after) (string_token o) b k) → (is_some o ≡ true) × BeginsValue (Object ∷ outer) (k after_key)
    named after outer None b k h = absurd (false≢true (members_start outer _ h))
    named after outer (Some s) true k h = (refl, key_opens outer s (k after_key) (subst (Closes (Object ∷ outer)) (allowed after (token.key s) k after_key) h))
    named after outer (Some s) false k h = absurd (false≢true (members_start outer _ (subst (Closes (Object ∷ outer)) (allowed after (token.string s) k after_value) h)))

    by_place : (after : After) (xs : List ℕ) → Completes (places.Key after) bs (34 ∷ xs) → Completes (places.InString true next.Character) bs xs
    by_place OpeningBracket xs (outer, same, h) =
        subst (λ (l : List Bracket). Completes (places.InString true next.Character) l xs) (sym same)
        (named OpeningBracket outer (content plain xs) _ (λ n. punctuate n (lex in_string xs)) (subst (λ l. Closes l (punctuate fresh (lex between (34 ∷ xs)))) same h))
    by_place Comma xs (outer, same, h) =
        subst (λ (l : List Bracket). Completes (places.InString true next.Character) l xs) (sym same)
        (named Comma outer (content plain xs) _ (λ n. punctuate n (lex in_string xs)) (subst (λ l. Closes l (punctuate after_comma (lex between (34 ∷ xs)))) same h))
    by_place Other xs h = absurd h

pub object_ends : (after : After) (bs : List Bracket) (c : ℕ) (to : at.Place) (new : List Bracket) → after ≡ OpeningBracket → c ≡ 125 → to ≡ places.Next → new ≡ drop 1 bs → Leads (places.Key after) bs c to new
unfolding lex punctuate
object_ends after bs c to new a e is f = subst (λ (x : After). Leads (places.Key x) bs c to new) (sym a) (at_byte (places.Key OpeningBracket) bs c 125 to new e ends)
  where
    ends : Leads (places.Key OpeningBracket) bs 125 to new
    ends xs (outer, same, h) = closed_as bs outer bs new Object to xs same is f (object_closes outer _ (subst (λ b. Closes b (punctuate fresh (lex between (125 ∷ xs)))) same h))

pub no_object : (after : After) (bs : List Bracket) (c : ℕ) → (after ≡ Comma) ⊎ (after ≡ Other) → c ≡ 125 → Ends (places.Key after) bs c
unfolding lex punctuate
no_object after bs c (inl a) e = subst (λ (x : After). Ends (places.Key x) bs c) (sym a) (subst (λ x. Ends (places.Key Comma) bs x) (sym e) ends)
  where
    ends : Ends (places.Key Comma) bs 125
    ends xs (outer, same, h) = false≢true (members_start outer _ (subst (λ b. Closes b (punctuate after_comma (lex between (125 ∷ xs)))) same h))
no_object after bs c (inr a) e = subst (λ (x : After). Ends (places.Key x) bs c) (sym a) (λ xs h. h)

key_words : (after : After) (t : Token) (ls : List Lexeme) → is_word_or_bad t ≡ true → first_is starts_member (punctuate (place_of after) (lexer.token t ∷ ls)) ≡ false
key_words after t ls w = ap (first_is starts_member) (token_at after t ls) ∙ placed after t _ _ w
  where
    placed : (after : After) (t : Token) (b : Bool) (k : Place → List Token) → is_word_or_bad t ≡ true → first_is starts_member (place_token (place_of after) t b k) ≡ false
    placed after (token.number s) b k w = ap (first_is starts_member) (allowed after (token.number s) k after_value)
    placed after (token.boolean x) b k w = ap (first_is starts_member) (allowed after (token.boolean x) k after_value)
    placed after token.null b k w = ap (first_is starts_member) (allowed after token.null k after_value)
    placed after token.bad b k w = refl
    placed after token.begin_object b k w = absurd (false≢true w)
    placed after token.end_object b k w = absurd (false≢true w)
    placed after token.begin_array b k w = absurd (false≢true w)
    placed after token.end_array b k w = absurd (false≢true w)
    placed after (token.key s) b k w = absurd (false≢true w)
    placed after (token.string s) b k w = absurd (false≢true w)

key_reads : (after : After) (x : ℕ) → (x ≡ 34 → ⊥) → (x ≡ 125 → ⊥) → is_space x ≡ false → Reads (place_of after) starts_member x
unfolding lex punctuate
key_reads after =
    by_byte (λ x. (x ≡ 34 → ⊥) → (x ≡ 125 → ⊥) → is_space x ≡ false → Reads (place_of after) starts_member x) (λ q o s. absurd (q refl)) (λ q o s xs. backslash after xs) (λ q o s xs. brace after xs) (λ q o s. absurd (o refl)) (λ q o s xs. bracket after xs)
    (λ q o s xs. end_bracket after xs) (λ q o s xs. colon_at after xs) (λ q o s xs. comma_at after xs)
    (λ x other q o s. word_reads (place_of after) starts_member x other s (key_words after))
  where
    backslash : (after : After) (xs : List ℕ) → first_is starts_member (punctuate (place_of after) (lex between (92 ∷ xs))) ≡ false
    backslash OpeningBracket xs = refl
    backslash Comma xs = refl
    backslash Other xs = refl

    brace : (after : After) (xs : List ℕ) → first_is starts_member (punctuate (place_of after) (lex between (123 ∷ xs))) ≡ false
    brace OpeningBracket xs = refl
    brace Comma xs = refl
    brace Other xs = refl

    bracket : (after : After) (xs : List ℕ) → first_is starts_member (punctuate (place_of after) (lex between (91 ∷ xs))) ≡ false
    bracket OpeningBracket xs = refl
    bracket Comma xs = refl
    bracket Other xs = refl

    end_bracket : (after : After) (xs : List ℕ) → first_is starts_member (punctuate (place_of after) (lex between (93 ∷ xs))) ≡ false
    end_bracket OpeningBracket xs = refl
    end_bracket Comma xs = refl
    end_bracket Other xs = refl

    colon_at : (after : After) (xs : List ℕ) → first_is starts_member (punctuate (place_of after) (lex between (58 ∷ xs))) ≡ false
    colon_at OpeningBracket xs = refl
    colon_at Comma xs = refl
    colon_at Other xs = refl

    comma_at : (after : After) (xs : List ℕ) → first_is starts_member (punctuate (place_of after) (lex between (44 ∷ xs))) ≡ false
    comma_at OpeningBracket xs = refl
    comma_at Comma xs = refl
    comma_at Other xs = refl

pub no_key : (after : After) (bs : List Bracket) (c : ℕ) → (c ≡ 34 → ⊥) → (c ≡ 125 → ⊥) → is_space c ≡ false → Ends (places.Key after) bs c
no_key OpeningBracket bs c q o s xs (outer, same, h) = true≢false (sym (members_start outer _ (subst (λ b. Closes b (punctuate fresh (lex between (c ∷ xs)))) same h)) ∙ key_reads OpeningBracket c q o s xs)
no_key Comma bs c q o s xs (outer, same, h) = true≢false (sym (members_start outer _ (subst (λ b. Closes b (punctuate after_comma (lex between (c ∷ xs)))) same h)) ∙ key_reads Comma c q o s xs)
no_key Other bs c q o s xs h = h

pub colon_leads : (p : at.Place) (bs : List Bracket) (c : ℕ) → p ≡ places.Colon → c ≡ 58 → Leads p bs c (places.Value Other) bs
unfolding lex punctuate
colon_leads p bs c a e = subst (λ (x : at.Place). Leads x bs c (places.Value Other) bs) (sym a) (at_byte places.Colon bs c 58 (places.Value Other) bs e (λ xs h. h))

no_colon : (x : ℕ) → (x ≡ 58 → ⊥) → is_space x ≡ false → Reads after_key starts_value x
unfolding lex punctuate
no_colon =
    by_byte (λ x. (x ≡ 58 → ⊥) → is_space x ≡ false → Reads after_key starts_value x) (λ c s xs. placed (string_token (content plain xs)) _ _) (λ c s xs. refl) (λ c s xs. refl) (λ c s xs. refl) (λ c s xs. refl) (λ c s xs. refl) (λ c s. absurd (c refl)) (λ c s xs. refl)
    (λ x other c s. word_reads after_key starts_value x other s (λ t ls w. placed t _ _))
  where
    placed : (t : Token) (b : Bool) (k : Place → List Token) → first_is starts_value (place_token after_key t b k) ≡ false
    placed token.begin_object b k = refl
    placed token.end_object b k = refl
    placed token.begin_array b k = refl
    placed token.end_array b k = refl
    placed (token.key s) b k = refl
    placed (token.string s) true k = refl
    placed (token.string s) false k = refl
    placed (token.number s) b k = refl
    placed (token.boolean x) b k = refl
    placed token.null b k = refl
    placed token.bad b k = refl

pub missing_colon : (p : at.Place) (bs : List Bracket) (c : ℕ) → p ≡ places.Colon → (c ≡ 58 → ⊥) → is_space c ≡ false → Ends p bs c
missing_colon p bs c a e s = subst (λ (x : at.Place). Ends x bs c) (sym a) (λ xs h. true≢false (sym (value_starts bs _ h) ∙ no_colon c e s xs))

-- ---- white space, and the end of a word

pub stays : (p : at.Place) (bs : List Bracket) (c : ℕ) → is_space c ≡ true → (p ≡ places.EndOfWord → ⊥) → ((l : Bor (List ℕ)) → p ≡ places.Word l → ⊥) → ((n : Number) → p ≡ places.Number n → ⊥) → ((k : Bool) (n : Next) → p ≡ places.InString k n → ⊥) → Leads p bs c p bs
stays (places.Value OpeningBracket) bs c s a b d f xs (outer, same, h) = (outer, same, subst (λ (ls : List Lexeme). Closes bs (punctuate fresh ls)) (space_between xs c s) h)
stays (places.Value Comma) bs c s a b d f xs (outer, same, h) = (outer, same, subst (λ (ls : List Lexeme). Closes bs (punctuate after_comma ls)) (space_between xs c s) h)
stays (places.Value Other) bs c s a b d f xs h = subst (λ (ls : List Lexeme). BeginsValue bs (punctuate fresh ls)) (space_between xs c s) h
stays (places.Key OpeningBracket) bs c s a b d f xs (outer, same, h) = (outer, same, subst (λ (ls : List Lexeme). Closes bs (punctuate fresh ls)) (space_between xs c s) h)
stays (places.Key Comma) bs c s a b d f xs (outer, same, h) = (outer, same, subst (λ (ls : List Lexeme). Closes bs (punctuate after_comma ls)) (space_between xs c s) h)
stays (places.Key Other) bs c s a b d f xs h = h
stays places.Colon bs c s a b d f xs h = subst (λ (ls : List Lexeme). BeginsValue bs (punctuate after_key ls)) (space_between xs c s) h
stays places.Next bs c s a b d f xs h = subst (λ (ls : List Lexeme). Closes bs (punctuate after_value ls)) (space_between xs c s) h
stays places.EndOfWord bs c s a b d f xs h = absurd (a refl)
stays (places.Word l) bs c s a b d f xs h = absurd (b l refl)
stays (places.Number n) bs c s a b d f xs h = absurd (d n refl)
stays (places.InString k n) bs c s a b d f xs h = absurd (f k n refl)
stays places.TooDeep bs c s a b d f xs h = tt

pub space_ends : (bs : List Bracket) (c : ℕ) → is_space c ≡ true → Leads places.EndOfWord bs c places.Next bs
space_ends bs c s xs (ends, h) = subst (λ (ls : List Lexeme). Closes bs (punctuate after_value ls)) (space_in_word xs c s) h

ended : (a b : Bool) → (a || b) ≡ true → b ≡ false → a ≡ true
ended true b h e = refl
ended false b h e = absurd (true≢false (sym h ∙ e))

to_next : (bs : List Bracket) (c : ℕ) → is_space c ≡ false → (xs : List ℕ) → EndsWord bs (c ∷ xs) → Completes places.Next bs (c ∷ xs)
to_next bs c s xs (ends, h) = subst (λ (ls : List Lexeme). Closes bs (punctuate after_value ls)) (operator_in_word xs c (ended (is_operator c) (is_space c) ends s)) h

pub word_then : (r : Result at.Place SyntaxError) (bs new : List Bracket) (c : ℕ) → is_space c ≡ false → MatchResult r (λ p. Leads places.Next bs c p new) (λ e. Ends places.Next bs c)
    → MatchResult r (λ p. Leads places.EndOfWord bs c p new) (λ e. Ends places.EndOfWord bs c)
word_then (Ok p) bs new c s h = λ xs k. h xs (to_next bs c s xs k)
word_then (Err e) bs new c s h = λ xs k. h xs (to_next bs c s xs k)

-- ---- within a word, a number or a string

pub in_letters : (p : at.Place) (l : Bor (List ℕ)) (r : Result at.Place SyntaxError) (bs : List Bracket) (c : ℕ) → p ≡ places.Word l
    → MatchResult r (λ q. (b : List Bracket) → Leads (places.Word l) b c q b) (λ e. (b : List Bracket) → Ends (places.Word l) b c) → MatchResult r (λ q. Leads p bs c q bs) (λ e. Ends p bs c)
in_letters p l (Ok q) bs c is h = subst (λ (x : at.Place). Leads x bs c q bs) (sym is) (h bs)
in_letters p l (Err e) bs c is h = subst (λ (x : at.Place). Ends x bs c) (sym is) (h bs)

pub in_number : (p : at.Place) (n m : Number) (bs : List Bracket) (c : ℕ) → p ≡ places.Number n → PartLeads n c (Some m) → Leads p bs c (places.Number m) bs
in_number p n m bs c is (of, same) = subst (λ (x : at.Place). Leads x bs c (places.Number m) bs) (sym is)
    (λ xs h. (ap word_ends (sym (same xs)) ∙ h.0, subst (λ (ls : List Lexeme). Closes bs (punctuate after_value ls)) (over_word xs c of) h.1))

pub after_number_part : (p : at.Place) (n : Number) (r : Result at.Place SyntaxError) (bs new : List Bracket) (c : ℕ) → p ≡ places.Number n → PartLeads n c None
    → MatchResult r (λ q. Leads places.EndOfWord bs c q new) (λ e. Ends places.EndOfWord bs c) → MatchResult r (λ q. Leads p bs c q new) (λ e. Ends p bs c)
after_number_part p n (Ok q) bs new c is same h = subst (λ (x : at.Place). Leads x bs c q new) (sym is) (λ xs k. h xs (ap word_ends (sym (same xs)) ∙ k.0, k.1))
after_number_part p n (Err e) bs new c is same h = subst (λ (x : at.Place). Ends x bs c) (sym is) (λ xs k. h xs (ap word_ends (sym (same xs)) ∙ k.0, k.1))

text_mode : (n : Next) (c : ℕ) (xs : List ℕ) → lex (mode_of n) (c ∷ xs) ≡ lex (mode_after (mode_of n) c) xs
unfolding lex
text_mode n c xs = by_mode n
  where
    in_text : (c : ℕ) → lex in_string (c ∷ xs) ≡ lex (mode_after in_string c) xs
    in_text = by_byte (λ x. lex in_string (x ∷ xs) ≡ lex (mode_after in_string x) xs) refl refl refl refl refl refl refl refl (λ x o. rw (o.no_quote, o.no_backslash, o.no_operator) (either x (is_space x)))
      where
        either : (x : ℕ) (s : Bool) → lex_byte in_string (cond s lexer.space lexer.other) x xs (λ m. lex m xs) ≡ lex in_string xs
        either x true = refl
        either x false = refl

    in_backslash : (c : ℕ) → lex in_escape (c ∷ xs) ≡ lex in_string xs
    in_backslash c = refl

    by_mode : (n : Next) → lex (mode_of n) (c ∷ xs) ≡ lex (mode_after (mode_of n) c) xs
    by_mode next.Character = in_text c
    by_mode next.Escape = in_backslash c
    by_mode (next.FirstDigit s) = in_text c
    by_mode (next.SecondDigit s d) = in_text c
    by_mode (next.ThirdDigit f) = in_text c
    by_mode (next.FourthDigit f) = in_text c
    by_mode next.BackslashOfSecondHalf = in_text c
    by_mode next.UOfSecondHalf = in_backslash c

pub in_text : (p : at.Place) (k : Bool) (n m : Next) (bs : List Bracket) (c : ℕ) → p ≡ places.InString k n → TextLeads n c (Some m) → Leads p bs c (places.InString k m) bs
in_text p k n m bs c is (mode, goes) = subst (λ (x : at.Place). Leads x bs c (places.InString k m) bs) (sym is)
    (λ xs h. (goes xs h.0, subst (λ (ls : List Lexeme). AfterText k bs ls) (text_mode n c xs ∙ ap (λ (y : Mode). lex y xs) mode) h.1))

pub after_text : (p : at.Place) (k : Bool) (n : Next) (bs : List Bracket) (c : ℕ) → p ≡ places.InString k n → TextLeads n c None → (xs : List ℕ) → Completes p bs (c ∷ xs) → AfterText k bs (lex between xs)
after_text p k n bs c is mode xs h =
    let h' : Completes (places.InString k n) bs (c ∷ xs) = subst (λ (x : at.Place). Completes x bs (c ∷ xs)) is h in
    subst (λ (ls : List Lexeme). AfterText k bs ls) (text_mode n c xs ∙ ap (λ (y : Mode). lex y xs) mode) h'.1

-- ---- the scan

whole : (o : Option (Json × List Token)) (j : Json) → option_and_then (λ p. if_last p.0 p.1) o ≡ Some j → (i : Json) × (o ≡ Some (i, []))
whole None j e = absurd (cc)
whole (Some (i, [])) j e = (i, refl)
whole (Some (i, t ∷ ts)) j e = absurd (cc)

pub scanned_none : (t : List ℕ) (bs : List Bracket) → bs ≡ [] → IsScannedTo t 0 (places.Value Other) bs
scanned_none t bs none rest levels j e =
    let (i, read) = whole (value levels (tokens rest)) j e in
    (i, [], value-json_tokens_back levels (tokens rest) [] i read, subst (λ (l : List Bracket). Closes l []) (sym none) refl)

next_taken : (t : List ℕ) (at : ℕ) (rest : List ℕ) → at < length t → take (at + 1) t ++ rest ≡ take at t ++ (get_or t at 0 ∷ rest)
next_taken t at rest inside = ap (λ x. x ++ rest) (take_more t at 0 inside) ∙ append_assoc (take at t) (get_or t at 0 ∷ []) rest

module _ (t : List ℕ) (i : ℕ) (p : at.Place) (bs : List Bracket) (c : ℕ) (inside : i < length t) (is : c ≡ get_or t i 0) (so : IsScannedTo t i p bs) where
  through : (rest : List ℕ) (levels : ℕ) (j : Json) → json_within levels (take (i + 1) t ++ rest) ≡ Some j → Completes p bs (c ∷ rest)
  through rest levels j e = so (c ∷ rest) levels j (ap (json_within levels) (sym (next_taken t i rest inside ∙ ap (λ y. take i t ++ (y ∷ rest)) (sym is))) ∙ e)

  pub scanned_more : (to : at.Place) (new : List Bracket) → Leads p bs c to new → IsScannedTo t (i + 1) to new
  scanned_more to new leads rest levels j e = leads rest (through rest levels j e)

  pub scan_stops : Ends p bs c → BeginsNoJson (take (i + 1) t)
  scan_stops ends rest levels = none (json_within levels (take (i + 1) t ++ rest)) refl
    where
      none : (o : Option Json) → json_within levels (take (i + 1) t ++ rest) ≡ o → o ≡ None
      none None e = refl
      none (Some j) e = absurd (ends rest (through rest levels j e))

-- a byte order mark
pub mark_stops : (t : List ℕ) → 0 < length t → 239 ≡ get_or t 0 0 → BeginsNoJson (take 1 t)
mark_stops t inside is =
    scan_stops t 0 (places.Value Other) [] 239 inside is (scanned_none t [] refl)
    (no_value Other [] 239 (λ e. omega (arith, e)) (λ e. omega (arith, e)) (λ e. omega (arith, e)) (λ e. omega (arith, e)) (λ e. omega (arith, e)) (λ e. omega (arith, e)) (λ e. omega (arith, e)) (λ e. omega (arith, e)) (λ e. omega (arith, e)) (inr (omega arith)) refl)
