-- `fits`: of the tokens of a value, of tokens after others, and of the tokens of a text by its lexemes.
use Rattle.std.proofs.Common.{◌≡◌, ◌⊎◌, inl, inr, ℕ, zero, suc, ◌-◌, ◌<◌, ◌≤◌, Bool, true, false, List, [], ◌∷◌, ◌++◌, length, Some, None, refl, sym, ap, ◌∙◌, arith, append_assoc, append-nil}
use Rattle.json.specs.Token as token
use Rattle.json.specs.Token.{Token}
use Rattle.json.specs.Json.{Json, null, boolean, number, string, array, object, Items, no_items, item, Members, no_members, member, after_end_array, read_key, value}
use Rattle.json.specs.Tree.{json_tokens, items_tokens, members_tokens, depth, items_depth, members_depth}
use Rattle.amqp_json.specs.Nesting.{opens, fits_after, fits}

-- ---- tokens after others

opens-weaker : (n : ℕ) (f g : ℕ → Bool) → ((m : ℕ) → f m ≡ true → g m ≡ true) → opens n f ≡ true → opens n g ≡ true
opens-weaker zero f g k h = h
opens-weaker (suc n) f g k h = k n h

pub fits_after-weaker : (t : Token) (n : ℕ) (f g : ℕ → Bool) → ((m : ℕ) → f m ≡ true → g m ≡ true) → fits_after t n f ≡ true → fits_after t n g ≡ true
fits_after-weaker token.begin_object n f g k h = opens-weaker n f g k h
fits_after-weaker token.begin_array n f g k h = opens-weaker n f g k h
fits_after-weaker token.end_object n f g k h = k (suc n) h
fits_after-weaker token.end_array n f g k h = k (suc n) h
fits_after-weaker _ n f g k h = k n h

-- the first of them fit if all do
pub fits-front : (n : ℕ) (front rest : List Token) → fits n (front ++ rest) ≡ true → fits n front ≡ true
fits-front n [] rest h = refl
fits-front n (t ∷ front) rest h = fits_after-weaker t n (λ m. fits m (front ++ rest)) (λ m. fits m front) (λ m. fits-front m front rest) h

pub opens-some : (n : ℕ) (f : ℕ → Bool) → 0 < n → opens n f ≡ f (n - 1)
opens-some zero f h = let never : ⊥ = omega (arith, h) in absurd never
opens-some (suc n) f h = let e : n ≡ suc n - 1 = omega arith in ap f e

abbrev first : Token → List Token → Token
first d [] = d
first d (t ∷ ts) = t

abbrev others : List Token → List Token
others [] = []
others (t ∷ ts) = ts

-- tokens that begin with `front` either end in it or go on after it
pub cut : (c s front rest : List Token) → c ++ s ≡ front ++ rest → ((a : List Token) × (front ≡ c ++ a) × (s ≡ a ++ rest)) ⊎ ((a : List Token) × (c ≡ front ++ a))
cut [] s front rest e = inl (front, refl, e)
cut (x ∷ c) s [] rest e = inr (x ∷ c, refl)
cut (x ∷ c) s (y ∷ front) rest e = both (cut c s front rest (ap others e))
  where
    same : x ≡ y
    same = ap (first x) e

    both : ((a : List Token) × (front ≡ c ++ a) × (s ≡ a ++ rest)) ⊎ ((a : List Token) × (c ≡ front ++ a)) → ((a : List Token) × (y ∷ front ≡ (x ∷ c) ++ a) × (s ≡ a ++ rest)) ⊎ ((a : List Token) × (x ∷ c ≡ (y ∷ front) ++ a))
    both (inl (a, f, g)) = inl (a, ap (λ t. t ∷ front) (sym same) ∙ ap (λ l. x ∷ l) f, g)
    both (inr (a, f)) = inr (a, ap (λ t. t ∷ c) same ∙ ap (λ l. y ∷ l) f)

-- these begin with the same token
abbrev pub StartsAs : List Token → List Token → Type 0
StartsAs s us = (t : Token) × (s' : List Token) × (us' : List Token) × (s ≡ t ∷ s') × (us ≡ t ∷ us')

-- tokens that don't fit are some
pub starts : (n : ℕ) (s a rest more : List Token) → s ≡ a ++ rest → fits n a ≡ false → StartsAs s (a ++ more)
starts n s [] rest more e deep = absurd (cc)
starts n s (t ∷ a) rest more e deep = (t, a ++ rest, a ++ more, e, refl)

pub first_is : (t : Token) (s ts us : List Token) → ts ≡ t ∷ s → StartsAs ts us → (us' : List Token) × (us ≡ t ∷ us')
first_is t s ts us split (x, s', us', e, f) = (us', f ∙ ap (λ y. y ∷ us') (ap (first x) (sym e ∙ split)))

-- front of tokens, of which those after c fit as those of another depth do
pub longer : (n m : ℕ) (c s ts front rest : List Token) → ts ≡ c ++ s → ((us : List Token) → fits n (c ++ us) ≡ fits m us) → ts ≡ front ++ rest → fits n front ≡ false
    → (a : List Token) × (front ≡ c ++ a) × (s ≡ a ++ rest) × (fits m a ≡ false)
longer n m c s ts front rest split room e deep = by (cut c s front rest (sym split ∙ e))
  where
    by : ((a : List Token) × (front ≡ c ++ a) × (s ≡ a ++ rest)) ⊎ ((a : List Token) × (c ≡ front ++ a)) → (a : List Token) × (front ≡ c ++ a) × (s ≡ a ++ rest) × (fits m a ≡ false)
    by (inl (a, f, g)) = (a, f, g, sym (room a) ∙ ap (fits n) (sym f) ∙ deep)
    by (inr (a, f)) =
        let all : fits n (front ++ a) ≡ true = ap (fits n) (sym f ∙ sym (append-nil c)) ∙ room [] in
        absurd (cc (fits-front n front a all, deep))

same_end : (t : Token) (s us : List Token) → after_end_array (t ∷ s) ≡ None → after_end_array (t ∷ us) ≡ None
same_end token.end_array s us e = absurd (cc)
same_end token.begin_object s us e = refl
same_end token.end_object s us e = refl
same_end token.begin_array s us e = refl
same_end (token.key k) s us e = refl
same_end (token.string k) s us e = refl
same_end (token.number k) s us e = refl
same_end (token.boolean b) s us e = refl
same_end token.null s us e = refl
same_end token.bad s us e = refl

pub no_end : (s us : List Token) → StartsAs s us → after_end_array s ≡ None → after_end_array us ≡ None
no_end s us (t, s', us', e, f) none = ap after_end_array f ∙ same_end t s' us' (ap after_end_array (sym e) ∙ none)

same_key : (t : Token) (s us : List Token) → read_key (t ∷ s) ≡ None → read_key (t ∷ us) ≡ None
same_key (token.key k) s us e = absurd (cc)
same_key token.end_object s us e = absurd (cc)
same_key token.begin_object s us e = refl
same_key token.begin_array s us e = refl
same_key token.end_array s us e = refl
same_key (token.string k) s us e = refl
same_key (token.number k) s us e = refl
same_key (token.boolean b) s us e = refl
same_key token.null s us e = refl
same_key token.bad s us e = refl

pub no_key : (s us : List Token) → StartsAs s us → read_key s ≡ None → read_key us ≡ None
no_key s us (t, s', us', e, f) none = ap read_key f ∙ same_key t s' us' (ap read_key (sym e) ∙ none)

-- ---- the tokens of a value

mutual
  pub json_fits : (j : Json) (n : ℕ) (us : List Token) → depth j ≤ n → fits n (json_tokens j ++ us) ≡ fits n us
  json_fits null n us h = refl
  json_fits (boolean b) n us h = refl
  json_fits (number s) n us h = refl
  json_fits (string s) n us h = refl
  json_fits (array js) zero us h = let never : ⊥ = omega (arith, h) in absurd never
  json_fits (array js) (suc n) us h = items_fit js n us (omega (arith, h))
  json_fits (object ms) zero us h = let never : ⊥ = omega (arith, h) in absurd never
  json_fits (object ms) (suc n) us h = members_fit ms n us (omega (arith, h))

  items_fit : (js : Items) (n : ℕ) (us : List Token) → items_depth js ≤ n → fits n (items_tokens js ++ us) ≡ fits (suc n) us
  items_fit no_items n us h = refl
  items_fit (item j js) n us h = ap (fits n) (append_assoc (json_tokens j) (items_tokens js) us) ∙ json_fits j n (items_tokens js ++ us) (omega (arith, h)) ∙ items_fit js n us (omega (arith, h))

  members_fit : (ms : Members) (n : ℕ) (us : List Token) → members_depth ms ≤ n → fits n (members_tokens ms ++ us) ≡ fits (suc n) us
  members_fit no_members n us h = refl
  members_fit (member k j ms) n us h = ap (fits n) (append_assoc (json_tokens j) (members_tokens ms) us) ∙ json_fits j n (members_tokens ms ++ us) (omega (arith, h)) ∙ members_fit ms n us (omega (arith, h))

-- no value begins with a closing bracket
pub not_end : (j : Json) (us : List Token) → after_end_array (json_tokens j ++ us) ≡ None
not_end null us = refl
not_end (boolean b) us = refl
not_end (number s) us = refl
not_end (string s) us = refl
not_end (array js) us = refl
not_end (object ms) us = refl

pub some_token : (j : Json) → 0 < length (json_tokens j)
some_token null = omega arith
some_token (boolean b) = omega arith
some_token (number s) = omega arith
some_token (string s) = omega arith
some_token (array js) = omega arith
some_token (object ms) = omega arith

-- a token that is a value by itself opens nothing
pub alone_fits : (t : Token) (j : Json) (n : ℕ) (f : ℕ → Bool) → value 0 (t ∷ []) ≡ Some (j, []) → fits_after t n f ≡ f n
unfolding value
alone_fits token.begin_object j n f e = absurd (cc)
alone_fits token.end_object j n f e = absurd (cc)
alone_fits token.begin_array j n f e = absurd (cc)
alone_fits token.end_array j n f e = absurd (cc)
alone_fits (token.key k) j n f e = refl
alone_fits (token.string k) j n f e = refl
alone_fits (token.number k) j n f e = refl
alone_fits (token.boolean b) j n f e = refl
alone_fits token.null j n f e = refl
alone_fits token.bad j n f e = refl
