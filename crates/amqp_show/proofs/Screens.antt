-- `IsShowable`: text that a terminal shows, with such text appended, is such text again.
use Rattle.std.proofs.Common.{◌≡◌, ◌==◌, ◌||◌, ◌&&◌, ℕ, Bool, true, false, cond, IsTrue, List, [], ◌∷◌, ◌++◌, refl, sym, ap, ◌∙◌, subst, append-nil, codes}
use Rattle.std.proofs.lemmas.Bool.{and_parts, and_from}
use Rattle.std.proofs.lemmas.Str.{chars-append, chars-encodes, chars-nil}
use Rattle.std.specs.Char.{IsScalar, encode_utf8}
use Rattle.std.specs.Str.{chars, IsUtf8}
use Rattle.amqp_show.specs.Screens.{prints, begins_with, names_colour, is_showable, IsShowable}

begins_more : (w s t : List ℕ) → begins_with w s ≡ true → begins_with w (s ++ t) ≡ true
begins_more [] s t h = refl
begins_more (c ∷ w) [] t h = cc
begins_more (c ∷ w) (d ∷ s) t h =
    let both = and_parts (c == d) (begins_with w s) h in
    and_from (c == d) (begins_with w (s ++ t)) both.0 (begins_more w s t both.1)

or_more : (p q p' q' : Bool) → (p ≡ true → p' ≡ true) → (q ≡ true → q' ≡ true) → (p || q) ≡ true → (p' || q') ≡ true
or_more true q true q' f g h = refl
or_more true q false q' f g h = absurd (both (f refl))
  where
    both : false ≡ true → ⊥
    both e = cc
or_more false q true q' f g h = refl
or_more false q false q' f g h = g h

colour_more : (s t : List ℕ) → names_colour s ≡ true → names_colour (s ++ t) ≡ true
colour_more s t h =
    or_more _ _ _ _ (begins_more (codes "[36m") s t)
    (or_more _ _ _ _ (begins_more (codes "[33m") s t) (or_more _ _ _ _ (begins_more (codes "[31m") s t) (begins_more (codes "[0m") s t))) h

and_more : (p q p' q' : Bool) → (p ≡ true → p' ≡ true) → (q ≡ true → q' ≡ true) → (p && q) ≡ true → (p' && q') ≡ true
and_more p q p' q' f g h = let both = and_parts p q h in and_from p' q' (f both.0) (g both.1)

-- what is shown after what is shown is shown
showable_more : (colours : Bool) (s t : List ℕ) → is_showable colours s ≡ true → is_showable colours t ≡ true → is_showable colours (s ++ t) ≡ true
showable_more colours [] t h g = g
showable_more colours (c ∷ s) t h g =
    and_more _ _ _ _
    (or_more (prints c) _ (prints c) _ (λ e. e)
    (or_more (c == 10) _ (c == 10) _ (λ e. e) (and_more colours _ colours _ (λ e. e) (and_more (c == 27) _ (c == 27) _ (λ e. e) (colour_more s t)))))
    (λ e. showable_more colours s t e g) h

pub appended : (colours : Bool) (s t : List ℕ) → IsUtf8 s → IsShowable colours s → IsShowable colours t → IsShowable colours (s ++ t)
appended colours s t u h g = ap (is_showable colours) (chars-append s t u) ∙ showable_more colours (chars s) (chars t) h g

-- whether there was memory for it or not
pub kept : (colours ok : Bool) (old more new : List ℕ) → new ≡ cond ok (old ++ more) old → IsUtf8 old → IsShowable colours old → IsShowable colours more → IsShowable colours new
kept colours true old more new e u h g = subst (IsShowable colours) (sym e) (appended colours old more u h g)
kept colours false old more new e u h g = subst (IsShowable colours) (sym e) h

-- nothing is shown
pub nothing : (colours : Bool) (s : List ℕ) → s ≡ [] → IsShowable colours s
nothing colours s e = subst (IsShowable colours) (sym e) (ap (is_showable colours) chars-nil)

-- a character that prints
pub printed : (colours : Bool) (c : ℕ) → IsScalar c → IsTrue (prints c) → IsShowable colours (encode_utf8 c)
printed colours c is h =
    let alone : chars (encode_utf8 c) ≡ c ∷ [] = ap chars (sym (append-nil (encode_utf8 c))) ∙ chars-encodes (c ∷ []) (and_from _ _ is refl) in
    ap (is_showable colours) alone ∙ shown (prints c) _ h
  where
    shown : (p q : Bool) → p ≡ true → ((p || q) && true) ≡ true
    shown true q e = refl
    shown false q e = cc

-- a line end
pub line_end : (colours : Bool) → IsShowable colours (10 ∷ [])
unfolding chars
line_end colours = refl

pub escape_begin : (colours : Bool) → IsShowable colours (92 ∷ 117 ∷ [])
unfolding chars
escape_begin colours = refl

-- colours, if there are any
pub key_colour : (colours : Bool) → colours ≡ true → IsShowable colours (27 ∷ 91 ∷ 51 ∷ 54 ∷ 109 ∷ [])
unfolding chars
key_colour colours e = rw e refl

pub note_colour : (colours : Bool) → colours ≡ true → IsShowable colours (27 ∷ 91 ∷ 51 ∷ 51 ∷ 109 ∷ [])
unfolding chars
note_colour colours e = rw e refl

pub failure_colour : (colours : Bool) → colours ≡ true → IsShowable colours (27 ∷ 91 ∷ 51 ∷ 49 ∷ 109 ∷ [])
unfolding chars
failure_colour colours e = rw e refl

pub colour_end : (colours : Bool) → colours ≡ true → IsShowable colours (27 ∷ 91 ∷ 48 ∷ 109 ∷ [])
unfolding chars
colour_end colours e = rw e refl
