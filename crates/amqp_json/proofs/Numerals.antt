-- The bytes of a number, one by one.
use Rattle.std.proofs.Common.{◌≡◌, ℕ, suc, ◌+◌, ◌<◌, ◌≤◌, Bool, true, false, cond, ◌==◌, ◌||◌, List, ◌∷◌, drop, Some, None, option_and_then, refl, sym, ap, ◌∙◌, subst, arith}
use Rattle.std.specs.Prelude.{◌&&◌}
use Rattle.std.specs.List.{prefix_len}
use Rattle.std.specs.Char.{is_ascii_digit}
use Rattle.std.proofs.lemmas.Bool.{agree_below_at, ne_eqb, leb-true, le-leb, and_parts, and_from}
use Rattle.json.specs.Word.{is_operator, is_space, after_digits, after_sign, after_whole, after_fraction, after_exponent}
use Rattle.amqp_json.specs.declared.reading.syntax.Number.{Number}
use Rattle.amqp_json.specs.declared.reading.syntax.Number.TheVariants as part
use Rattle.amqp_json.specs.reading.Continuations.{no_more, PartLeads}

one_more : (n c : ℕ) (xs : List ℕ) → drop (1 + n) (c ∷ xs) ≡ drop n xs
one_more n c xs = let e : 1 + n ≡ suc n = omega arith in ap (λ i. drop i (c ∷ xs)) e

counted : (b : Bool) (n c : ℕ) (xs : List ℕ) → b ≡ true → drop (cond b (1 + n) 0) (c ∷ xs) ≡ drop n xs
counted true n c xs h = one_more n c xs
counted false n c xs h = absurd (cc (h))

pub more_digits : (c : ℕ) (xs : List ℕ) → is_ascii_digit c ≡ true → no_more (c ∷ xs) ≡ no_more xs
more_digits c xs h = counted (is_ascii_digit c) (prefix_len is_ascii_digit xs) c xs h

some_counted : (b : Bool) (n c : ℕ) (xs : List ℕ) → b ≡ true → cond (cond b (1 + n) 0 == 0) None (Some (drop (cond b (1 + n) 0) (c ∷ xs))) ≡ Some (drop n xs)
some_counted true n c xs h = ap (λ b. cond b None (Some (drop (1 + n) (c ∷ xs)))) (ne_eqb (1 + n) 0 (λ e. absurd (omega (arith, e)))) ∙ ap Some (one_more n c xs)
some_counted false n c xs h = absurd (cc (h))

pub some_digits : (c : ℕ) (xs : List ℕ) → is_ascii_digit c ≡ true → after_digits (c ∷ xs) ≡ Some (no_more xs)
some_digits c xs h = some_counted (is_ascii_digit c) (prefix_len is_ascii_digit xs) c xs h

-- no digit
pub none_counted : (b : Bool) (n : ℕ) (t : List ℕ) → b ≡ false → cond (cond b (1 + n) 0 == 0) None (Some (drop (cond b (1 + n) 0) t)) ≡ None
none_counted true n t h = absurd (cc (h))
none_counted false n t h = refl

pub no_digits : (c : ℕ) (xs : List ℕ) → is_ascii_digit c ≡ false → after_digits (c ∷ xs) ≡ None
no_digits c xs h = none_counted (is_ascii_digit c) (prefix_len is_ascii_digit xs) (c ∷ xs) h

pub a_digit : (c : ℕ) → 48 ≤ c → c ≤ 57 → is_ascii_digit c ≡ true
a_digit c low high = and_from _ _ (le-leb 48 c low) (le-leb c 57 high)

pub not_equal : (c d : ℕ) → is_ascii_digit c ≡ true → is_ascii_digit d ≡ false → (c == d) ≡ false
not_equal c d h other = ne_eqb c d (λ e. cc (h, other, e))

small : (c : ℕ) → is_ascii_digit c ≡ true → c < 256
small c h = omega (arith, leb-true c 57 (and_parts _ _ h).1)

in_number : (x y : Bool) → x ≡ true → (x && y) ≡ false → y ≡ false
in_number true y h e = e
in_number false y h e = absurd (cc (h))

pub of_word : (c : ℕ) → is_ascii_digit c ≡ true → (is_operator c || is_space c) ≡ false
of_word c h = in_number (is_ascii_digit c) (is_operator c || is_space c) h (agree_below_at (λ x. is_ascii_digit x && (is_operator x || is_space x)) (λ x. false) 256 c refl (small c h))

pub whole_digits : (c : ℕ) (xs : List ℕ) → is_ascii_digit c ≡ true → (c == 48) ≡ false → after_whole (c ∷ xs) ≡ Some (no_more xs)
whole_digits c xs h other = ap (λ b. cond b (Some xs) (after_digits (c ∷ xs))) other ∙ some_digits c xs h

module _ (c : ℕ) (h : is_ascii_digit c ≡ true) where
  pub minus_leads : (c == 48) ≡ false → PartLeads part.Minus c (Some part.Integer)
  minus_leads other = (of_word c h, λ xs. ap (λ o. option_and_then after_exponent (option_and_then after_fraction o)) (whole_digits c xs h other))

  pub integer_leads : PartLeads part.Integer c (Some part.Integer)
  integer_leads = (of_word c h, λ xs. ap (λ t. option_and_then after_exponent (after_fraction t)) (more_digits c xs h))

  pub point_leads : PartLeads part.Point c (Some part.Fraction)
  point_leads = (of_word c h, λ xs. ap (option_and_then after_exponent) (some_digits c xs h))

  pub fraction_leads : PartLeads part.Fraction c (Some part.Fraction)
  fraction_leads = (of_word c h, λ xs. ap after_exponent (more_digits c xs h))

  no_sign : (xs : List ℕ) → after_sign (c ∷ xs) ≡ c ∷ xs
  no_sign xs = rw (not_equal c 45 h refl, not_equal c 43 h refl) refl

  pub e_leads : PartLeads part.E c (Some part.Exponent)
  e_leads = (of_word c h, λ xs. ap after_digits (no_sign xs) ∙ some_digits c xs h)

  pub sign_leads : PartLeads part.Sign c (Some part.Exponent)
  sign_leads = (of_word c h, λ xs. some_digits c xs h)

  pub exponent_leads : PartLeads part.Exponent c (Some part.Exponent)
  exponent_leads = (of_word c h, λ xs. ap Some (more_digits c xs h))

-- a digit goes on with the number
module _ (n : Number) (c : ℕ) (low : 48 ≤ c) (high : c ≤ 57) where
  pub minus_digit : n ≡ part.Minus → (c ≡ 48 → ⊥) → PartLeads n c (Some part.Integer)
  minus_digit e other = subst (λ (x : Number). PartLeads x c (Some part.Integer)) (sym e) (minus_leads c (a_digit c low high) (ne_eqb c 48 other))

  pub integer_digit : n ≡ part.Integer → PartLeads n c (Some part.Integer)
  integer_digit e = subst (λ (x : Number). PartLeads x c (Some part.Integer)) (sym e) (integer_leads c (a_digit c low high))

  pub point_digit : n ≡ part.Point → PartLeads n c (Some part.Fraction)
  point_digit e = subst (λ (x : Number). PartLeads x c (Some part.Fraction)) (sym e) (point_leads c (a_digit c low high))

  pub fraction_digit : n ≡ part.Fraction → PartLeads n c (Some part.Fraction)
  fraction_digit e = subst (λ (x : Number). PartLeads x c (Some part.Fraction)) (sym e) (fraction_leads c (a_digit c low high))

  pub e_digit : n ≡ part.E → PartLeads n c (Some part.Exponent)
  e_digit e = subst (λ (x : Number). PartLeads x c (Some part.Exponent)) (sym e) (e_leads c (a_digit c low high))

  pub sign_digit : n ≡ part.Sign → PartLeads n c (Some part.Exponent)
  sign_digit e = subst (λ (x : Number). PartLeads x c (Some part.Exponent)) (sym e) (sign_leads c (a_digit c low high))

  pub exponent_digit : n ≡ part.Exponent → PartLeads n c (Some part.Exponent)
  exponent_digit e = subst (λ (x : Number). PartLeads x c (Some part.Exponent)) (sym e) (exponent_leads c (a_digit c low high))
