-- The bytes of a string, one by one. Four digits after `\u` are a half of a pair by the first two of them.
use Rattle.std.proofs.Common.{◌≡◌, ℕ, ◌+◌, ◌*◌, ◌<◌, ◌≤◌, Bool, true, false, cond, ◌==◌, List, [], ◌∷◌, Option, Some, None, option_and_then, refl, sym, ap, ◌∙◌, subst, arith, ◌⊎◌, inl, inr}
use Rattle.std.specs.Prelude.{◌&&◌, not, nat_le}
use Rattle.std.specs.Option.{is_some}
use Rattle.std.specs.Char.{is_digit, digit_value, encode_utf8, is_ascii_hexdigit}
use Rattle.std.proofs.lemmas.Bool.{ne_eqb, eqb-true, leb-true, leb-false, le-leb, ltb-true, lt-ltb, le-ltb, eq-eqb, and_parts, and_from, false≢true}
use Rattle.json.specs.Text.{code_unit, short_escape, is_high_surrogate, is_low_surrogate, surrogate_pair, content, plain, after_u, after_high, prepend}
use Rattle.amqp_json.specs.declared.reading.syntax.Next.{Next}
use Rattle.amqp_json.specs.declared.reading.syntax.Next.TheVariants as next
use Rattle.amqp_json.specs.reading.Continuations.{is_thirteen, is_half, is_second_half, unit_ends, first_ends, backslash_ends, TextLeads, TextEnds}

pub prepended : (bytes : List ℕ) (o : Option (List ℕ)) → is_some (prepend bytes o) ≡ is_some o
prepended bytes None = refl
prepended bytes (Some s) = refl

same_tests : (x y : Bool) → (x ≡ true → y ≡ true) → (y ≡ true → x ≡ true) → x ≡ y
same_tests true y f g = sym (f refl)
same_tests false true f g = g refl
same_tests false false f g = refl

not_true : (x : Bool) → not x ≡ true → x ≡ true → ⊥
not_true true e h = cc (e)
not_true false e h = cc (h)

not_from : (x : Bool) → (x ≡ true → ⊥) → not x ≡ true
not_from true f = absurd (f refl)
not_from false f = refl

module _ (a b c d : ℕ) (ha : a < 16) (hb : b < 16) (hc : c < 16) (hd : d < 16) where
  abbrev unit : ℕ
  unit = a * 4096 + b * 256 + c * 16 + d

  low_is : is_low_surrogate unit ≡ ((a == 13) && nat_le 12 b)
  low_is = same_tests _ _
      (λ h. let (x, y) = and_parts _ _ h in let p = leb-true 0xdc00 unit x in let q = ltb-true unit 0xe000 y in
      and_from _ _ (eq-eqb a 13 (omega (arith, p, q, ha, hb, hc, hd))) (le-leb 12 b (omega (arith, p, q, ha, hb, hc, hd))))
      (λ h. let (x, y) = and_parts _ _ h in let p = eqb-true a 13 x in let q = leb-true 12 b y in
      and_from _ _ (le-leb 0xdc00 unit (omega (arith, p, q, hb, hc, hd))) (lt-ltb unit 0xe000 (omega (arith, p, q, hb, hc, hd))))

  high_is : is_high_surrogate unit ≡ (((a == 13) && nat_le 8 b) && not ((a == 13) && nat_le 12 b))
  high_is = same_tests _ _
      (λ h. let (x, y) = and_parts _ _ h in let p = leb-true 0xd800 unit x in let q = ltb-true unit 0xdc00 y in
      and_from _ _ (and_from _ _ (eq-eqb a 13 (omega (arith, p, q, ha, hb, hc, hd))) (le-leb 8 b (omega (arith, p, q, ha, hb, hc, hd))))
      (not_from _ (λ k. let r = leb-true 12 b (and_parts _ _ k).1 in let s = eqb-true a 13 (and_parts _ _ k).0 in absurd (omega (arith, p, q, r, s, hb, hc, hd)))))
      (λ h. let (x, y) = and_parts _ _ h in let p = eqb-true a 13 (and_parts _ _ x).0 in let q = leb-true 8 b (and_parts _ _ x).1 in
      let r : b < 12 = below _ b (eq-eqb a 13 p) y in
      and_from _ _ (le-leb 0xd800 unit (omega (arith, p, q, hb, hc, hd))) (lt-ltb unit 0xdc00 (omega (arith, p, r, hb, hc, hd))))
    where
      below : (t : Bool) (n : ℕ) → t ≡ true → not (t && nat_le 12 n) ≡ true → n < 12
      below true n e h = leb-false 12 n (decided (nat_le 12 n) h)
        where
          decided : (x : Bool) → not x ≡ true → x ≡ false
          decided true e = absurd (cc (e))
          decided false e = refl
      below false n e h = absurd (cc (e))

-- ---- escapes by number

hex : (a b c d : ℕ) → (is_digit a 16 && is_digit b 16 && is_digit c 16 && is_digit d 16) ≡ true → (is_digit a 16 ≡ true) × (is_digit b 16 ≡ true) × (is_digit c 16 ≡ true) × (is_digit d 16 ≡ true)
hex a b c d h =
    let (abc, hd) = and_parts _ _ h in
    let (ab, hc) = and_parts _ _ abc in
    let (ha, hb) = and_parts _ _ ab in
    (ha, hb, hc, hd)

with_unit : (k : Bool) (u : ℕ) (f : ℕ → Option (List ℕ)) → is_some (option_and_then f (cond k (Some u) None)) ≡ true → (k ≡ true) × (is_some (f u) ≡ true)
with_unit true u f h = (refl, h)
with_unit false u f h = absurd (false≢true h)

-- what follows a first half doesn't depend on it
any_pair : (k : Bool) (o : Option ℕ) (f g : ℕ → List ℕ) (t : Option (List ℕ))
    → is_some (cond k (option_and_then (λ l. cond (is_low_surrogate l) (prepend (f l) t) None) o) None) ≡ is_some (cond k (option_and_then (λ l. cond (is_low_surrogate l) (prepend (g l) t) None) o) None)
any_pair false o f g t = refl
any_pair true None f g t = refl
any_pair true (Some l) f g t = either (is_low_surrogate l)
  where
    either : (b : Bool) → is_some (cond b (prepend (f l) t) None) ≡ is_some (cond b (prepend (g l) t) None)
    either true = prepended (f l) t ∙ sym (prepended (g l) t)
    either false = refl

any_high : (high : ℕ) (xs : List ℕ) → is_some (content (after_high high) xs) ≡ is_some (content (after_high 0) xs)
unfolding content
any_high high [] = refl
any_high high (s ∷ []) = refl
any_high high (s ∷ u ∷ []) = refl
any_high high (s ∷ u ∷ a ∷ []) = refl
any_high high (s ∷ u ∷ a ∷ b ∷ []) = refl
any_high high (s ∷ u ∷ a ∷ b ∷ c ∷ []) = refl
any_high high (s ∷ u ∷ a ∷ b ∷ c ∷ d ∷ xs) =
    any_pair ((s == 92) && (u == 117)) (code_unit a b c d) (λ l. encode_utf8 (surrogate_pair high l)) (λ l. encode_utf8 (surrogate_pair 0 l)) (content plain xs)

follows : (xs : List ℕ) → is_some (content (after_high 0) xs) ≡ true → backslash_ends xs ≡ true
unfolding content code_unit
follows [] h = absurd (false≢true h)
follows (s ∷ []) h = absurd (false≢true h)
follows (s ∷ u ∷ []) h = absurd (false≢true h)
follows (s ∷ u ∷ a ∷ []) h = absurd (false≢true h)
follows (s ∷ u ∷ a ∷ b ∷ []) h = absurd (false≢true h)
follows (s ∷ u ∷ a ∷ b ∷ c ∷ []) h = absurd (false≢true h)
follows (s ∷ u ∷ a ∷ b ∷ c ∷ d ∷ xs) h =
    let (opens, h1) = with_escape ((s == 92) && (u == 117)) _ h in
    let hs : (s == 92) ≡ true = (and_parts _ _ opens).0 in
    let hu : (u == 117) ≡ true = (and_parts _ _ opens).1 in
    let (digits, h2) = with_unit (is_digit a 16 && is_digit b 16 && is_digit c 16 && is_digit d 16) _ _ h1 in
    let (ha, hb, hc, hd) = hex a b c d digits in
    let low = with_low _ _ (content plain xs) h2 in
    let plain_ends : is_some (content plain xs) ≡ true = low.1 in
    let second : is_second_half (is_thirteen a) b ≡ true = sym (low_is (digit_value a) (digit_value b) (digit_value c) (digit_value d) (ltb-true _ 16 ha) (ltb-true _ 16 hb) (ltb-true _ 16 hc) (ltb-true _ 16 hd)) ∙ low.0 in
    let thirteen : is_thirteen a ≡ true = (and_parts _ _ second).0 in
    rw (hs, hu, ha, hb, hc, hd, second, thirteen) (neither (nat_le 8 (digit_value b)) xs plain_ends)
  where
    neither : (half : Bool) (xs : List ℕ) → is_some (content plain xs) ≡ true → unit_ends (half && false) xs ≡ true
    neither true xs h = h
    neither false xs h = h

    with_escape : (k : Bool) (o : Option (List ℕ)) → is_some (cond k o None) ≡ true → (k ≡ true) × (is_some o ≡ true)
    with_escape true o h = (refl, h)
    with_escape false o h = absurd (false≢true h)

    with_low : (k : Bool) (bytes : List ℕ) (o : Option (List ℕ)) → is_some (cond k (prepend bytes o) None) ≡ true → (k ≡ true) × (is_some o ≡ true)
    with_low true bytes o h = (refl, sym (prepended bytes o) ∙ h)
    with_low false bytes o h = absurd (false≢true h)

-- the digits after `\u`
splits : (xs : List ℕ) → is_some (content after_u xs) ≡ true → first_ends false xs ≡ true
unfolding content code_unit
splits [] h = absurd (false≢true h)
splits (a ∷ []) h = absurd (false≢true h)
splits (a ∷ b ∷ []) h = absurd (false≢true h)
splits (a ∷ b ∷ c ∷ []) h = absurd (false≢true h)
splits (a ∷ b ∷ c ∷ d ∷ xs) h =
    let (digits, h1) = with_unit (is_digit a 16 && is_digit b 16 && is_digit c 16 && is_digit d 16) _ _ h in
    let (ha, hb, hc, hd) = hex a b c d digits in
    let low = low_is (digit_value a) (digit_value b) (digit_value c) (digit_value d) (ltb-true _ 16 ha) (ltb-true _ 16 hb) (ltb-true _ 16 hc) (ltb-true _ 16 hd) in
    let high = high_is (digit_value a) (digit_value b) (digit_value c) (digit_value d) (ltb-true _ 16 ha) (ltb-true _ 16 hb) (ltb-true _ 16 hc) (ltb-true _ 16 hd) in
    let (single, next) = by_half _ _ _ xs _ (is_half (is_thirteen a) b) (is_second_half (is_thirteen a) b) high low h1 in
    rw (ha, hb, hc, hd, single) (rw single at next)
  where
    by_half : (high low : Bool) (u : ℕ) (xs : List ℕ) (bytes : List ℕ) (half second : Bool) → high ≡ (half && not second) → low ≡ second
        → is_some (cond high (content (after_high u) xs) (cond low None (prepend bytes (content plain xs)))) ≡ true → (second ≡ false) × (unit_ends (half && not second) xs ≡ true)
    by_half high low u xs bytes half true is_high is_low h = absurd (none half (rw (is_high, is_low) at h))
      where
        none : (k : Bool) → is_some (cond (k && false) (content (after_high u) xs) None) ≡ true → ⊥
        none true e = false≢true e
        none false e = false≢true e
    by_half high low u xs bytes true false is_high is_low h = (refl, sym (any_high u xs) ∙ (rw is_high at h))
    by_half high low u xs bytes false false is_high is_low h = (refl, sym (prepended bytes (content plain xs)) ∙ (rw (is_high, is_low) at h))

-- ---- the bytes

module _ (n : Next) (c : ℕ) where
  at_next : (m : Next) (to : Option Next) → n ≡ m → TextLeads m c to → TextLeads n c to
  at_next m to e h = subst (λ (x : Next). TextLeads x c to) (sym e) h

  ends_at : (m : Next) → n ≡ m → TextEnds m c → TextEnds n c
  ends_at m e h = subst (λ (x : Next). TextEnds x c) (sym e) h

  pub control_ends : n ≡ next.Character → c < 32 → TextEnds n c
  unfolding content
  control_ends e small = ends_at next.Character e (λ xs h. false≢true (rw (ne_eqb c 34 (λ is. omega (arith, is, small)), ne_eqb c 92 (λ is. omega (arith, is, small)), lt-ltb c 32 small) at h))

  pub plain_leads : n ≡ next.Character → (c ≡ 34 → ⊥) → (c ≡ 92 → ⊥) → 32 ≤ c → TextLeads n c (Some next.Character)
  unfolding content
  plain_leads e quote backslash large =
      let q = ne_eqb c 34 quote in
      let s = ne_eqb c 92 backslash in
      at_next next.Character (Some next.Character) e (rw (q, s) refl, λ xs h. sym (prepended (c ∷ []) (content plain xs)) ∙ (rw (q, s, le-ltb c 32 large) at h))

  pub escape_leads : n ≡ next.Character → c ≡ 92 → TextLeads n c (Some next.Escape)
  unfolding content
  escape_leads e is = at_next next.Character (Some next.Escape) e (subst (λ x. TextLeads next.Character x (Some next.Escape)) (sym is) (refl, λ xs h. h))

  pub u_leads : n ≡ next.Escape → c ≡ 117 → TextLeads n c (Some (next.FirstDigit false))
  unfolding content
  u_leads e is = at_next next.Escape (Some (next.FirstDigit false)) e (subst (λ x. TextLeads next.Escape x (Some (next.FirstDigit false))) (sym is) (refl, λ xs h. splits xs h))

  after_short : (o : Option ℕ) (xs : List ℕ) → is_some (option_and_then (λ x. prepend (x ∷ []) (content plain xs)) o) ≡ true → is_some (content plain xs) ≡ true
  after_short None xs h = absurd (false≢true h)
  after_short (Some x) xs h = sym (prepended (x ∷ []) (content plain xs)) ∙ h

  pub short_leads : n ≡ next.Escape → (c ≡ 117 → ⊥) → TextLeads n c (Some next.Character)
  unfolding content
  short_leads e other = at_next next.Escape (Some next.Character) e (refl, λ xs h. after_short (short_escape c) xs (rw (ne_eqb c 117 other) at h))

  pub unknown_ends : n ≡ next.Escape → (c ≡ 117 → ⊥) → ((c ≡ 34) ⊎ ((c ≡ 47) ⊎ ((c ≡ 92) ⊎ ((c ≡ 98) ⊎ ((c ≡ 102) ⊎ ((c ≡ 110) ⊎ ((c ≡ 114) ⊎ (c ≡ 116))))))) → ⊥) → TextEnds n c
  unfolding content short_escape
  unknown_ends e other none =
      let none_of : short_escape c ≡ None = rw (ne_eqb c 34 (λ x. none (inl x)), ne_eqb c 92 (λ x. none (inr (inr (inl x)))), ne_eqb c 47 (λ x. none (inr (inl x))), ne_eqb c 98 (λ x. none (inr (inr (inr (inl x))))), ne_eqb c 102 (λ x. none (inr (inr (inr (inr (inl x)))))), ne_eqb c 110 (λ x. none (inr (inr (inr (inr (inr (inl x))))))), ne_eqb c 114 (λ x. none (inr (inr (inr (inr (inr (inr (inl x)))))))), ne_eqb c 116 (λ x. none (inr (inr (inr (inr (inr (inr (inr x))))))))) refl in
      ends_at next.Escape e (λ xs h. false≢true (rw (ne_eqb c 117 other, none_of) at h))

  pub fourth_leads : n ≡ next.FourthDigit true → is_ascii_hexdigit c ≡ true → TextLeads n c (Some next.BackslashOfSecondHalf)
  fourth_leads e digit = at_next (next.FourthDigit true) (Some next.BackslashOfSecondHalf) e (rw (ne_eqb c 34 (λ is. false≢true (sym (ap is_ascii_hexdigit is) ∙ digit)), ne_eqb c 92 (λ is. false≢true (sym (ap is_ascii_hexdigit is) ∙ digit))) refl, λ xs h. follows xs (and_parts _ _ h).1)
