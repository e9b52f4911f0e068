-- `TableRef::repeated_key`: keys that ascend occur once, and its two loops tell whether keys ascend
-- (`KeysAscend`) and whether one occurs again (`KeysAreSeen`).
use Rattle.std.proofs.Common.{◌≡◌, ◌<◌, ◌≤◌, ◌+◌, ◌↔◌, ℕ, Bool, true, false, cond, List, Option, Some, None, refl, sym, ap, ◌∙◌, subst, arith}
use Rattle.std.specs.Prelude.{◌||◌}
use Rattle.std.specs.List.{list_any}
use Rattle.std.specs.Borrow.{Bor}
use Rattle.std.specs.Ordering.{nat_cmp, is_eq}
use Rattle.std.specs.declared.cmp.Ordering.{Ordering}
use Rattle.std.specs.BTreeMap.{is_at}
use Rattle.std.specs.BTreeSet.{BTreeSet, contains, contains_by, IsEmpty, Updates}
use Rattle.std.specs.Cmp.Lexicographic.{slice_cmp, bytes_decides, texts_ties}
use Rattle.std.specs.declared.cmp.Ordering.TheVariants.{Less}
use Rattle.std.proofs.lemmas.Bool.{false≢true}
use Rattle.std.proofs.lemmas.Cmp.{nat_list_cmp_total}
use Rattle.amqp_value_core.specs.Values.{Tree, Entries, no_entries, entry, ComesBefore}
use Rattle.amqp_value_core.specs.Maps.{same_bytes, IsRising}
use Rattle.amqp_value_core.specs.Grammar.{TableBody}
use Rattle.amqp_value_core.specs.Bytes.{slice_bytes}
use Rattle.amqp_value_core.specs.declared.input.SliceInput.{SliceInput}
use Rattle.amqp_in_place.specs.declared.refs.ValueRef.{ValueRef}
use Rattle.amqp_in_place.specs.Canonicals.{IsAbove, AreAbove}
use Rattle.amqp_in_place.specs.Lookups.{times_at, RepeatedIs}
use Rattle.amqp_in_place.specs.Walks.{NextPairIs}

-- one place at which something holds
abbrev one_if : Bool → ℕ
one_if b = cond b 1 0

-- ---- keys that are ascending occur once

-- a key below one that comes before some keys does too
comes-below : (j k : List ℕ) (ps : Entries) → slice_cmp nat_cmp j k ≡ Less → ComesBefore k ps → ComesBefore j ps
comes-below j k no_entries less before = tt
comes-below j k (entry i v ps) less before = nat_list_cmp_total.trans j k i less before

-- a key that comes before sorted keys isn't one of them
times-before : (j : List ℕ) (ps : Entries) → ComesBefore j ps → IsRising ps → times_at j ps ≡ 0
times-before j no_entries before rises = refl
times-before j (entry k v ps) before rises =
    let apart : same_bytes j k ≡ false = texts_ties j k ∙ ap is_eq before in
    let here : times_at j (entry k v ps) ≡ 0 + times_at j ps = ap (λ (b : Bool). one_if b + times_at j ps) apart in
    let others = times-before j ps (comes-below j k ps before rises.0) rises.1 in
    omega (arith, here, others)

pub rising_once : (ps : Entries) → IsRising ps → (k : List ℕ) → times_at k ps ≤ 1
rising_once no_entries rises k = omega arith
rising_once (entry j v ps) rises k = by (same_bytes k j) refl (rising_once ps rises.1 k)
  where
    by : (b : Bool) → same_bytes k j ≡ b → times_at k ps ≤ 1 → one_if b + times_at k ps ≤ 1
    by true is few =
        let none : times_at k ps ≡ 0 = subst (λ (i : List ℕ). times_at i ps ≡ 0) (sym ((bytes_decides k j).0 is)) (times-before j ps rises.0 rises.1) in
        omega (arith, none)
    by false is few = omega arith

-- ---- the iteration that checks whether keys are ascending

-- the keys are ascending if those that are left are, above the one before them
abbrev pub KeysAscend : List ℕ → List ℕ → Option (Bor (List ℕ)) → Type 0
KeysAscend s rest j = (ps : Entries) → TableBody s ps → (qs : Entries) × TableBody rest qs × (IsRising ps ↔ (AreAbove j qs × IsRising qs))

pub KeysAscend-start : (s : List ℕ) → KeysAscend s s None
KeysAscend-start s = λ ps p. (ps, p, (λ r. (tt, r), λ r. r.1))

above_first : (j : Option (Bor (List ℕ))) (k : List ℕ) (v : Tree) (ps : Entries) → IsAbove j k ↔ AreAbove j (entry k v ps)
above_first None k v ps = (λ x. x, λ x. x)
above_first (Some i) k v ps = (λ x. x, λ x. x)

above_none : (j : Option (Bor (List ℕ))) → AreAbove j no_entries
above_none None = tt
above_none (Some i) = tt

module _ (s rest : List ℕ) (j : Option (Bor (List ℕ))) (rises : KeysAscend s rest j) where
  -- the next key is above it
  pub KeysAscend-step : (x : Bor (List ℕ) × ValueRef × SliceInput) (k : Bor (List ℕ)) → ((qs : Entries) → TableBody rest qs → NextPairIs qs (Some x)) → k.now ≡ x.0.now → IsAbove j k.now
      → KeysAscend s (slice_bytes x.2) (Some k)
  KeysAscend-step x k next same above = λ ps p.
      let at = rises ps p in
      by at.0 (next at.0 at.1) at.2
    where
      by : {P : Type 0} (qs : Entries) → NextPairIs qs (Some x) → P ↔ (AreAbove j qs × IsRising qs)
          → (rs : Entries) × TableBody (slice_bytes x.2) rs × (P ↔ (AreAbove (Some k) rs × IsRising rs))
      by no_entries given iff = absurd given
      by (entry i v rs) given iff =
          let is : k.now ≡ i = same ∙ given.0 in
          let first = (above_first j i v rs).0 (subst (IsAbove j) is above) in
          (rs, given.2, (λ p. let r = iff.0 p in (subst (λ (t : List ℕ). ComesBefore t rs) (sym is) r.1.0, r.1.1), λ r. iff.1 (first, (subst (λ (t : List ℕ). ComesBefore t rs) is r.0, r.1))))

  -- the next key isn't above it
  pub KeysAscend-fall : (x : Bor (List ℕ) × ValueRef × SliceInput) (k : List ℕ) → ((qs : Entries) → TableBody rest qs → NextPairIs qs (Some x)) → k ≡ x.0.now → (IsAbove j k → ⊥)
      → (ps : Entries) → TableBody s ps → IsRising ps → ⊥
  KeysAscend-fall x k next same falls = λ ps p r.
      let at = rises ps p in
      by at.0 (next at.0 at.1) (at.2.0 r).0
    where
      by : (qs : Entries) → NextPairIs qs (Some x) → AreAbove j qs → ⊥
      by no_entries given are = absurd given
      by (entry i v rs) given are = falls (subst (IsAbove j) (sym (same ∙ given.0)) ((above_first j i v rs).1 are))

  -- no key is left
  pub KeysAscend-end : ((qs : Entries) → TableBody rest qs → NextPairIs qs None) → (ps : Entries) → TableBody s ps → IsRising ps
  KeysAscend-end next ps p =
      let at = rises ps p in
      at.2.1 (by at.0 (next at.0 at.1))
    where
      by : (qs : Entries) → NextPairIs qs None → AreAbove j qs × IsRising qs
      by no_entries given = (above_none j, tt)
      by (entry i v rs) given = absurd given

-- ---- the iteration that collects the keys in a set

-- whether the set has the key
abbrev pub has : BTreeSet (Bor (List ℕ)) → List ℕ → Bool
has t k = contains_by (λ (j : Bor (List ℕ)). slice_cmp nat_cmp k j.now) t

-- the order of the set's keys
abbrev pub by_bytes : Bor (List ℕ) → Bor (List ℕ) → Ordering
by_bytes x y = slice_cmp nat_cmp x.now y.now

-- a set into which a key is put has it, and what it had
pub has_put : (t u : BTreeSet (Bor (List ℕ))) (x : Bor (List ℕ)) → Updates by_bytes t u x true → (k : List ℕ) → has u k ≡ (same_bytes k x.now || has t k)
has_put t u x updates k = by (same_bytes k x.now) refl
  where
    other : (b : Bool) → same_bytes k x.now ≡ false → same_bytes x.now k ≡ b → b ≡ false
    other true is e = absurd (false≢true (sym is ∙ (bytes_decides k x.now).1 (sym ((bytes_decides x.now k).0 e))))
    other false is e = refl

    by : (b : Bool) → same_bytes k x.now ≡ b → has u k ≡ (b || has t k)
    by true is = ap (has u) ((bytes_decides k x.now).0 is) ∙ updates.1
    by false is =
        let q : Bor (List ℕ) = record { ref_ptr = (0, 0); now = k } in
        let apart : is_at (by_bytes x) q ≡ false = sym (texts_ties x.now k) ∙ other (same_bytes x.now k) is refl in
        updates.2 q apart

-- a key occurs once more than among the pairs that are left if the set has it
abbrev pub KeysAreSeen : List ℕ → List ℕ → BTreeSet (Bor (List ℕ)) → Type 0
KeysAreSeen s rest t = (ps : Entries) → TableBody s ps → (qs : Entries) × TableBody rest qs × ((k : List ℕ) → times_at k ps ≡ one_if (has t k) + times_at k qs)

pub KeysAreSeen-start : (s : List ℕ) (t : BTreeSet (Bor (List ℕ))) → IsEmpty t → KeysAreSeen s s t
KeysAreSeen-start s t none = λ ps p. (
  ps,
  p,
  λ k.
      let new : has t k ≡ false = ap (list_any (λ (j : Bor (List ℕ)). is_eq (slice_cmp nat_cmp k j.now))) none in
      let one : one_if (has t k) ≡ 0 = ap one_if new in
      omega (arith, one),
)

module _ (s rest : List ℕ) (t : BTreeSet (Bor (List ℕ))) (seen : KeysAreSeen s rest t) where
  -- a new key is added to the set
  pub KeysAreSeen-step : (x : Bor (List ℕ) × ValueRef × SliceInput) (u : BTreeSet (Bor (List ℕ))) → ((qs : Entries) → TableBody rest qs → NextPairIs qs (Some x))
      → contains by_bytes t x.0 ≡ false → Updates by_bytes t u x.0 true → KeysAreSeen s (slice_bytes x.2) u
  KeysAreSeen-step x u next new updates = λ ps p.
      let at = seen ps p in
      by at.0 (next at.0 at.1) at.2
    where
      count : (k : List ℕ) (b : Bool) → same_bytes k x.0.now ≡ b → one_if (has t k) + one_if b ≡ one_if (has u k)
      count k b is =
          let put : has u k ≡ (b || has t k) = has_put t u x.0 updates k ∙ ap (λ (c : Bool). c || has t k) is in
          by b is put
        where
          by : (b : Bool) → same_bytes k x.0.now ≡ b → has u k ≡ (b || has t k) → one_if (has t k) + one_if b ≡ one_if (has u k)
          by true is put =
              let old : one_if (has t k) ≡ 0 = ap one_if (ap (has t) ((bytes_decides k x.0.now).0 is) ∙ new) in
              let now : one_if (has u k) ≡ 1 = ap one_if put in
              omega (arith, old, now)
          by false is put = let stays : one_if (has u k) ≡ one_if (has t k) = ap one_if put in omega (arith, stays)

      by : {n : List ℕ → ℕ} (qs : Entries) → NextPairIs qs (Some x) → ((k : List ℕ) → n k ≡ one_if (has t k) + times_at k qs)
          → (rs : Entries) × TableBody (slice_bytes x.2) rs × ((k : List ℕ) → n k ≡ one_if (has u k) + times_at k rs)
      by no_entries given e = absurd given
      by (entry i v rs) given e = (
        rs,
        given.2,
        λ k.
            let here : one_if (has t k) + one_if (same_bytes k i) ≡ one_if (has u k) = subst (λ (j : List ℕ). one_if (has t k) + one_if (same_bytes k j) ≡ one_if (has u k)) given.0 (count k (same_bytes k x.0.now) refl) in
            omega (arith, here, e k),
      )

  -- a key that the set has occurs twice
  pub KeysAreSeen-again : (x : Bor (List ℕ) × ValueRef × SliceInput) → ((qs : Entries) → TableBody rest qs → NextPairIs qs (Some x)) → contains by_bytes t x.0 ≡ true
      → (ps : Entries) → TableBody s ps → RepeatedIs ps (Some x.0)
  KeysAreSeen-again x next old ps p =
      let at = seen ps p in
      by at.0 (next at.0 at.1) (at.2 x.0.now)
    where
      by : {n : ℕ} (qs : Entries) → NextPairIs qs (Some x) → n ≡ one_if (has t x.0.now) + times_at x.0.now qs → 1 < n
      by no_entries given e = absurd given
      by (entry i v rs) given e =
          let before : one_if (has t x.0.now) ≡ 1 = ap one_if old in
          let here : one_if (same_bytes x.0.now i) ≡ 1 = ap one_if ((bytes_decides x.0.now i).1 given.0) in
          omega (arith, before, here, e)

  -- if no pair is left no key occurs twice
  pub KeysAreSeen-end : ((qs : Entries) → TableBody rest qs → NextPairIs qs None) → (ps : Entries) → TableBody s ps → RepeatedIs ps None
  KeysAreSeen-end next ps p =
      let at = seen ps p in
      λ k. by k at.0 (next at.0 at.1) (at.2 k)
    where
      few : (b : Bool) → one_if b ≤ 1
      few true = omega arith
      few false = omega arith

      by : {n : ℕ} (k : List ℕ) (qs : Entries) → NextPairIs qs None → n ≡ one_if (has t k) + times_at k qs → n ≤ 1
      by k no_entries given e = omega (arith, few (has t k), e)
      by k (entry i v qs) given e = absurd given
