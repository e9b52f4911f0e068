-- `warnings`: while its loops pass over entries, the first fault is still ahead or there is none
-- (`ValuesPassed`, `PairsPassed`), and the set tells whether a key is repeated.
use Rattle.std.proofs.Common.{◌≡◌, ◌≢◌, ◌<◌, ◌≤◌, ◌+◌, ◌-◌, ℕ, zero, suc, Option, Some, None, List, [], ◌∷◌, length, take, drop, Bool, true, false, not, refl, sym, ap, ◌∙◌, subst, arith}
use Rattle.std.specs.Prelude.{Result, Ok, Err, MatchResult, is_err, is_ok, max, option_map, ◌||◌, ◌==◌}
use Rattle.std.specs.Bool.{then_some}
use Rattle.std.specs.Borrow.{Bor}
use Rattle.std.specs.List.{list_any}
use Rattle.std.specs.Ordering.{nat_cmp, is_eq}
use Rattle.std.specs.BTreeSet.{BTreeSet, contains, IsEmpty, Updates}
use Rattle.std.specs.Cmp.Lexicographic.{slice_cmp}
use Rattle.std.proofs.lemmas.List.{length-drop, drop-drop, drop_all}
use Rattle.std.specs.Str.{IsUtf8}
use Rattle.amqp_value_core.specs.declared.types.amqp_type.AMQPType.{AMQPType}
use Rattle.amqp_value_core.specs.declared.types.amqp_type.AMQPType.TheVariants as amqp
use Rattle.amqp_value_core.specs.Maps.{same_bytes}
use Rattle.amq_protocol_types.specs.parsing.Headers.{extent}
use Rattle.amqp_in_place.specs.declared.rabbitmq.warning.Fault.{Fault}
use Rattle.amqp_in_place.specs.declared.rabbitmq.warning.Fault.TheVariants.{Repeated, NotUtf8, Empty, TooDeep, Decimal}
use Rattle.amqp_in_place.specs.RabbitmqWarnings.{HasKeys, IsKeyFaultReport, key_of, after_key, WarningPlace, fault_inside, is_key_faulty, is_value_faulty, fault_in_values, fault_in_pairs}
use Rattle.amqp_in_place.proofs.FirstProblems.{checked_utf8, left_over}
use Rattle.amqp_in_place.proofs.RepeatedKeys.{has_put, by_bytes}

-- ---- the keys in the set

not_not : (b : Bool) → not (not b) ≡ b
not_not true = refl
not_not false = refl

-- a key that is put into the set
has_more : (t u : BTreeSet (Bor (List ℕ))) (x : Bor (List ℕ)) (keys : List (List ℕ)) → HasKeys Repeated t keys → Updates by_bytes t u x true → HasKeys Repeated u (x.now ∷ keys)
has_more t u x keys all updates k = has_put t u x updates k ∙ ap (λ (b : Bool). same_bytes k x.now || b) (all k)

pub tells_repeated : (t u : BTreeSet (Bor (List ℕ))) (x : Bor (List ℕ)) (added : Bool) → added ≡ not (contains by_bytes t x) → Updates by_bytes t u x true → IsKeyFaultReport Repeated t u x.now (not added)
tells_repeated t u x added is updates keys all =
    (ap not is ∙ (not_not (contains by_bytes t x) ∙ all x.now), λ e. has_more t u x keys all updates)

pub has_none : (fault : Fault) (t : BTreeSet (Bor (List ℕ))) → IsEmpty t → HasKeys fault t []
has_none Repeated t none = λ k. ap (list_any (λ (j : Bor (List ℕ)). is_eq (slice_cmp nat_cmp k j.now))) none
has_none NotUtf8 t none = tt
has_none Empty t none = tt
has_none TooDeep t none = tt
has_none Decimal t none = tt

pub tells_utf8 : {E : Type 0} (t : BTreeSet (Bor (List ℕ))) (k : List ℕ) (r : Result (Unit {0}) E) (b : Bool) → MatchResult r (λ x. IsUtf8 k) (λ x. IsUtf8 k → ⊥) → b ≡ is_err r → IsKeyFaultReport NotUtf8 t t k b
tells_utf8 {E} t k r b is e keys all = (e ∙ (by r ∙ ap not (checked_utf8 k r is)), λ f. tt)
  where
    by : (q : Result (Unit {0}) E) → is_err q ≡ not (is_ok q)
    by (Ok x) = refl
    by (Err x) = refl

pub tells_empty : (t : BTreeSet (Bor (List ℕ))) (k : List ℕ) (b : Bool) → b ≡ (length k == 0) → IsKeyFaultReport Empty t t k b
tells_empty t k b is keys all = (is, λ e. tt)

pub tells_deep : (t : BTreeSet (Bor (List ℕ))) (k : List ℕ) → IsKeyFaultReport TooDeep t t k false
tells_deep t k keys all = (refl, λ e. tt)

pub tells_decimal : (t : BTreeSet (Bor (List ℕ))) (k : List ℕ) → IsKeyFaultReport Decimal t t k false
tells_decimal t k keys all = (refl, λ e. tt)

-- ---- values of other types

pub in_no_container : (fault : Fault) (depth : ℕ) (type : Option AMQPType) (b : List ℕ) → type ≢ Some amqp.FieldArray → type ≢ Some amqp.FieldTable
    → fault_inside fault depth type b ≡ then_some (is_value_faulty fault depth type) 0
in_no_container fault zero type b no_array no_table = refl
in_no_container fault (suc depth) None b no_array no_table = refl
in_no_container fault (suc depth) (Some amqp.FieldArray) b no_array no_table = absurd (no_array refl)
in_no_container fault (suc depth) (Some amqp.FieldTable) b no_array no_table = absurd (no_table refl)
in_no_container fault (suc depth) (Some _) b no_array no_table = refl

-- ---- how far the first is

twice : (m n : ℕ) (x : Option ℕ) → option_map (λ k. m + k) (option_map (λ k. n + k) x) ≡ option_map (λ k. m + n + k) x
twice m n None = refl
twice m n (Some p) = ap (λ (k : ℕ). Some k) (omega arith)

again : (n : ℕ) (x : Option ℕ) → option_map suc (option_map (λ k. n + k) x) ≡ option_map (λ k. suc n + k) x
again n None = refl
again n (Some p) = ap (λ (k : ℕ). Some k) (omega arith)

none_more : (x : Option ℕ) → option_map (λ k. 0 + k) x ≡ x
none_more None = refl
none_more (Some p) = ap (λ (k : ℕ). Some k) (omega arith)

some_left : (n : ℕ) (s : List ℕ) → n < length s → 0 < length (drop n s)
some_left n s some = omega (arith, some, length-drop n s)

at_least : (n : ℕ) → max n 1 ≡ suc (n - 1)
at_least zero = refl
at_least (suc n) = omega arith

module _ (value : WarningPlace) where
  over_values : (n : ℕ) (s : List ℕ) → fault_in_values value n s ≡ option_map (λ k. n + k) (fault_in_values value 0 (drop n s))
  over_values zero s = sym (none_more (fault_in_values value 0 s))
  over_values (suc n) [] = refl
  over_values (suc n) (c ∷ s) = ap (option_map suc) (over_values n s) ∙ again n (fault_in_values value 0 (drop n s))

  value_over : (s : List ℕ) (n : ℕ) → 0 < length s → value s ≡ None → n ≡ extent s - 1
      → fault_in_values value 0 s ≡ option_map (λ k. suc n + k) (fault_in_values value 0 (drop (suc n) s))
  value_over [] n some none is = absurd (omega (arith, some))
  value_over (c ∷ s) n some none is = rw (none, sym is) (ap (option_map suc) (over_values n s) ∙ again n (fault_in_values value 0 (drop n s)))

  -- the first is after the first n bytes of s, or there is none
  abbrev pub ValuesPassed : List ℕ → ℕ → Type 0
  ValuesPassed s n = fault_in_values value 0 s ≡ option_map (λ k. n + k) (fault_in_values value 0 (drop n s))

  pub ValuesPassed-start : (s : List ℕ) → ValuesPassed s 0
  ValuesPassed-start s = sym (none_more (fault_in_values value 0 s))

  pub ValuesPassed-next : (s t : List ℕ) (n m : ℕ) → ValuesPassed s n → n < length s → t ≡ take (length s - n) (drop n s) → value t ≡ None → m ≡ max (extent t) 1 → ValuesPassed s (n + m)
  ValuesPassed-next s t n m at some e none most =
      let is : m ≡ suc (extent t - 1) = most ∙ at_least (extent t) in
      let same : t ≡ drop n s = e ∙ left_over n s in
      let more : fault_in_values value 0 (drop n s) ≡ option_map (λ k. m + k) (fault_in_values value 0 (drop (n + m) s)) =
      ap (fault_in_values value 0) (sym same) ∙ (subst (λ i. fault_in_values value 0 t ≡ option_map (λ k. i + k) (fault_in_values value 0 (drop i t))) (sym is) (value_over t (extent t - 1) (subst (λ (u : List ℕ). 0 < length u) (sym same) (some_left n s some)) none refl)
      ∙ ap (λ u. option_map (λ k. m + k) (fault_in_values value 0 u)) (ap (drop m) same ∙ drop-drop m n s)) in
      at ∙ (ap (option_map (λ k. n + k)) more ∙ twice n m (fault_in_values value 0 (drop (n + m) s)))

  value_stops : (s : List ℕ) (p : ℕ) → 0 < length s → value s ≡ Some p → fault_in_values value 0 s ≡ Some p
  value_stops [] p some is = absurd (omega (arith, some))
  value_stops (c ∷ s) p some is = rw is refl

  pub ValuesPassed-stop : (s t : List ℕ) (n p : ℕ) → ValuesPassed s n → n < length s → t ≡ take (length s - n) (drop n s) → value t ≡ Some p → fault_in_values value 0 s ≡ Some (n + p)
  ValuesPassed-stop s t n p at some e is =
      let same : t ≡ drop n s = e ∙ left_over n s in
      at ∙ ap (option_map (λ k. n + k)) (ap (fault_in_values value 0) (sym same) ∙ value_stops t p (subst (λ (u : List ℕ). 0 < length u) (sym same) (some_left n s some)) is)

  pub ValuesPassed-end : (s : List ℕ) (n : ℕ) → ValuesPassed s n → length s ≤ n → fault_in_values value 0 s ≡ None
  ValuesPassed-end s n at all = at ∙ ap (λ t. option_map (λ k. n + k) (fault_in_values value 0 t)) (drop_all n s all)

module _ (fault : Fault) (value : WarningPlace) where
  over_pairs : (earlier : List (List ℕ)) (n : ℕ) (s : List ℕ) → fault_in_pairs fault value earlier n s ≡ option_map (λ k. n + k) (fault_in_pairs fault value earlier 0 (drop n s))
  over_pairs earlier zero s = sym (none_more (fault_in_pairs fault value earlier 0 s))
  over_pairs earlier (suc n) [] = refl
  over_pairs earlier (suc n) (c ∷ s) = ap (option_map suc) (over_pairs earlier n s) ∙ again n (fault_in_pairs fault value earlier 0 (drop n s))

  -- the bytes of a pair, of which some may be missing
  pair_over : (earlier : List (List ℕ)) (s : List ℕ) → 0 < length s → is_key_faulty fault earlier (key_of s) ≡ false → value (after_key s) ≡ None
      → fault_in_pairs fault value earlier 0 s ≡ option_map (λ k. 1 + length (key_of s) + extent (after_key s) + k) (fault_in_pairs fault value (key_of s ∷ earlier) 0 (drop (1 + length (key_of s) + extent (after_key s)) s))
  pair_over earlier [] some good none = absurd (omega (arith, some))
  pair_over earlier (k ∷ s) some good none =
      let n = length (take k s) + extent (drop k s) in
      let keys = take k s ∷ earlier in
      let same : suc n ≡ 1 + length (take k s) + extent (drop k s) = omega arith in
      rw (good, none) (ap (option_map suc) (over_pairs keys n s) ∙ (again n (fault_in_pairs fault value keys 0 (drop n s)) ∙ ap (λ i. option_map (λ j. i + j) (fault_in_pairs fault value keys 0 (drop i (k ∷ s)))) same))

  -- the first is after the first n bytes of s, or there is none, and the set has the keys in them
  pub record PairsPassed (s : List ℕ) (n : ℕ) (t : BTreeSet (Bor (List ℕ))) : Type 0 where
    pub earlier : List (List ℕ)
    pub there : HasKeys fault t earlier
    pub same : fault_in_pairs fault value [] 0 s ≡ option_map (λ k. n + k) (fault_in_pairs fault value earlier 0 (drop n s))

  pub PairsPassed-start : (s : List ℕ) (t : BTreeSet (Bor (List ℕ))) → IsEmpty t → PairsPassed s 0 t
  PairsPassed-start s t none = record { earlier = []; there = has_none fault t none; same = sym (none_more (fault_in_pairs fault value [] 0 s)) }

  pub PairsPassed-next : (s r : List ℕ) (n m : ℕ) (t u : BTreeSet (Bor (List ℕ))) → PairsPassed s n t → n < length s → r ≡ take (length s - n) (drop n s) → IsKeyFaultReport fault t u (key_of r) false
      → value (after_key r) ≡ None → m ≡ 1 + length (key_of r) + extent (after_key r) → PairsPassed s (n + m) u
  PairsPassed-next s r n m t u at some e tells none is =
      let same : r ≡ drop n s = e ∙ left_over n s in
      let reported = tells at.earlier at.there in
      let more : fault_in_pairs fault value at.earlier 0 (drop n s) ≡ option_map (λ k. m + k) (fault_in_pairs fault value (key_of r ∷ at.earlier) 0 (drop (n + m) s)) =
      ap (fault_in_pairs fault value at.earlier 0) (sym same) ∙ (subst (λ i. fault_in_pairs fault value at.earlier 0 r ≡ option_map (λ k. i + k) (fault_in_pairs fault value (key_of r ∷ at.earlier) 0 (drop i r))) (sym is) (pair_over at.earlier r (subst (λ (v : List ℕ). 0 < length v) (sym same) (some_left n s some)) (sym reported.0) none)
      ∙ ap (λ v. option_map (λ k. m + k) (fault_in_pairs fault value (key_of r ∷ at.earlier) 0 v)) (ap (drop m) same ∙ drop-drop m n s)) in
      record {
        earlier = key_of r ∷ at.earlier;
        there = reported.1 refl;
        same = at.same ∙ (ap (option_map (λ k. n + k)) more ∙ twice n m (fault_in_pairs fault value (key_of r ∷ at.earlier) 0 (drop (n + m) s)));
      }

  -- the next pair as the code has it, by the key k and the bytes v after it
  pub PairsPassed-on : (s r k v : List ℕ) (n m : ℕ) (t u : BTreeSet (Bor (List ℕ))) (b : Bool) → PairsPassed s n t → n < length s → r ≡ take (length s - n) (drop n s) → k ≡ key_of r → v ≡ after_key r
      → IsKeyFaultReport fault t u k b → b ≡ false → value v ≡ None → m ≡ n + 1 + length k + extent v → PairsPassed s m u
  PairsPassed-on s r k v n m t u b at some e is_key is_rest tells good none is =
      let reported : IsKeyFaultReport fault t u (key_of r) false = subst (λ (c : Bool). IsKeyFaultReport fault t u (key_of r) c) good (subst (λ (j : List ℕ). IsKeyFaultReport fault t u j b) is_key tells) in
      let sums : n + (1 + length (key_of r) + extent (after_key r)) ≡ m = omega (arith, is, ap length is_key, ap extent is_rest) in
      subst (λ (i : ℕ). PairsPassed s i u) sums (PairsPassed-next s r n (1 + length (key_of r) + extent (after_key r)) t u at some e reported (ap value (sym is_rest) ∙ none) refl)

  faulty_stops : (earlier : List (List ℕ)) (s : List ℕ) → 0 < length s → is_key_faulty fault earlier (key_of s) ≡ true → fault_in_pairs fault value earlier 0 s ≡ Some 0
  faulty_stops earlier [] some is = absurd (omega (arith, some))
  faulty_stops earlier (k ∷ s) some is = rw is refl

  pub PairsPassed-key : (s r : List ℕ) (n : ℕ) (t u : BTreeSet (Bor (List ℕ))) → PairsPassed s n t → n < length s → r ≡ take (length s - n) (drop n s) → IsKeyFaultReport fault t u (key_of r) true
      → fault_in_pairs fault value [] 0 s ≡ Some n
  PairsPassed-key s r n t u at some e tells =
      let same : r ≡ drop n s = e ∙ left_over n s in
      let stops = faulty_stops at.earlier r (subst (λ (v : List ℕ). 0 < length v) (sym same) (some_left n s some)) (sym (tells at.earlier at.there).0) in
      let z : n + 0 ≡ n = omega arith in
      at.same ∙ (ap (option_map (λ k. n + k)) (ap (fault_in_pairs fault value at.earlier 0) (sym same) ∙ stops) ∙ ap (λ (k : ℕ). Some k) z)

  value_stops_pair : (earlier : List (List ℕ)) (s : List ℕ) (p : ℕ) → 0 < length s → is_key_faulty fault earlier (key_of s) ≡ false → value (after_key s) ≡ Some p
      → fault_in_pairs fault value earlier 0 s ≡ Some (1 + length (key_of s) + p)
  value_stops_pair earlier [] p some good is = absurd (omega (arith, some))
  value_stops_pair earlier (k ∷ s) p some good is = rw (good, is) refl

  pub PairsPassed-value : (s r : List ℕ) (n p : ℕ) (t u : BTreeSet (Bor (List ℕ))) → PairsPassed s n t → n < length s → r ≡ take (length s - n) (drop n s) → IsKeyFaultReport fault t u (key_of r) false
      → value (after_key r) ≡ Some p → fault_in_pairs fault value [] 0 s ≡ Some (n + 1 + length (key_of r) + p)
  PairsPassed-value s r n p t u at some e tells is =
      let same : r ≡ drop n s = e ∙ left_over n s in
      let stops = value_stops_pair at.earlier r p (subst (λ (v : List ℕ). 0 < length v) (sym same) (some_left n s some)) (sym (tells at.earlier at.there).0) is in
      let sums : n + (1 + length (key_of r) + p) ≡ n + 1 + length (key_of r) + p = omega arith in
      at.same ∙ (ap (option_map (λ k. n + k)) (ap (fault_in_pairs fault value at.earlier 0) (sym same) ∙ stops) ∙ ap (λ (k : ℕ). Some k) sums)

  pub PairsPassed-end : (s : List ℕ) (n : ℕ) (t : BTreeSet (Bor (List ℕ))) → PairsPassed s n t → length s ≤ n → fault_in_pairs fault value [] 0 s ≡ None
  PairsPassed-end s n t at all = at.same ∙ ap (λ v. option_map (λ k. n + k) (fault_in_pairs fault value at.earlier 0 v)) (drop_all n s all)
