-- What has no problem by some rules has none by weaker ones, even if containers may nest deeper:
-- none by `Reading`, so none by `AnyKeys` (`none_of_any_keys`).
use Rattle.std.proofs.Common.{◌≡◌, ◌≤◌, ◌+◌, ◌-◌, ℕ, zero, suc, Bool, true, false, Option, Some, None, List, [], ◌∷◌, length, take, drop, refl, sym, ap, ◌∙◌, subst, if◌then◌else◌, inl, inr, arith}
use Rattle.std.specs.Prelude.{option_map, ◌&&◌}
use Rattle.std.specs.Option.{option_or}
use Rattle.std.specs.Int.{w32, w64, from_be_bytes}
use Rattle.std.proofs.lemmas.Bool.{cases_lt, lt-ltb, le-ltb}
use Rattle.amqp_value_core.specs.declared.types.amqp_type.AMQPType.{AMQPType}
use Rattle.amqp_value_core.specs.declared.types.amqp_type.AMQPType.TheVariants as amqp
use Rattle.amqp_value_core.specs.Layouts.{Layout, fixed}
use Rattle.amq_protocol_types.specs.declared.parsing.within.Limits.{Limits}
use Rattle.amq_protocol_types.specs.parsing.Headers.{extent, raw_extent}
use Rattle.amqp_in_place.specs.declared.problems.Problem.{Problem}
use Rattle.amqp_in_place.specs.declared.problems.ProblemKind.TheVariants.{UnknownTag, NotFinite, KeyNotUtf8}
use Rattle.amqp_in_place.specs.declared.problems.Rules.{Rules}
use Rattle.amqp_in_place.specs.declared.problems.Rules.TheVariants.{Reading, AnyKeys}
use Rattle.amqp_in_place.specs.Problems.{Search, known, want_finite, allow_key, are_ones, here, further, in_entries, in_payload, in_value, in_pair, pair_len, inside, value_problem, values_problem, pair_problem, pairs_problem, problem_of}

-- ---- parts without a problem

pub no_further : (n : ℕ) (x : Option Problem) → option_map (further n) x ≡ None → x ≡ None
no_further n None is = refl
no_further n (Some p) is = absurd cc

pub neither : (p q : Option Problem) → option_or p q ≡ None → (p ≡ None) × (q ≡ None)
neither None q is = (refl, is)
neither (Some p) q is = absurd cc

-- entries, of which each that has no problem by one search has none by the other
pub entries_weaker : (first other : Search) (len : List ℕ → ℕ) → ((s : List ℕ) → first s ≡ None → other s ≡ None) → (s : List ℕ) (n : ℕ)
    → in_entries first len n s ≡ None → in_entries other len n s ≡ None
entries_weaker first other len weaker [] n none = refl
entries_weaker first other len weaker (c ∷ s) zero none =
    let here = neither (first (c ∷ s)) (option_map (further 1) (in_entries first len (len (c ∷ s) - 1) s)) none in
    rw (weaker (c ∷ s) here.0)
    (ap (option_map (further 1)) (entries_weaker first other len weaker s (len (c ∷ s) - 1) (no_further 1 (in_entries first len (len (c ∷ s) - 1) s) here.1)))
entries_weaker first other len weaker (c ∷ s) (suc n) none =
    ap (option_map (further 1)) (entries_weaker first other len weaker s n (no_further 1 (in_entries first len n s) none))

-- a payload is all there, and has none in its bytes
module _ (within : AMQPType → Search) (type : AMQPType) (b : List ℕ) where
  pub payload_there : in_payload within type b ≡ None → (raw_extent type b ≤ length b) × (within type (take (raw_extent type b) b) ≡ None)
  payload_there = elim (cases_lt (length b) (raw_extent type b)) [
    | inl cut ↦ rw (lt-ltb (length b) (raw_extent type b) cut) (λ none. absurd cc)
    | inr there ↦ rw (le-ltb (length b) (raw_extent type b) there) (λ none. (there, none))
  ]

  pub payload_right : raw_extent type b ≤ length b → within type (take (raw_extent type b) b) ≡ None → in_payload within type b ≡ None
  payload_right there none = rw (le-ltb (length b) (raw_extent type b) there) none

-- the problem in a value, by the type that its type tag denotes
abbrev pub tag_problem : (AMQPType → Search) → ℕ → List ℕ → Option AMQPType → Option Problem
tag_problem within c b o = elim o [ None ↦ Some (here (UnknownTag c)) | Some type ↦ in_payload within type b ]

-- a value has a type tag, and a payload without one
module _ (rules : Rules) (within : AMQPType → Search) (c : ℕ) (b : List ℕ) where
  pub value_there : in_value rules within (c ∷ b) ≡ None → (type : AMQPType) × (known rules c ≡ Some type) × (in_payload within type b ≡ None)
  value_there none = by (known rules c) refl none
    where
      by : (o : Option AMQPType) → known rules c ≡ o → tag_problem within c b o ≡ None → (type : AMQPType) × (known rules c ≡ Some type) × (in_payload within type b ≡ None)
      by None is none = absurd cc
      by (Some type) is none = (type, is, none)

  pub value_right : (type : AMQPType) → known rules c ≡ Some type → in_payload within type b ≡ None → in_value rules within (c ∷ b) ≡ None
  value_right type is none = ap (tag_problem within c b) is ∙ none

-- a pair has a key that is allowed, and a value without one
module _ (rules : Rules) (value : Search) (k : ℕ) (s : List ℕ) where
  pub pair_there : in_pair rules value (k ∷ s) ≡ None → (k ≤ length s) × (allow_key rules (take k s) ≡ true) × (value (drop k s) ≡ None)
  pair_there = elim (cases_lt (length s) k) [
    | inl cut ↦ rw (lt-ltb (length s) k cut) (λ none. absurd cc)
    | inr there ↦ rw (le-ltb (length s) k there) (by (allow_key rules (take k s)) refl there)
  ]
    where
      by : (yes : Bool) → allow_key rules (take k s) ≡ yes → k ≤ length s → (if yes then option_map (further (1 + k)) (value (drop k s)) else Some (here KeyNotUtf8)) ≡ None
          → (k ≤ length s) × (allow_key rules (take k s) ≡ true) × (value (drop k s) ≡ None)
      by true allowed there none = (there, allowed, no_further (1 + k) (value (drop k s)) none)
      by false allowed there none = absurd cc

  pub pair_right : k ≤ length s → allow_key rules (take k s) ≡ true → value (drop k s) ≡ None → in_pair rules value (k ∷ s) ≡ None
  pair_right there allowed none = rw (le-ltb (length s) k there, allowed, none) refl

-- a payload of fixed width has none, if numbers needn't be finite
pub no_fixed_problem : (rules : Rules) (d : ℕ) (type : AMQPType) (f : Layout) (b : List ℕ) → want_finite rules ≡ false → fixed type ≡ Some f → inside rules d type b ≡ None
no_fixed_problem rules d amqp.Float f b any row = rw any refl
no_fixed_problem rules d amqp.Double f b any row = rw any refl
no_fixed_problem rules d amqp.ShortString f b any row = absurd cc
no_fixed_problem rules d amqp.LongString f b any row = absurd cc
no_fixed_problem rules d amqp.ByteArray f b any row = absurd cc
no_fixed_problem rules d amqp.FieldArray f b any row = absurd cc
no_fixed_problem rules d amqp.FieldTable f b any row = absurd cc
no_fixed_problem rules d _ f b any row = refl

-- what has none within limits is no longer than they allow
pub within_limits : (rules : Rules) (l : Limits) (s : List ℕ) → problem_of rules l s ≡ None → (extent s ≤ l.frame) × (value_problem rules l.depth s ≡ None)
within_limits rules l s = elim (cases_lt l.frame (extent s)) [
  | inl exceeds ↦ rw (lt-ltb l.frame (extent s) exceeds) (λ none. absurd cc)
  | inr fits ↦ rw (le-ltb l.frame (extent s) fits) (λ none. (fits, none))
]

-- ---- weaker rules

-- the others know the same type tags, want floats to be finite if these do, and allow the keys that
-- these do
pub record AreWeaker (rules other : Rules) : Type 0 where
  pub tags : (c : ℕ) → known rules c ≡ known other c
  pub floats : want_finite rules ≡ want_finite other
  pub keys : (k : List ℕ) → allow_key rules k ≡ true → allow_key other k ≡ true

pub as_weak : (rules : Rules) → AreWeaker rules rules
as_weak rules = record { tags = λ c. refl; floats = refl; keys = λ k yes. yes }

any_keys_weaker : AreWeaker Reading AnyKeys
any_keys_weaker = record { tags = λ c. refl; floats = refl; keys = λ k yes. refl }

module _ (rules other : Rules) (w : AreWeaker rules other) where
  value_weaker : (within wider : AMQPType → Search) → ((type : AMQPType) (b : List ℕ) → within type b ≡ None → wider type b ≡ None)
      → (s : List ℕ) → in_value rules within s ≡ None → in_value other wider s ≡ None
  value_weaker within wider weaker [] none = absurd cc
  value_weaker within wider weaker (c ∷ b) none =
      let (type, is, right) = value_there rules within c b none in
      let there = payload_there within type b right in
      value_right other wider c b type (sym (w.tags c) ∙ is) (payload_right wider type b there.0 (weaker type (take (raw_extent type b) b) there.1))

  pair_weaker : (first wider : Search) → ((s : List ℕ) → first s ≡ None → wider s ≡ None) → (s : List ℕ) → in_pair rules first s ≡ None → in_pair other wider s ≡ None
  pair_weaker first wider weaker [] none = absurd cc
  pair_weaker first wider weaker (k ∷ s) none =
      let is = pair_there rules first k s none in
      pair_right other wider k s is.0 (w.keys (take k s) is.1) (weaker (drop k s) is.2)

  pub inside_weaker : (d e : ℕ) → d ≤ e → (type : AMQPType) (b : List ℕ) → inside rules d type b ≡ None → inside other e type b ≡ None
  inside_weaker d e deep amqp.Float b none = subst (λ (f : Bool). (if f && are_ones 23 8 (from_be_bytes w32 b) then Some (here NotFinite) else None) ≡ None) w.floats none
  inside_weaker d e deep amqp.Double b none = subst (λ (f : Bool). (if f && are_ones 52 11 (from_be_bytes w64 b) then Some (here NotFinite) else None) ≡ None) w.floats none
  inside_weaker zero e deep amqp.FieldArray b none = absurd cc
  inside_weaker zero e deep amqp.FieldTable b none = absurd cc
  inside_weaker (suc d) zero deep amqp.FieldArray b none = absurd (omega (arith, deep))
  inside_weaker (suc d) zero deep amqp.FieldTable b none = absurd (omega (arith, deep))
  inside_weaker (suc d) (suc e) deep amqp.FieldArray b none =
      ap (option_map (further 5))
      (entries_weaker (value_problem rules d) (value_problem other e) extent (value_weaker (inside rules d) (inside other e) (inside_weaker d e (omega (arith, deep)))) (drop 4 b) 0
      (no_further 5 (values_problem rules d (drop 4 b)) none))
  inside_weaker (suc d) (suc e) deep amqp.FieldTable b none =
      ap (option_map (further 5))
      (entries_weaker (pair_problem rules d) (pair_problem other e) pair_len
      (pair_weaker (value_problem rules d) (value_problem other e) (value_weaker (inside rules d) (inside other e) (inside_weaker d e (omega (arith, deep))))) (drop 4 b) 0
      (no_further 5 (pairs_problem rules d (drop 4 b)) none))
  inside_weaker d e deep _ b none = refl

pub none_of_any_keys : (l : Limits) (s : List ℕ) → problem_of Reading l s ≡ None → problem_of AnyKeys l s ≡ None
none_of_any_keys l s none =
    let (fits, right) = within_limits Reading l s none in
    rw (le-ltb l.frame (extent s) fits)
    (value_weaker Reading AnyKeys any_keys_weaker (inside Reading l.depth) (inside AnyKeys l.depth) (inside_weaker Reading AnyKeys any_keys_weaker l.depth l.depth (omega arith)) s right)
