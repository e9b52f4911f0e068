-- `IsFreeOfProblems`, which the loops of src/problems.rt keep: the entries so far have no problem.
-- Also the first problem in a payload.
use Rattle.std.proofs.Common.{◌≡◌, ◌<◌, ◌≤◌, ◌+◌, ◌-◌, ℕ, zero, suc, Option, Some, None, List, [], ◌∷◌, length, take, drop, Bool, true, false, nat_lt, refl, sym, ap, ◌∙◌, arith}
use Rattle.std.specs.Prelude.{option_map, if◌then◌else◌, Result, Ok, Err, MatchResult, is_ok}
use Rattle.std.specs.Str.{IsUtf8, is_utf8}
use Rattle.std.proofs.lemmas.Str.{IsUtf8-from_is_utf8, is_utf8-from_IsUtf8}
use Rattle.std.specs.Option.{IfSome}
use Rattle.std.specs.Int.{Width, byte_len}
use Rattle.std.proofs.lemmas.Bool.{le-ltb}
use Rattle.std.proofs.lemmas.List.{take_all, length-drop, drop-drop, drop_all}
use Rattle.amqp_value_core.specs.declared.types.amqp_type.AMQPType.{AMQPType}
use Rattle.amqp_value_core.specs.declared.types.amqp_type.AMQPType.TheVariants as amqp
use Rattle.amqp_value_core.specs.Layouts.{Layout, fixed}
use Rattle.amqp_value_core.specs.Outcomes.{length_field, counted}
use Rattle.amqp_value_core.proofs.GrammarLaws.{first_within}
use Rattle.amq_protocol_types.specs.parsing.Headers.{extent, extent_of, raw_extent, first_of}
use Rattle.amqp_in_place.specs.declared.problems.Problem.{Problem}
use Rattle.amqp_in_place.specs.declared.problems.Rules.{Rules}
use Rattle.amqp_in_place.specs.Problems.{Search, further, in_entries, in_payload, in_value, in_pair, pair_len, inside}

-- two steps further on are one
further_twice : (m n : ℕ) (x : Option Problem) → option_map (further m) (option_map (further n) x) ≡ option_map (further (m + n)) x
further_twice m n None = refl
further_twice m n (Some p) = ap (λ (k : ℕ). Some (record { offset = k; kind = p.kind })) (omega arith)

further_again : (n : ℕ) (x : Option Problem) → option_map (further 1) (option_map (further n) x) ≡ option_map (further (suc n)) x
further_again n None = refl
further_again n (Some p) = ap (λ (k : ℕ). Some (record { offset = k; kind = p.kind })) (omega arith)

further_none : (x : Option Problem) → option_map (further 0) x ≡ x
further_none None = refl
further_none (Some p) = ap (λ (k : ℕ). Some (record { offset = k; kind = p.kind })) (omega arith)

-- a length field is there in what is counted
pub counted_there : (w : Width) (b : List ℕ) → byte_len w ≤ extent_of None w b
counted_there w b = by (nat_lt (length b) (byte_len w))
  where
    by : (less : Bool) → byte_len w ≤ (if less then byte_len w else byte_len w + counted w b)
    by true = omega arith
    by false = omega arith

-- a slice of all that is after n bytes
pub left_over : (n : ℕ) (s : List ℕ) → take (length s - n) (drop n s) ≡ drop n s
left_over n s = take_all (length s - n) (drop n s) (omega (arith, length-drop n s))

module _ (first : Search) (len : List ℕ → ℕ) where
  -- what is left of an entry is passed over
  passed_over : (n : ℕ) (s : List ℕ) → in_entries first len n s ≡ option_map (further n) (in_entries first len 0 (drop n s))
  passed_over zero s = sym (further_none (in_entries first len 0 s))
  passed_over (suc n) [] = refl
  passed_over (suc n) (c ∷ s) = ap (option_map (further 1)) (passed_over n s) ∙ further_again n (in_entries first len 0 (drop n s))

  -- after an entry without a problem the first one is that of the entries after it
  pub entry_passed : (s : List ℕ) (n : ℕ) → first s ≡ None → n ≡ len s → 0 < n → n ≤ length s
      → in_entries first len 0 s ≡ option_map (further n) (in_entries first len 0 (drop n s))
  entry_passed [] n none is some most = absurd (omega (arith, some, most))
  entry_passed (c ∷ s) zero none is some most = absurd (omega (arith, some))
  entry_passed (c ∷ s) (suc n) none is some most =
      let e : len (c ∷ s) - 1 ≡ n = omega (arith, is) in
      rw (none, e) (ap (option_map (further 1)) (passed_over n s) ∙ further_again n (in_entries first len 0 (drop n s)))

  pub entry_stops : (s : List ℕ) (p : Problem) → 0 < length s → first s ≡ Some p → in_entries first len 0 s ≡ Some p
  entry_stops [] p some found = absurd (omega (arith, some))
  entry_stops (c ∷ s) p some found = rw found refl

  -- the first n bytes of s are entries without a problem
  pub record IsFreeOfProblems (s : List ℕ) (n : ℕ) : Type 0 where
    pub within : n ≤ length s
    pub same : in_entries first len 0 s ≡ option_map (further n) (in_entries first len 0 (drop n s))

  pub IsFreeOfProblems-start : (s : List ℕ) → IsFreeOfProblems s 0
  IsFreeOfProblems-start s = record { within = omega arith; same = sym (further_none (in_entries first len 0 s)) }

  pub IsFreeOfProblems-step : (s t : List ℕ) (n m : ℕ) → IsFreeOfProblems s n → t ≡ drop n s → first t ≡ None → m ≡ len t → 0 < m → m ≤ length t → IsFreeOfProblems s (n + m)
  IsFreeOfProblems-step s t n m at e none is some most = record {
    within = omega (arith, at.within, most, ap length e, length-drop n s);
    same =
        let more : in_entries first len 0 (drop n s) ≡ option_map (further m) (in_entries first len 0 (drop (n + m) s)) =
        ap (in_entries first len 0) (sym e) ∙ (entry_passed t m none is some most ∙ ap (λ u. option_map (further m) (in_entries first len 0 u)) (ap (drop m) e ∙ drop-drop m n s)) in
        at.same ∙ (ap (option_map (further n)) more ∙ further_twice n m (in_entries first len 0 (drop (n + m) s)));
  }

  -- likewise if the bytes that are left are taken as a slice
  pub IsFreeOfProblems-next : (s : List ℕ) (n m : ℕ) → IsFreeOfProblems s n → first (take (length s - n) (drop n s)) ≡ None → m ≡ len (take (length s - n) (drop n s))
      → 0 < m → m ≤ length (take (length s - n) (drop n s)) → IsFreeOfProblems s (n + m)
  IsFreeOfProblems-next s n m at = IsFreeOfProblems-step s (take (length s - n) (drop n s)) n m at (left_over n s)

  pub IsFreeOfProblems-stop : (s t : List ℕ) (n : ℕ) (p : Problem) → IsFreeOfProblems s n → t ≡ drop n s → 0 < length t → first t ≡ Some p → in_entries first len 0 s ≡ Some (further n p)
  IsFreeOfProblems-stop s t n p at e some found =
      at.same ∙ ap (option_map (further n)) (ap (in_entries first len 0) (sym e) ∙ entry_stops t p some found)

  pub IsFreeOfProblems-end : (s : List ℕ) (n : ℕ) → IsFreeOfProblems s n → length s ≤ n → in_entries first len 0 s ≡ None
  IsFreeOfProblems-end s n at all = at.same ∙ ap (λ t. option_map (further n) (in_entries first len 0 t)) (drop_all n s all)

-- a payload has at least the bytes of its first field
pub first_there : (type : AMQPType) (b : List ℕ) → first_of (fixed type) (length_field type) ≤ raw_extent type b
first_there type b = by (fixed type) (first_within type)
  where
    by : (o : Option Layout) → IfSome o (λ f. f.first ≤ f.width) → first_of o (length_field type) ≤ extent_of o (length_field type) b
    by (Some f) within = within
    by None within = counted_there (length_field type) b

-- a payload that is all there has the problem that is in its bytes, if there is one
pub payload_there : (within : AMQPType → Search) (type : AMQPType) (b : List ℕ) (n : ℕ) → n ≡ raw_extent type b → n ≤ length b
    → within type (take n b) ≡ in_payload within type b
payload_there within type b n is most = rw (is, le-ltb (length b) (raw_extent type b) (omega (arith, is, most))) refl

-- and in a container that is in its entries, which begin five bytes after the type tag
pub array_inside : (r : Rules) (depth : ℕ) (type : AMQPType) (b : List ℕ) (x : Option Problem) → type ≡ amqp.FieldArray → 0 < depth
    → x ≡ in_entries (in_value r (inside r (depth - 1))) extent 0 (take (length b - 4) (drop 4 b)) → option_map (further 5) x ≡ inside r depth type b
array_inside r zero type b x is some e = absurd (omega (arith, some))
array_inside r (suc depth) type b x is some e =
    let less : suc depth - 1 ≡ depth = omega arith in
    rw (is, e, less, left_over 4 b) refl

pub table_inside : (r : Rules) (depth : ℕ) (type : AMQPType) (b : List ℕ) (x : Option Problem) → type ≡ amqp.FieldTable → 0 < depth
    → x ≡ in_entries (in_pair r (in_value r (inside r (depth - 1)))) pair_len 0 (take (length b - 4) (drop 4 b)) → option_map (further 5) x ≡ inside r depth type b
table_inside r zero type b x is some e = absurd (omega (arith, some))
table_inside r (suc depth) type b x is some e =
    let less : suc depth - 1 ≡ depth = omega arith in
    rw (is, e, less, left_over 4 b) refl

-- a check of whether bytes are UTF-8
pub checked_utf8 : {E : Type 0} (k : List ℕ) (r : Result (Unit {0}) E) → MatchResult r (λ x. IsUtf8 k) (λ x. IsUtf8 k → ⊥) → is_ok r ≡ is_utf8 k
checked_utf8 k (Ok x) good = sym (is_utf8-from_IsUtf8 k good)
checked_utf8 k (Err x) bad = by (is_utf8 k) refl
  where
    by : (yes : Bool) → is_utf8 k ≡ yes → false ≡ yes
    by true is = absurd (bad (IsUtf8-from_is_utf8 k is))
    by false is = refl
