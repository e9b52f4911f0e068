-- `ArrayBodyRead`, what holds while `parse_array_body` reads: the values so far, and what is left.
use Rattle.std.proofs.Common.{◌≡◌, ◌<◌, ◌≤◌, ℕ, List, [], ◌∷◌, ◌++◌, length, refl, sym, ap, subst, arith, length-append}
use Rattle.std.proofs.lemmas.List.{nil_from_length}
use Rattle.amqp_value_core.specs.Values.{Tree, Trees, no_trees, tree, trees_of}
use Rattle.amqp_value_core.specs.Grammar.{Wire}
use Rattle.amqp_value_core.specs.Nesting.{BodyWithin, within_no_values, within_value, OutcomeWithin}
use Rattle.amqp_value_core.specs.Outcomes.{Reading, found, more, unknown, malformed, Heavy}
use Rattle.amqp_value_core.proofs.GrammarLaws.{wire_of, length-wire, one_reading, one_outcome_within, wire_found_within, prefix_within}
use Rattle.amq_protocol_types.specs.declared.parsing.errors.Err.TheVariants.{Incomplete, Error, Failure}
use Rattle.amq_protocol_types.specs.declared.parsing.errors.Needed.TheVariants.{Unknown, Size}
use Rattle.amq_protocol_types.specs.declared.parsing.errors.ErrorKind.TheVariants.{MapOpt, MapRes, Eof, OutOfMemory, TooLarge}
use Rattle.amq_protocol_types.specs.parsing.Refusals.{Refusal, inside}
use Rattle.amq_protocol_types.specs.parsing.ParseResults.{IsRefusal}
use Rattle.amq_protocol_types.specs.parsing.Bodies.{IsNoBody}

-- the values of a list, and others after them
abbrev pub after : List Tree → Trees → Trees
after [] vs = vs
after (x ∷ xs) vs = tree x (after xs vs)

-- values xs are read of the body s, and `rest` is left
pub record ArrayBodyRead (d : ℕ) (s : List ℕ) (xs : List Tree) (rest : List ℕ) : Type 0 where
  -- the values of what is left, after those, are the values of the body
  pub whole : (vs : Trees) → BodyWithin d rest vs → BodyWithin d s (after xs vs)
  -- what is left has values if the body has
  pub only : (vs : Trees) → BodyWithin d s vs → (more : Trees) × BodyWithin d rest more
  pub shorter : length rest ≤ length s

-- one value more
after-push : (xs : List Tree) (v : Tree) (vs : Trees) → after (xs ++ v ∷ []) vs ≡ after xs (tree v vs)
after-push [] v vs = refl
after-push (x ∷ xs) v vs = ap (tree x) (after-push xs v vs)

-- no value more
after-nothing : (xs : List Tree) → after xs no_trees ≡ trees_of xs
after-nothing [] = refl
after-nothing (x ∷ xs) = ap (tree x) (after-nothing xs)

-- a body that isn't empty begins with a value
body_found : (d : ℕ) (s : List ℕ) (vs : Trees) → BodyWithin d s vs → 0 < length s → (v : Tree) × (rest : List ℕ) × OutcomeWithin d s (found v rest)
body_found _ _ _ (within_no_values d) h = absurd (omega arith)
body_found _ _ _ (within_value d w left v vs p all) h = (v, left, wire_found_within d w left v p)

-- what else a body results in that isn't empty has no values
no_body : (d : ℕ) (s : List ℕ) (vs : Trees) (o : Reading) → OutcomeWithin d s o → ((v : Tree) (rest : List ℕ) → o ≡ found v rest → ⊥) → 0 < length s → BodyWithin d s vs → ⊥
no_body d s vs o x other h p =
    let f = body_found d s vs p h in
    other f.0 f.1 (one_outcome_within d s o (found f.0 f.1) x f.2)

-- after the first value of a body is a body
body_after : (d : ℕ) (s w rest : List ℕ) (v : Tree) (vs : Trees) → s ≡ w ++ rest → Wire w v → BodyWithin d s vs → (more : Trees) × BodyWithin d rest more
body_after _ _ w rest v _ e p (within_no_values d) = let h = length-wire w v p in absurd (omega (arith, ap length e, length-append w rest))
body_after _ _ w rest v _ e p (within_value d u left z vs q all) =
    let same = one_reading u w left rest z v (wire_of d u z q) p e in
    (vs, subst (λ (t : List ℕ). BodyWithin d t vs) same.2 all)

-- what is left after a value is shorter
pub rest_shorter : (d : ℕ) (s : List ℕ) (v : Tree) (rest : List ℕ) → OutcomeWithin d s (found v rest) → length rest < length s
rest_shorter d s v rest x =
    let f = prefix_within d s rest v x in
    omega (arith, ap length f.2, length-append f.0 rest, length-wire f.0 v (wire_of d f.0 v f.1))

-- before the first value
pub ArrayBodyRead-start : (d : ℕ) (s : List ℕ) → ArrayBodyRead d s [] s
ArrayBodyRead-start d s = record { whole = λ vs p. p; only = λ vs p. (vs, p); shorter = omega arith }

-- after one value more
pub ArrayBodyRead-step : (d : ℕ) (s : List ℕ) (xs : List Tree) (left : List ℕ) (v : Tree) (rest : List ℕ) → ArrayBodyRead d s xs left → OutcomeWithin d left (found v rest)
    → ArrayBodyRead d s (xs ++ v ∷ []) rest
ArrayBodyRead-step d s xs left v rest g x =
    let f = prefix_within d left rest v x in
    record {
      whole = λ vs p.
          subst (BodyWithin d s) (sym (after-push xs v vs))
          (g.whole (tree v vs) (subst (λ (t : List ℕ). BodyWithin d t (tree v vs)) (sym f.2) (within_value d f.0 rest v vs f.1 p)));
      only = λ vs p. let m = g.only vs p in body_after d left f.0 rest v m.0 f.2 (wire_of d f.0 v f.1) m.1;
      shorter = omega (arith, g.shorter, rest_shorter d left v rest x);
    }

-- after the last value
pub ArrayBodyRead-end : (d : ℕ) (s : List ℕ) (xs : List Tree) (rest : List ℕ) → ArrayBodyRead d s xs rest → length rest ≡ 0 → BodyWithin d s (trees_of xs)
ArrayBodyRead-end d s xs rest g e =
    subst (BodyWithin d s) (after-nothing xs)
    (g.whole no_trees (subst (λ (t : List ℕ). BodyWithin d t no_trees) (sym (nil_from_length rest e)) (within_no_values d)))

-- if a value can't be read there are no values
ArrayBodyRead-stuck : (d : ℕ) (s : List ℕ) (xs : List Tree) (rest : List ℕ) (o : Reading) → ArrayBodyRead d s xs rest → 0 < length rest → OutcomeWithin d rest o
    → ((v : Tree) (left : List ℕ) → o ≡ found v left → ⊥) → IsNoBody d s malformed
ArrayBodyRead-stuck d s xs rest o g h x other = λ vs p. let m = g.only vs p in no_body d rest m.0 o x other h m.1

-- the error of a value, for the array round it
pub ArrayBodyRead-refused : (d : ℕ) (s : List ℕ) (xs : List Tree) (rest : List ℕ) (e : Refusal) → ArrayBodyRead d s xs rest → 0 < length rest
    → IsRefusal (OutcomeWithin d rest) (Heavy rest) e → IsRefusal (IsNoBody d s) (0 < length s) (inside e)
ArrayBodyRead-refused d s xs rest (Incomplete Unknown) g h x = absurd x
ArrayBodyRead-refused d s xs rest (Incomplete (Size n)) g h x = ArrayBodyRead-stuck d s xs rest (more n) g h x (λ v left e. cc)
ArrayBodyRead-refused d s xs rest (Error MapOpt) g h x = ArrayBodyRead-stuck d s xs rest unknown g h x (λ v left e. cc)
ArrayBodyRead-refused d s xs rest (Error Eof) g h x = ArrayBodyRead-stuck d s xs rest malformed g h x (λ v left e. cc)
ArrayBodyRead-refused d s xs rest (Error MapRes) g h x = absurd x
ArrayBodyRead-refused d s xs rest (Error OutOfMemory) g h x = absurd x
ArrayBodyRead-refused d s xs rest (Error TooLarge) g h x = absurd x
ArrayBodyRead-refused d s xs rest (Failure k) g h x = (x.0, omega (arith, g.shorter))
