-- `TableBodyRead`, what holds while `parse_table_body` reads: the entries so far, and what is left.
use Rattle.std.proofs.Common.{◌≡◌, ℕ, List, [], ◌∷◌, ◌++◌, refl, ◌<◌, ◌≤◌, length, sym, ◌∙◌, ap, subst, arith, length-append}
use Rattle.std.proofs.lemmas.List.{nil_from_length}
use Rattle.amqp_value_core.specs.declared.value.AMQPValue.{AMQPValue}
use Rattle.amqp_value_core.specs.Values.{Entries, Tree, short, no_entries, entry}
use Rattle.amqp_value_core.specs.Maps.{insert, insert_all, Mean}
use Rattle.amqp_value_core.specs.View.{view}
use Rattle.amqp_value_core.specs.Containers.{entries}
use Rattle.amqp_value_core.specs.declared.types.amqp_type.AMQPType.TheVariants as amqp
use Rattle.amqp_value_core.specs.Bytes.{IsShort}
use Rattle.amqp_value_core.specs.Grammar.{short_field, Wire, Raw, raw_short, TableBody, no_pairs, pair}
use Rattle.amqp_value_core.specs.Nesting.{PairsWithin, within_no_pairs, within_pair, OutcomeWithin}
use Rattle.amqp_value_core.specs.Outcomes.{Reading, found, more, unknown, malformed, Heavy, RawOutcome}
use Rattle.amqp_value_core.proofs.GrammarLaws.{wire_of, pairs_of, one_key, one_reading, one_outcome_within, one_raw_outcome, raw_found, wire_found_within, prefix_within, put_mean}
use Rattle.amq_protocol_types.specs.declared.parsing.errors.Err.TheVariants.{Incomplete, Error, Failure}
use Rattle.amq_protocol_types.specs.declared.parsing.errors.Needed.TheVariants.{Unknown, Size}
use Rattle.amq_protocol_types.specs.declared.parsing.errors.ErrorKind.TheVariants.{MapOpt, MapRes, Eof, OutOfMemory, TooLarge}
use Rattle.amq_protocol_types.specs.parsing.Refusals.{Refusal, inside}
use Rattle.amq_protocol_types.specs.parsing.ParseResults.{IsRefusal}
use Rattle.amq_protocol_types.specs.parsing.PayloadResults.{RawRefuses}
use Rattle.amq_protocol_types.specs.parsing.Bodies.{IsTable, IsNoTable}
use Rattle.amq_protocol_types.proofs.ArrayBodies.{rest_shorter}

-- one pair more is inserted into what the others result in
pub one_more : (ps : List (List ℕ × AMQPValue)) (es : Entries) (k : List ℕ) (v : AMQPValue) → insert_all es (entries (ps ++ (k, v) ∷ [])) ≡ insert k (view v) (insert_all es (entries ps))
one_more [] es k v = refl
one_more (p ∷ ps) es k v = one_more ps (insert p.0 (view p.1) es) k v

-- es are the entries of what was read of the body s, and `rest` is left
pub record TableBodyRead (d : ℕ) (s : List ℕ) (es : Entries) (rest : List ℕ) : Type 0 where
  -- the pairs of what is left, inserted into those entries, are what the body's pairs result in
  pub whole : (ps : Entries) → PairsWithin d rest ps → (qs : Entries) × PairsWithin d s qs × (insert_all es ps ≡ insert_all no_entries qs)
  -- what is left has pairs if the body has
  pub only : (qs : Entries) → PairsWithin d s qs → (ps : Entries) × PairsWithin d rest ps
  pub shorter : length rest ≤ length s

-- a key that is read is at the start
key_of : (b k : List ℕ) → Raw amqp.ShortString b (short k) → (b ≡ short_field k) × IsShort k
key_of _ _ (raw_short s is) = (refl, is)

key_at_start : (s k rest : List ℕ) → RawOutcome amqp.ShortString s (found (short k) rest) → (s ≡ short_field k ++ rest) × IsShort k
key_at_start s k rest x =
    let key = key_of x.0 k x.1 in
    (x.2 ∙ ap (λ (b : List ℕ). b ++ rest) key.0, key.1)

-- what is left after a key is shorter
pub key_shorter : (s k rest : List ℕ) → RawOutcome amqp.ShortString s (found (short k) rest) → length rest < length s
key_shorter s k rest x =
    let f = key_at_start s k rest x in
    omega (arith, ap length f.0, length-append k rest)

-- pairs that aren't empty begin with a key that is read
no_key : (s : List ℕ) (ps : Entries) (o : Reading) → RawOutcome amqp.ShortString s o → ((v : Tree) (rest : List ℕ) → o ≡ found v rest → ⊥)
    → 0 < length s → TableBody s ps → ⊥
no_key _ _ o x other h no_pairs = absurd (omega arith)
no_key _ _ o x other h (pair k w left v ps is p all) =
    other (short k) (w ++ left)
    (one_raw_outcome amqp.ShortString (short_field k ++ (w ++ left)) o (found (short k) (w ++ left)) x
    (raw_found amqp.ShortString (short_field k) (w ++ left) (short k) (raw_short k is)))

-- and after it a value that is read
no_value : (d : ℕ) (s k after : List ℕ) (ps : Entries) (o : Reading) → s ≡ short_field k ++ after → OutcomeWithin d after o
    → ((v : Tree) (rest : List ℕ) → o ≡ found v rest → ⊥) → PairsWithin d s ps → ⊥
no_value _ _ k after _ o e x other (within_no_pairs d) = absurd cc
no_value _ _ k after _ o e x other (within_pair d j w left v ps at p all) =
    let rest : after ≡ w ++ left = (one_key k j after (w ++ left) (sym e)).1 in
    other v left (one_outcome_within d after o (found v left) x (subst (λ (t : List ℕ). OutcomeWithin d t (found v left)) (sym rest) (wire_found_within d w left v p)))

-- after the first pair are pairs
pairs_after : (d : ℕ) (s k w rest : List ℕ) (v : Tree) (ps : Entries) → Wire w v → s ≡ short_field k ++ (w ++ rest) → PairsWithin d s ps
    → (qs : Entries) × PairsWithin d rest qs
pairs_after _ _ k w rest v _ p e (within_no_pairs d) = absurd cc
pairs_after _ _ k w rest v _ p e (within_pair d j u left z ps at q all) =
    let after : w ++ rest ≡ u ++ left = (one_key k j (w ++ rest) (u ++ left) (sym e)).1 in
    let same = one_reading w u rest left v z p (wire_of d u z q) after in
    (ps, subst (λ (t : List ℕ). PairsWithin d t ps) (sym same.2) all)

-- before the first pair
pub TableBodyRead-start : (d : ℕ) (s : List ℕ) → TableBodyRead d s no_entries s
TableBodyRead-start d s = record { whole = λ ps p. (ps, p, refl); only = λ qs p. (qs, p); shorter = omega arith }

-- after one pair more
pub TableBodyRead-step : (d : ℕ) (s : List ℕ) (es : Entries) (left k after : List ℕ) (v : Tree) (rest : List ℕ) → TableBodyRead d s es left
    → RawOutcome amqp.ShortString left (found (short k) after) → OutcomeWithin d after (found v rest) → TableBodyRead d s (insert k v es) rest
TableBodyRead-step d s es left k after v rest g x y =
    let key = key_at_start left k after x in
    let f = prefix_within d after rest v y in
    let all : left ≡ short_field k ++ (f.0 ++ rest) = key.0 ∙ ap (λ (t : List ℕ). short_field k ++ t) f.2 in
    record {
      whole = λ ps p. g.whole (entry k v ps) (subst (λ (t : List ℕ). PairsWithin d t (entry k v ps)) (sym all) (within_pair d k f.0 rest v ps key.1 f.1 p));
      only = λ qs p. let m = g.only qs p in pairs_after d left k f.0 rest v m.0 (wire_of d f.0 v f.1) all m.1;
      shorter = omega (arith, g.shorter, key_shorter left k after x, rest_shorter d after v rest y);
    }

-- after the last pair
pub TableBodyRead-end : (d : ℕ) (s : List ℕ) (es : Entries) (rest : List ℕ) → TableBodyRead d s es rest → length rest ≡ 0 → IsTable d s es
TableBodyRead-end d s es rest g e =
    let r = g.whole no_entries (subst (λ (t : List ℕ). PairsWithin d t no_entries) (sym (nil_from_length rest e)) (within_no_pairs d)) in
    (r.0, r.1, subst (Mean r.0) (sym r.2) (put_mean r.0))

-- if a key can't be read there are no pairs
stuck_at_key : (d : ℕ) (s : List ℕ) (es : Entries) (rest : List ℕ) (o : Reading) → TableBodyRead d s es rest → 0 < length rest → RawOutcome amqp.ShortString rest o
    → ((v : Tree) (left : List ℕ) → o ≡ found v left → ⊥) → IsNoTable d s malformed
stuck_at_key d s es rest o g h x other = λ qs p. let m = g.only qs p in no_key rest m.0 o x other h (pairs_of d rest m.0 m.1)

-- the error of a key, for the table round it
pub TableBodyRead-bad_key : (d : ℕ) (s : List ℕ) (es : Entries) (rest : List ℕ) (e : Refusal) → TableBodyRead d s es rest → 0 < length rest
    → RawRefuses amqp.ShortString rest e → IsRefusal (IsNoTable d s) (0 < length s) (inside e)
TableBodyRead-bad_key d s es rest (Incomplete Unknown) g h x = absurd x
TableBodyRead-bad_key d s es rest (Incomplete (Size n)) g h x = stuck_at_key d s es rest (more n) g h x (λ v left e. cc)
TableBodyRead-bad_key d s es rest (Error k) g h x = stuck_at_key d s es rest malformed g h x.1 (λ v left e. cc)
TableBodyRead-bad_key d s es rest (Failure k) g h x = (x.0, omega (arith, g.shorter))

-- if a value can't be read after its key there are no pairs
stuck_at_value : (d : ℕ) (s : List ℕ) (es : Entries) (rest k after : List ℕ) (o : Reading) → TableBodyRead d s es rest
    → RawOutcome amqp.ShortString rest (found (short k) after) → OutcomeWithin d after o
    → ((v : Tree) (left : List ℕ) → o ≡ found v left → ⊥) → IsNoTable d s malformed
stuck_at_value d s es rest k after o g x y other = λ qs p.
    let m = g.only qs p in
    let key = key_at_start rest k after x in
    no_value d rest k after m.0 o key.0 y other m.1

-- the error of a value, for the table round it
pub TableBodyRead-bad_value : (d : ℕ) (s : List ℕ) (es : Entries) (rest k after : List ℕ) (e : Refusal) → TableBodyRead d s es rest
    → RawOutcome amqp.ShortString rest (found (short k) after) → IsRefusal (OutcomeWithin d after) (Heavy after) e
    → IsRefusal (IsNoTable d s) (0 < length s) (inside e)
TableBodyRead-bad_value d s es rest k after (Incomplete Unknown) g x y = absurd y
TableBodyRead-bad_value d s es rest k after (Incomplete (Size n)) g x y = stuck_at_value d s es rest k after (more n) g x y (λ v left e. cc)
TableBodyRead-bad_value d s es rest k after (Error MapOpt) g x y = stuck_at_value d s es rest k after unknown g x y (λ v left e. cc)
TableBodyRead-bad_value d s es rest k after (Error Eof) g x y = stuck_at_value d s es rest k after malformed g x y (λ v left e. cc)
TableBodyRead-bad_value d s es rest k after (Error MapRes) g x y = absurd y
TableBodyRead-bad_value d s es rest k after (Error OutOfMemory) g x y = absurd y
TableBodyRead-bad_value d s es rest k after (Error TooLarge) g x y = absurd y
TableBodyRead-bad_value d s es rest k after (Failure f) g x y = (y.0, omega (arith, g.shorter, key_shorter rest k after x))
