-- `measure_value`: values and levels are counted entry by entry (`ValuesSoFar`, `PairsSoFar`), as
-- they are written, and are never more than the bytes.
use Rattle.std.proofs.Common.{◌≡◌, ◌<◌, ◌≤◌, ◌+◌, ◌-◌, ◌^◌, ℕ, suc, max, List, ◌++◌, length, drop, None, refl, sym, ap, ◌∙◌, subst, arith, length-append}
use Rattle.std.proofs.Math.Logic.{∥∥₁_elim}
use Rattle.std.specs.Coded.{le_prop}
use Rattle.std.proofs.lemmas.List.{drop_at}
use Rattle.amqp_value_core.specs.declared.types.amqp_type.AMQPType.{AMQPType}
use Rattle.amqp_value_core.specs.Values.{Tree, Trees, no_trees, tree, Entries, no_entries, entry, count, depth, count_all, greatest_depth, entries_count, entries_depth}
use Rattle.amqp_value_core.specs.Grammar.{short_field, long_field, Wire, wire, Raw, raw_fixed, raw_short, raw_long, raw_octets, raw_array, raw_table, ArrayBody, no_values, value, TableBody, no_pairs, pair}
use Rattle.amqp_value_core.proofs.GrammarLaws.{mean_within, one_key}
use Rattle.amqp_in_place.specs.declared.refs.ArrayRef.{ArrayRef}
use Rattle.amqp_in_place.specs.declared.refs.TableRef.{TableRef}
use Rattle.amqp_in_place.specs.declared.refs.ValueRef.{ValueRef}
use Rattle.amqp_in_place.specs.declared.refs.ValueRef.TheVariants as at
use Rattle.amqp_in_place.specs.Refs.{array_body, table_body}
use Rattle.amqp_in_place.specs.Bodies.{HasValues, HasPairs}
use Rattle.amqp_in_place.specs.InPlaceResults.{IsLeft}
use Rattle.amqp_in_place.specs.Places.{IsViewIn, IsPairViewIn}
use Rattle.amqp_in_place.specs.Lookups.{content}
use Rattle.amqp_in_place.specs.Walks.{NextValueIs, NextPairIs}
use Rattle.amqp_in_place.specs.Written.{written, raw_written, values_written, pairs_written, WrittenValues, WrittenPairs, IsWrittenAs, OfEncoding, HoldsValue, HoldsValues, HoldsPairs}
use Rattle.amqp_in_place.proofs.Views.{stands}

-- ---- how large what is written is

-- next to its tree, and to its encoding of that many bytes: at least one for each value
record WrittenWithin (bytes tree_count tree_depth values levels : ℕ) : Type 0 where
  pub fits : values ≤ bytes
  pub more_values : tree_count ≤ values
  pub more_levels : tree_depth ≤ levels
  pub few_levels : levels ≤ values

one_value : (n : ℕ) → WrittenWithin (suc n) 1 0 1 0
one_value n = record { fits = omega arith; more_values = omega arith; more_levels = omega arith; few_levels = omega arith }

mutual
  written_within : (w : List ℕ) (v : Tree) (p : Wire w v) → WrittenWithin (length w) (count v) (depth v) (count (written w v p)) (depth (written w v p))
  written_within _ _ (wire c type b v is raw) = raw_written_within type b v raw

  raw_written_within : (type : AMQPType) (b : List ℕ) (v : Tree) (p : Raw type b v) → WrittenWithin (suc (length b)) (count v) (depth v) (count (raw_written type b v p)) (depth (raw_written type b v p))
  raw_written_within _ _ _ (raw_fixed type f b is wide) = one_value (length b)
  raw_written_within _ _ _ (raw_short s is) = one_value (length (short_field s))
  raw_written_within _ _ _ (raw_long s fits) = one_value (length (long_field s))
  raw_written_within _ _ _ (raw_octets s fits) = one_value (length (long_field s))
  raw_written_within _ _ _ (raw_array body vs fits all) =
      let h = values_written_within body vs all in
      record { fits = omega (arith, h.fits); more_values = omega (arith, h.more_values); more_levels = omega (arith, h.more_levels); few_levels = omega (arith, h.few_levels) }
  raw_written_within _ _ _ (raw_table body ps es fits all mean) =
      let h = pairs_written_within body ps all in
      let m = mean_within ps es mean in
      record { fits = omega (arith, h.fits); more_values = omega (arith, h.more_values, m.count); more_levels = omega (arith, h.more_levels, m.depth); few_levels = omega (arith, h.few_levels) }

  values_written_within : (body : List ℕ) (vs : Trees) (p : ArrayBody body vs)
      → WrittenWithin (length body) (count_all vs) (greatest_depth vs) (count_all (values_written body vs p)) (greatest_depth (values_written body vs p))
  values_written_within _ _ no_values = record { fits = omega arith; more_values = omega arith; more_levels = omega arith; few_levels = omega arith }
  values_written_within _ _ (value w rest v vs first others) =
      let f = written_within w v first in
      let o = values_written_within rest vs others in
      record {
        fits = omega (arith, length-append w rest, f.fits, o.fits);
        more_values = omega (arith, f.more_values, o.more_values);
        more_levels = omega (arith, f.more_levels, o.more_levels);
        few_levels = omega (arith, f.few_levels, o.few_levels);
      }

  pairs_written_within : (body : List ℕ) (ps : Entries) (p : TableBody body ps)
      → WrittenWithin (length body) (entries_count ps) (entries_depth ps) (entries_count (pairs_written body ps p)) (entries_depth (pairs_written body ps p))
  pairs_written_within _ _ no_pairs = record { fits = omega arith; more_values = omega arith; more_levels = omega arith; few_levels = omega arith }
  pairs_written_within _ _ (pair k w rest v ps key first others) =
      let f = written_within w v first in
      let o = pairs_written_within rest ps others in
      record {
        fits = omega (arith, length-append k (w ++ rest), length-append w rest, f.fits, o.fits);
        more_values = omega (arith, f.more_values, o.more_values);
        more_levels = omega (arith, f.more_levels, o.more_levels);
        few_levels = omega (arith, f.few_levels, o.few_levels);
      }

-- so few values and levels are in a body
pub values_few : (s : List ℕ) (n l : ℕ) → HoldsValues s n l → ∥ HasValues s ∥₁ → (n ≤ length s) × (l ≤ length s)
values_few s n l h has = (∥∥₁_elim has le_prop (λ (p : HasValues s). (by p).0), ∥∥₁_elim has le_prop (λ (p : HasValues s). (by p).1))
  where
    by : HasValues s → (n ≤ length s) × (l ≤ length s)
    by (vs, p) =
        let is = h (values_written s vs p) (vs, p, refl) in
        let less = values_written_within s vs p in
        (omega (arith, is.0, less.fits), omega (arith, is.1, less.few_levels, less.fits))

pub pairs_few : (s : List ℕ) (n l : ℕ) → HoldsPairs s n l → ∥ HasPairs s ∥₁ → (n ≤ length s) × (l ≤ length s)
pairs_few s n l h has = (∥∥₁_elim has le_prop (λ (p : HasPairs s). (by p).0), ∥∥₁_elim has le_prop (λ (p : HasPairs s). (by p).1))
  where
    by : HasPairs s → (n ≤ length s) × (l ≤ length s)
    by (ps, p) =
        let is = h (pairs_written s ps p) (ps, p, refl) in
        let less = pairs_written_within s ps p in
        (omega (arith, is.0, less.fits), omega (arith, is.1, less.few_levels, less.fits))

-- ---- a value

-- what is no container is one value
pub plain_holds : (r : ValueRef) → ((a : ArrayRef) → r ≡ at.FieldArray a → ⊥) → ((t : TableRef) → r ≡ at.FieldTable t → ⊥) → HoldsValue r 1 0
plain_holds (at.FieldArray a) no_array no_table = absurd (no_array a refl)
plain_holds (at.FieldTable t) no_array no_table = absurd (no_table t refl)
plain_holds _ no_array no_table = λ t e. (ap count e, ap depth e)

-- a container is one more than what is in its body
pub array_holds : (r : ValueRef) (a : ArrayRef) (s : List ℕ) (n l m k : ℕ) → r ≡ at.FieldArray a → s ≡ array_body a → HoldsValues s n l → m ≡ 1 + n → k ≡ 1 + l → HoldsValue r m k
array_holds r a s n l m k is body h e f = subst (λ (q : ValueRef). HoldsValue q m k) (sym is) (λ t (ts, x, same).
    let inner = h ts (subst (λ (u : List ℕ). WrittenValues u ts) (sym body) x) in
    (omega (arith, ap count same, inner.0, e), omega (arith, ap depth same, inner.1, f)))

pub table_holds : (r : ValueRef) (b : TableRef) (s : List ℕ) (n l m k : ℕ) → r ≡ at.FieldTable b → s ≡ table_body b → HoldsPairs s n l → m ≡ 1 + n → k ≡ 1 + l → HoldsValue r m k
table_holds r b s n l m k is body h e f = subst (λ (q : ValueRef). HoldsValue q m k) (sym is) (λ t (ps, x, same).
    let inner = h ps (subst (λ (u : List ℕ). WrittenPairs u ps) (sym body) x) in
    (omega (arith, ap count same, inner.0, e), omega (arith, ap depth same, inner.1, f)))

-- a container's body is shorter than its encoding, and counted in four bytes
pub content_few : (r : ValueRef) (s rest : List ℕ) → IsViewIn s r rest → length (content r) < 2 ^ 32
content_few (at.FieldArray a) s rest (c, k, few, e) = few
content_few (at.FieldTable t) s rest (c, k, few, e) = few
content_few _ s rest x = omega arith

content_in : (r : ValueRef) (s rest : List ℕ) → IsViewIn s r rest → length (content r) ≤ length s
content_in (at.FieldArray a) s rest (c, k, few, e) = omega (arith, ap length e, length-append (array_body a) rest)
content_in (at.FieldTable t) s rest (c, k, few, e) = omega (arith, ap length e, length-append (table_body t) rest)
content_in _ s rest x = omega arith

pub content_shorter : (r : ValueRef) (s rest : List ℕ) → IsViewIn s r rest → length rest < length s → length (content r) < length s
content_shorter (at.FieldArray a) s rest (c, k, few, e) less = omega (arith, ap length e, length-append (array_body a) rest)
content_shorter (at.FieldTable t) s rest (c, k, few, e) less = omega (arith, ap length e, length-append (table_body t) rest)
content_shorter _ s rest x less = omega (arith, less)

pub pair_shorter : (s key : List ℕ) (r : ValueRef) (rest : List ℕ) → IsPairViewIn s key r rest → length (content r) < length s
pair_shorter s key r rest (after, e, inside) = omega (arith, content_in r after rest inside, ap length e, length-append key after)

-- ---- bodies

-- the first of some values, as it is written
abbrev ValueWritten : Trees → ValueRef → List ℕ → Type 0
ValueWritten no_trees r rest = ⊥
ValueWritten (tree t ts) r rest = IsWrittenAs r t × WrittenValues rest ts

value_written : (s : List ℕ) (r : ValueRef) (rest : List ℕ) → IsViewIn s r rest → length rest < length s → (ts : Trees) → WrittenValues s ts → ValueWritten ts r rest
value_written s r rest inside less ts (vs, p, same) = subst (λ (us : Trees). ValueWritten us r rest) (sym same) (by s vs p inside less)
  where
    by : (s : List ℕ) (vs : Trees) (p : ArrayBody s vs) → IsViewIn s r rest → length rest < length s → ValueWritten (values_written s vs p) r rest
    by _ _ no_values x less = absurd (omega (arith, less))
    by _ _ (value w left v vs first others) x less =
        let one = stands (w ++ left) rest left r (record { bytes = w; meaning = v; is_wire = first }) x refl in
        let ts = values_written left vs others in
        (one.0.as_written, subst (λ (t : List ℕ). WrittenValues t ts) one.1 (vs, others, refl))

-- values are left, and before them n are written, and containers nest l levels deep in these
pub record ValuesSoFar (s : List ℕ) (n l : ℕ) (rest : List ℕ) : Type 0 where
  pub left : ∥ HasValues rest ∥₁
  pub shorter : length rest ≤ length s
  pub all : (ts : Trees) → WrittenValues s ts → (us : Trees) × WrittenValues rest us × (count_all ts ≡ n + count_all us) × (greatest_depth ts ≡ max l (greatest_depth us))

pub values_start : (s : List ℕ) → ∥ HasValues s ∥₁ → ValuesSoFar s 0 0 s
values_start s has = record { left = has; shorter = omega arith; all = λ ts x. (ts, x, omega arith, omega arith) }

module _ (s : List ℕ) (n l : ℕ) (rest : List ℕ) (g : ValuesSoFar s n l rest) where
  pub values_step : (r : ValueRef) (after : List ℕ) (m k : ℕ) → (length after < length rest) × ∥ HasValues after ∥₁ → IsViewIn rest r after → HoldsValue r m k → ValuesSoFar s (n + m) (max l k) after
  values_step r after m k more inside h =
      record { left = more.1; shorter = omega (arith, more.0, g.shorter); all = λ ts y. let u = g.all ts y in by u.0 (value_written rest r after inside more.0 u.0 u.1) u.2 u.3 }
    where
      by : {c d : ℕ} (us : Trees) → ValueWritten us r after → c ≡ n + count_all us → d ≡ max l (greatest_depth us)
          → (os : Trees) × WrittenValues after os × (c ≡ n + m + count_all os) × (d ≡ max (max l k) (greatest_depth os))
      by no_trees given e f = absurd given
      by (tree t os) given e f = let first = h t given.0 in (os, given.1, omega (arith, e, first.0), omega (arith, f, first.1))

  pub values_end : ((vs : Trees) → ArrayBody rest vs → NextValueIs vs None) → HoldsValues s n l
  values_end next = λ ts y.
      let (us, (vs, p, same), e, f) = g.all ts y in
      by rest vs p us (next vs p) same e f
    where
      by : {c d : ℕ} (t : List ℕ) (vs : Trees) (p : ArrayBody t vs) (us : Trees) → NextValueIs vs None → us ≡ values_written t vs p → c ≡ n + count_all us → d ≡ max l (greatest_depth us) → (c ≡ n) × (d ≡ l)
      by _ _ no_values us given same e f = (omega (arith, e, ap count_all same), omega (arith, f, ap greatest_depth same))
      by _ _ (value w left v vs first others) us given same e f = absurd given

  -- which are few
  pub values_so_few : ∥ HasValues s ∥₁ → n ≤ length s
  values_so_few has = ∥∥₁_elim has le_prop (λ (p : HasValues s). omega (arith, (g.all (values_written s p.0 p.1) (p.0, p.1, refl)).2, (values_written_within s p.0 p.1).fits))

-- and so of pairs
pub record PairsSoFar (s : List ℕ) (n l : ℕ) (rest : List ℕ) : Type 0 where
  pub left : ∥ HasPairs rest ∥₁
  pub shorter : length rest ≤ length s
  pub all : (ps : Entries) → WrittenPairs s ps → (qs : Entries) × WrittenPairs rest qs × (entries_count ps ≡ n + entries_count qs) × (entries_depth ps ≡ max l (entries_depth qs))

pub pairs_start : (s : List ℕ) → ∥ HasPairs s ∥₁ → PairsSoFar s 0 0 s
pairs_start s has = record { left = has; shorter = omega arith; all = λ ps x. (ps, x, omega arith, omega arith) }

-- the first of some pairs, as it is written
abbrev FirstWritten : Entries → ValueRef → List ℕ → Type 0
FirstWritten no_entries r rest = ⊥
FirstWritten (entry k t ps) r rest = IsWrittenAs r t × WrittenPairs rest ps

first_written : (s key : List ℕ) (r : ValueRef) (rest : List ℕ) → IsPairViewIn s key r rest → (ps : Entries) → WrittenPairs s ps → FirstWritten ps r rest
first_written s key r rest inside ps (es, p, same) = subst (λ (qs : Entries). FirstWritten qs r rest) (sym same) (by s es p inside)
  where
    by : (s : List ℕ) (es : Entries) (p : TableBody s es) → IsPairViewIn s key r rest → FirstWritten (pairs_written s es p) r rest
    by _ _ no_pairs (after, e, x) = absurd cc
    by _ _ (pair k w left v es is first others) (after, e, x) =
        let one = stands after rest left r (record { bytes = w; meaning = v; is_wire = first }) x (sym (one_key k key (w ++ left) after e).1) in
        let ts = pairs_written left es others in
        (one.0.as_written, subst (λ (t : List ℕ). WrittenPairs t ts) one.1 (es, others, refl))

module _ (s : List ℕ) (n l : ℕ) (rest : List ℕ) (g : PairsSoFar s n l rest) where
  pub pairs_step : (key : List ℕ) (r : ValueRef) (after : List ℕ) (m k : ℕ) → (length after < length rest) × ∥ HasPairs after ∥₁ → IsPairViewIn rest key r after → HoldsValue r m k → PairsSoFar s (n + m) (max l k) after
  pairs_step key r after m k more inside h = record { left = more.1; shorter = omega (arith, more.0, g.shorter); all = λ ps y. let u = g.all ps y in by u.0 (first_written rest key r after inside u.0 u.1) u.2 u.3 }
    where
      by : {c d : ℕ} (qs : Entries) → FirstWritten qs r after → c ≡ n + entries_count qs → d ≡ max l (entries_depth qs)
          → (os : Entries) × WrittenPairs after os × (c ≡ n + m + entries_count os) × (d ≡ max (max l k) (entries_depth os))
      by no_entries given e f = absurd given
      by (entry j t os) given e f = let first = h t given.0 in (os, given.1, omega (arith, e, first.0), omega (arith, f, first.1))

  pub pairs_end : ((ps : Entries) → TableBody rest ps → NextPairIs ps None) → HoldsPairs s n l
  pairs_end next = λ ps y.
      let (qs, (es, p, same), e, f) = g.all ps y in
      by rest es p qs (next es p) same e f
    where
      by : {c d : ℕ} (t : List ℕ) (es : Entries) (p : TableBody t es) (qs : Entries) → NextPairIs es None → qs ≡ pairs_written t es p → c ≡ n + entries_count qs → d ≡ max l (entries_depth qs) → (c ≡ n) × (d ≡ l)
      by _ _ no_pairs qs given same e f = (omega (arith, e, ap entries_count same), omega (arith, f, ap entries_depth same))
      by _ _ (pair k w left v es is first others) qs given same e f = absurd given

  pub pairs_so_few : ∥ HasPairs s ∥₁ → n ≤ length s
  pairs_so_few has = ∥∥₁_elim has le_prop (λ (p : HasPairs s). omega (arith, (g.all (pairs_written s p.0 p.1) (p.0, p.1, refl)).2, (pairs_written_within s p.0 p.1).fits))

-- ---- the encoding at the start

-- what is left is what the bytes before it are dropped from
pub rest_dropped : (s rest : List ℕ) → IsLeft s rest → (n : ℕ) → n ≡ length s - length rest → drop n s ≡ rest
rest_dropped s rest (w, e) n is = ap (drop n) e ∙ drop_at w rest n (omega (arith, is, ap length e, length-append w rest))

-- the bytes of an encoding at the start are those before what is left
pub measured_bytes : (s rest : List ℕ) (r : ValueRef) → IsViewIn s r rest → OfEncoding s (λ w v p. length s ≡ length w + length rest)
measured_bytes s rest r x w left v p e = omega (arith, ap length e, length-append w left, ap length (stands s rest left r (record { bytes = w; meaning = v; is_wire = p }) x e).1)

-- what a value holds is what each encoding at the start does
module _ (r : ValueRef) (n l : ℕ) (h : HoldsValue r n l) (s rest : List ℕ) (x : IsViewIn s r rest) where
  held : OfEncoding s (λ w v p. (count (written w v p) ≡ n) × (depth (written w v p) ≡ l))
  held w left v p e = h (written w v p) (stands s rest left r (record { bytes = w; meaning = v; is_wire = p }) x e).0.as_written

  pub measured_values : OfEncoding s (λ w v p. n ≡ count (written w v p))
  measured_values w left v p e = sym (held w left v p e).0

  pub measured_levels : OfEncoding s (λ w v p. l ≡ depth (written w v p))
  measured_levels w left v p e = sym (held w left v p e).1

  pub measured_tree : OfEncoding s (λ w v p. (count v ≤ n) × (depth v ≤ l))
  measured_tree w left v p e =
      let same = held w left v p e in
      let less = written_within w v p in
      (omega (arith, same.0, less.more_values), omega (arith, same.1, less.more_levels))
