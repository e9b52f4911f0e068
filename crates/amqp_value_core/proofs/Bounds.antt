-- `bounds`: an encoding has at least as many bytes as its value's canonical one, one for each value
-- in it, and five for each level of containers.
use Rattle.std.proofs.Common.{◌≡◌, ◌≤◌, ◌+◌, ◌*◌, ℕ, suc, max, List, ◌++◌, length, Option, Some, refl, subst, arith, length-append}
use Rattle.std.specs.Option.{IfSome}
use Rattle.amqp_value_core.specs.declared.types.amqp_type.AMQPType.{AMQPType}
use Rattle.amqp_value_core.specs.declared.types.amqp_type.AMQPType.TheVariants as amqp
use Rattle.amqp_value_core.specs.Values.{Tree, Trees, Entries, no_entries, entry, scalar_type, depth, count, greatest_depth, entries_depth, count_all, entries_count}
use Rattle.amqp_value_core.specs.Maps.{insert, insert_all, Mean}
use Rattle.amqp_value_core.specs.Layouts.{Layout, fixed, width_of}
use Rattle.amqp_value_core.specs.Grammar.{Wire, wire, Raw, raw_fixed, raw_short, raw_long, raw_octets, raw_array, raw_table, ArrayBody, no_values, value, TableBody, no_pairs, pair}
use Rattle.amqp_value_core.specs.Texts.{size, body_size, pairs_size}
use Rattle.amqp_value_core.proofs.Spelling.{size_of_scalar, body_size_more, pairs_size_more}
use Rattle.amqp_value_core.proofs.Insertions.{insert_size, insert_count, insert_depth}
use Rattle.amqp_value_core.proofs.Tables.{of_mean}

-- ---- entries that are inserted

-- size, count and depth of some entries are at most these
pub record EntriesWithin (bytes values deep : ℕ) (es : Entries) : Type 0 where
  pub size : pairs_size es ≤ bytes
  pub count : entries_count es ≤ values
  pub depth : entries_depth es ≤ deep

-- entries grow by no more than the pairs that are inserted one after another
onto_within : (ps es : Entries)
    → EntriesWithin (pairs_size ps + pairs_size es) (entries_count ps + entries_count es) (max (entries_depth ps) (entries_depth es)) (insert_all es ps)
onto_within no_entries es = record { size = omega arith; count = omega arith; depth = omega arith }
onto_within (entry k v ps) es =
    let all = onto_within ps (insert k v es) in
    record {
      size = omega (arith, pairs_size_more k v ps, insert_size k v es, all.size);
      count = omega (arith, insert_count k v es, all.count);
      depth = omega (arith, insert_depth k v es, all.depth);
    }

-- so does what they mean
pub mean_within : (ps es : Entries) → Mean ps es → EntriesWithin (pairs_size ps) (entries_count ps) (entries_depth ps) es
mean_within ps es mean =
    let all = onto_within ps no_entries in
    of_mean (EntriesWithin (pairs_size ps) (entries_count ps) (entries_depth ps)) ps es mean
    (record { size = omega (arith, all.size); count = omega (arith, all.count); depth = omega (arith, all.depth) })

-- ---- values of fixed width

-- the width of each line of the table is that of what its bytes mean
abbrev IsWide : Option Layout → Type 0
IsWide o = IfSome o (λ f. (b : List ℕ) → width_of (scalar_type (f.denotes b)) ≡ f.width)

rows_wide : (type : AMQPType) → IsWide (fixed type)
rows_wide amqp.ShortString = tt
rows_wide amqp.LongString = tt
rows_wide amqp.ByteArray = tt
rows_wide amqp.FieldArray = tt
rows_wide amqp.FieldTable = tt
rows_wide _ = λ b. refl

row_wide : (type : AMQPType) (f : Layout) (b : List ℕ) → fixed type ≡ Some f → width_of (scalar_type (f.denotes b)) ≡ f.width
row_wide type f b row = subst IsWide row (rows_wide type) b

-- ---- encodings

-- a size, a count and five times a depth are at most n
record AreAtMost (n bytes values deep : ℕ) : Type 0 where
  pub size : bytes ≤ n
  pub count : values ≤ n
  pub depth : 5 * deep ≤ n

mutual
  -- an encoding is as long as its value is large
  wire_bounded : (w : List ℕ) (v : Tree) → Wire w v → AreAtMost (length w) (size v) (count v) (depth v)
  wire_bounded _ _ (wire c type b v k p) = raw_bounded type b v p

  -- and a payload one byte less
  raw_bounded : (type : AMQPType) (b : List ℕ) (v : Tree) → Raw type b v → AreAtMost (suc (length b)) (size v) (count v) (depth v)
  raw_bounded _ _ _ (raw_fixed type f b row len) =
      record { size = omega (arith, size_of_scalar (f.denotes b), row_wide type f b row); count = omega arith; depth = omega arith }
  raw_bounded _ _ _ (raw_short s is) = record { size = omega arith; count = omega arith; depth = omega arith }
  raw_bounded _ _ _ (raw_long s fits) = record { size = omega arith; count = omega arith; depth = omega arith }
  raw_bounded _ _ _ (raw_octets s fits) = record { size = omega arith; count = omega arith; depth = omega arith }
  raw_bounded _ _ _ (raw_array body vs fits all) =
      let inner = body_bounded body vs all in
      record { size = omega (arith, inner.size); count = omega (arith, inner.count); depth = omega (arith, inner.depth) }
  raw_bounded _ _ _ (raw_table body ps es fits all mean) =
      let inner = pairs_bounded body ps all in
      let kept = mean_within ps es mean in
      record {
        size = omega (arith, inner.size, kept.size);
        count = omega (arith, inner.count, kept.count);
        depth = omega (arith, inner.depth, kept.depth);
      }

  -- an array's body is as long as its values are large
  body_bounded : (body : List ℕ) (vs : Trees) → ArrayBody body vs → AreAtMost (length body) (body_size vs) (count_all vs) (greatest_depth vs)
  body_bounded _ _ no_values = record { size = omega arith; count = omega arith; depth = omega arith }
  body_bounded _ _ (value w more v vs p all) =
      let first = wire_bounded w v p in
      let others = body_bounded more vs all in
      let long = length-append w more in
      record {
        size = omega (arith, body_size_more v vs, long, first.size, others.size);
        count = omega (arith, long, first.count, others.count);
        depth = omega (arith, long, first.depth, others.depth);
      }

  -- and a table's is as long as its pairs are
  pairs_bounded : (body : List ℕ) (ps : Entries) → TableBody body ps → AreAtMost (length body) (pairs_size ps) (entries_count ps) (entries_depth ps)
  pairs_bounded _ _ no_pairs = record { size = omega arith; count = omega arith; depth = omega arith }
  pairs_bounded _ _ (pair k w more v ps is p all) =
      let first = wire_bounded w v p in
      let others = pairs_bounded more ps all in
      let key = length-append k (w ++ more) in
      let long = length-append w more in
      record {
        size = omega (arith, pairs_size_more k v ps, key, long, first.size, others.size);
        count = omega (arith, key, long, first.count, others.count);
        depth = omega (arith, key, long, first.depth, others.depth);
      }

-- what a table holds is no larger than the pairs that it was read from
pub table_size : (body : List ℕ) (ps es : Entries) → TableBody body ps → Mean ps es → pairs_size es ≤ length body
table_size body ps es all mean = omega (arith, (mean_within ps es mean).size, (pairs_bounded body ps all).size)

pub array_size : (body : List ℕ) (vs : Trees) → ArrayBody body vs → body_size vs ≤ length body
array_size body vs all = (body_bounded body vs all).size

-- the bounds of an encoding
pub bounds : (w : List ℕ) (v : Tree) → Wire w v → (size v ≤ length w) × (count v ≤ length w) × (5 * depth v ≤ length w)
bounds w v p =
    let b = wire_bounded w v p in
    (b.size, b.count, b.depth)

-- and of a payload, which has no type tag
pub raw_bounds : (type : AMQPType) (b : List ℕ) (v : Tree) → Raw type b v
    → (size v ≤ length b + 1) × (count v ≤ length b + 1) × (5 * depth v ≤ length b + 1)
raw_bounds type b v p =
    let r = raw_bounded type b v p in
    (omega (arith, r.size), omega (arith, r.count), omega (arith, r.depth))
