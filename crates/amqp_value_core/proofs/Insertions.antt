-- What an insertion changes of a table: its size, how deep it nests, how many values it has, and
-- that it can be written, read and in memory.
use Rattle.std.proofs.Common.{◌≤◌, ◌<◌, ◌+◌, ◌^◌, ℕ, max, List, length, IsTrue, arith}
use Rattle.std.proofs.lemmas.Bool.{and_parts, and_from}
use Rattle.amqp_value_core.specs.Bytes.{IsShort}
use Rattle.amqp_value_core.specs.Values.{Tree, table, Entries, depth, entries_depth, count, entries_count, readable, entries_readable}
use Rattle.amqp_value_core.specs.Maps.{insert}
use Rattle.amqp_value_core.specs.Texts.{size, Fits, EntriesFit}
use Rattle.amqp_value_core.specs.InMemory.{IsValue, AreEntries}
use Rattle.amqp_value_core.proofs.Tables.{by_place, before-insert}
use Rattle.amqp_value_core.proofs.Spelling.{size_of_table}

-- it grows by no more than the new entry takes
pub insert_size : (k : List ℕ) (v : Tree) (es : Entries) → size (table (insert k v es)) ≤ 1 + length k + size v + size (table es)
insert_size k v =
    by_place (λ es fs. size (table fs) ≤ 1 + length k + size v + size (table es)) k v
    (λ es before. omega (arith, size_of_table k v es))
    (λ u es. omega (arith, size_of_table k v es, size_of_table k u es))
    (λ j u es first inner. omega (arith, inner, size_of_table j u (insert k v es), size_of_table j u es))

-- and by no more values than are in the new one
pub insert_count : (k : List ℕ) (v : Tree) (es : Entries) → entries_count (insert k v es) ≤ count v + entries_count es
insert_count k v =
    by_place (λ es fs. entries_count fs ≤ count v + entries_count es) k v (λ es before. omega arith) (λ u es. omega arith) (λ j u es first inner. omega (arith, inner))

-- it nests no deeper than the new value and the others
pub insert_depth : (k : List ℕ) (v : Tree) (es : Entries) → entries_depth (insert k v es) ≤ max (depth v) (entries_depth es)
insert_depth k v =
    by_place (λ es fs. entries_depth fs ≤ max (depth v) (entries_depth es)) k v (λ es before. omega arith) (λ u es. omega arith) (λ j u es first inner. omega (arith, inner))

-- each length in it fits its field, if those in the new value and in the others do
pub insert_entries_fit : (k : List ℕ) (v : Tree) (es : Entries) → Fits v → EntriesFit es → EntriesFit (insert k v es)
insert_entries_fit k v es here =
    by_place (λ es fs. EntriesFit es → EntriesFit fs) k v (λ es before others. (here, others)) (λ u es others. (here, others.1)) (λ j u es first inner others. (others.0, inner others.1)) es

-- so does its own, if it isn't too large
pub insert_fits : (k : List ℕ) (v : Tree) (es : Entries) → Fits v → Fits (table es) → 1 + length k + size v + size (table es) < 2 ^ 32 → Fits (table (insert k v es))
insert_fits k v es here others small = (omega (arith, insert_size k v es, small), insert_entries_fit k v es here others.1)

-- it can be read, if the new value and the others can
pub insert_readable : (k : List ℕ) (v : Tree) (es : Entries) → IsTrue (readable v) → IsTrue (entries_readable es) → IsTrue (entries_readable (insert k v es))
insert_readable k v es here =
    by_place (λ es fs. IsTrue (entries_readable es) → IsTrue (entries_readable fs)) k v
    (λ es before others. and_from (readable v) (entries_readable es) here others)
    (λ u es others. and_from (readable v) (entries_readable es) here (and_parts (readable u) (entries_readable es) others).1)
    (λ j u es first inner others.
    let both = and_parts (readable u) (entries_readable es) others in
    and_from (readable u) (entries_readable (insert k v es)) both.0 (inner both.1))
    es

-- its entries are those of a table in memory, if the key and the new value are in memory
pub insert_entries : (k : List ℕ) (v : Tree) (es : Entries) → IsShort k → IsValue v → AreEntries es → AreEntries (insert k v es)
insert_entries k v es short is =
    by_place (λ es fs. AreEntries es → AreEntries fs) k v (λ es before are. (short, is, before, are)) (λ u es are. (are.0, is, are.2, are.3))
    (λ j u es first inner are. (are.0, are.1, before-insert j k v es first are.2, inner are.3)) es
