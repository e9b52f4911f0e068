-- `reading_back`: `text` of a value is read as that value if it is readable, and else rejected.
use Rattle.std.proofs.Common.{◌≡◌, ◌<◌, ◌-◌, ◌^◌, ℕ, suc, subst, List, [], ◌∷◌, ◌++◌, length, drop, Some, None, Bool, true, false, refl, sym, ap, ◌∙◌, IsTrue, if◌then◌else◌, arith}
use Rattle.std.specs.Int.{w32}
use Rattle.std.proofs.lemmas.Bool.{and_from, both_ways}
use Rattle.amqp_value_core.specs.declared.types.amqp_type.AMQPType.{AMQPType}
use Rattle.amqp_value_core.specs.declared.types.amqp_type.AMQPType.TheVariants as amqp
use Rattle.amqp_value_core.specs.Values.{Tree, scalar, short, long, octets, array, table, Trees, no_trees, tree, Entries, no_entries, entry, readable, all_readable, entries_readable}
use Rattle.amqp_value_core.specs.Ids.{kind, id_of}
use Rattle.amqp_value_core.specs.Bytes.{IsShort}
use Rattle.amqp_value_core.specs.Grammar.{short_field, long_field, Wire, wire, Raw, raw_fixed, raw_short, raw_array, raw_table, ArrayBody, no_values, value, TableBody, no_pairs, pair}
use Rattle.amqp_value_core.specs.Nesting.{RawWithin, within_plain, within_array, within_table, BodyWithin, PairsWithin}
use Rattle.amqp_value_core.specs.Texts.{text, body, pairs, Fits, AllFit, EntriesFit}
use Rattle.amqp_value_core.specs.InMemory.{IsValue, AreValues, AreEntries}
use Rattle.amqp_value_core.specs.Outcomes.{unread, read_back, counted, found, malformed, lack, no_tag, Outcome}
use Rattle.amqp_value_core.proofs.Bytes.{same_prefixes}
use Rattle.amqp_value_core.proofs.Headers.{counted-long_field, lack_of-long_field}
use Rattle.amqp_value_core.proofs.Unique.{one_prefix, one_key}
use Rattle.amqp_value_core.proofs.Outcomes.{RawPrefix, raw_of_wire, raw_whole, raw_to_value, wire_found}
use Rattle.amqp_value_core.proofs.Spelling.{text_is_wire}

-- two lists after their lengths, at the start of one list, are one
pub one_large : (s t x y : List ℕ) → length s < 2 ^ 32 → length t < 2 ^ 32 → long_field s ++ x ≡ long_field t ++ y → (s ≡ t) × (x ≡ y)
one_large s t x y short_s short_t e =
    let len : length s ≡ length t = sym (counted-long_field s x short_s) ∙ (ap (counted w32) e ∙ counted-long_field t y short_t) in
    same_prefixes s t x y len (ap (drop 4) e)

-- the payload of an array is a body after its length
pub array_body : (s x b y : List ℕ) (z : Tree) → length s < 2 ^ 32 → Raw amqp.FieldArray b z → long_field s ++ x ≡ b ++ y → (us : Trees) × ArrayBody s us
array_body s x _ y _ fits (raw_fixed type f b row len) e = absurd cc
array_body s x _ y _ fits (raw_array c us bounded p) e = (us, subst (λ (t : List ℕ). ArrayBody t us) (sym (one_large s c x y fits bounded e).0) p)

-- within a depth, one that nests 1 less
pub array_body_within : (d : ℕ) (s x b y : List ℕ) (z : Tree) → length s < 2 ^ 32 → RawWithin d amqp.FieldArray b z
    → long_field s ++ x ≡ b ++ y → (us : Trees) × (0 < d) × BodyWithin (d - 1) s us
array_body_within _ s x _ y _ fits (within_plain d type b v no_array no_table p) e = absurd (no_array refl)
array_body_within _ s x _ y _ fits (within_array d c us bounded p) e =
    let one : d ≡ suc d - 1 = omega arith in
    (us, omega arith, subst (λ (n : ℕ). BodyWithin n s us) one (subst (λ (t : List ℕ). BodyWithin d t us) (sym (one_large s c x y fits bounded e).0) p))

-- the payload of a table is pairs after their length
pub table_body : (s x b y : List ℕ) (z : Tree) → length s < 2 ^ 32 → Raw amqp.FieldTable b z → long_field s ++ x ≡ b ++ y → (ps : Entries) × TableBody s ps
table_body s x _ y _ fits (raw_fixed type f b row len) e = absurd cc
table_body s x _ y _ fits (raw_table c ps es bounded p mean) e = (ps, subst (λ (t : List ℕ). TableBody t ps) (sym (one_large s c x y fits bounded e).0) p)

pub table_body_within : (d : ℕ) (s x b y : List ℕ) (z : Tree) → length s < 2 ^ 32 → RawWithin d amqp.FieldTable b z
    → long_field s ++ x ≡ b ++ y → (ps : Entries) × (0 < d) × PairsWithin (d - 1) s ps
table_body_within _ s x _ y _ fits (within_plain d type b v no_array no_table p) e = absurd (no_table refl)
table_body_within _ s x _ y _ fits (within_table d c ps es bounded p mean) e =
    let one : d ≡ suc d - 1 = omega arith in
    (ps, omega arith, subst (λ (n : ℕ). PairsWithin n s ps) one (subst (λ (t : List ℕ). PairsWithin d t ps) (sym (one_large s c x y fits bounded e).0) p))

-- the payload of a short string is one after its length
pub short_bytes : (s x b y : List ℕ) (z : Tree) → Raw amqp.ShortString b z → short_field s ++ x ≡ b ++ y → IsShort s
short_bytes s x _ y _ (raw_fixed type f b row len) e = absurd cc
short_bytes s x _ y _ (raw_short t is) e = rw (one_key s t x y e).0 is

-- what begins with no type tag begins with no encoding
no_wire : (c : ℕ) (b w rest : List ℕ) (v : Tree) → kind c ≡ None → Wire w v → c ∷ b ≡ w ++ rest → ⊥
no_wire c b _ rest _ none (wire d type p v k q) e =
    let head : c ≡ d = cc in
    let both : None ≡ Some type = sym none ∙ (ap kind head ∙ k) in
    cc

-- a canonical encoding has a first byte
no_empty_text : (v : Tree) (x : List ℕ) → text v ++ x ≡ [] → ⊥
no_empty_text (scalar s) x e = cc
no_empty_text (short s) x e = cc
no_empty_text (long s) x e = cc
no_empty_text (octets s) x e = cc
no_empty_text (array vs) x e = cc
no_empty_text (table es) x e = cc

mutual
  -- a value whose canonical encoding is an encoding, of whatever value, is readable
  text_readable : (v : Tree) (x w y : List ℕ) (z : Tree) → IsValue v → Fits v → Wire w z → text v ++ x ≡ w ++ y → IsTrue (readable v)
  text_readable (scalar s) x w y z is fits p e = refl
  text_readable (short s) x w y z is fits p e = absurd (no_wire (id_of amqp.ShortString) (short_field s ++ x) w y z refl p e)
  text_readable (long s) x w y z is fits p e = refl
  text_readable (octets s) x w y z is fits p e = refl
  text_readable (array vs) x w y z is fits p e =
      let r = raw_of_wire (id_of amqp.FieldArray) amqp.FieldArray (long_field (body vs) ++ x) w y z refl p e in
      let b = array_body (body vs) x r.0 y z fits.0 r.1 r.2 in
      body_readable vs (body vs) b.0 is fits.1 b.1 refl
  text_readable (table es) x w y z is fits p e =
      let r = raw_of_wire (id_of amqp.FieldTable) amqp.FieldTable (long_field (pairs es) ++ x) w y z refl p e in
      let b = table_body (pairs es) x r.0 y z fits.0 r.1 r.2 in
      pairs_readable es (pairs es) b.0 is fits.1 b.1 refl

  -- and so are values whose joined encodings are an array's body
  body_readable : (vs : Trees) (b : List ℕ) (us : Trees) → AreValues vs → AllFit vs → ArrayBody b us → body vs ≡ b → IsTrue (all_readable vs)
  body_readable no_trees b us is fits p e = refl
  body_readable (tree v vs) _ _ is fits no_values e = absurd (no_empty_text v (body vs) e)
  body_readable (tree v vs) _ _ is fits (value w more z us p all) e =
      let r = text_readable v (body vs) w more z is.0 fits.0 p e in
      let same = one_prefix (text v) w (body vs) more v z (text_is_wire v is.0 fits.0 r) p e in
      and_from (readable v) (all_readable vs) r (body_readable vs more us is.1 fits.1 all same.1)

  -- and those that with their keys are a table's pairs
  pairs_readable : (es : Entries) (b : List ℕ) (ps : Entries) → AreEntries es → EntriesFit es → TableBody b ps → pairs es ≡ b → IsTrue (entries_readable es)
  pairs_readable no_entries b ps are fits p e = refl
  pairs_readable (entry k v es) _ _ are fits no_pairs e = absurd cc
  pairs_readable (entry k v es) _ _ are fits (pair j w more z ps key p all) e =
      let after = one_key k j (text v ++ pairs es) (w ++ more) e in
      let r = text_readable v (pairs es) w more z are.1 fits.0 p after.1 in
      let same = one_prefix (text v) w (pairs es) more v z (text_is_wire v are.1 fits.0 r) p after.1 in
      and_from (readable v) (entries_readable es) r (pairs_readable es more ps are.3 fits.1 all same.1)

-- if a value of an array is not readable, no prefix is a payload of an array
no_array : (vs : Trees) (rest : List ℕ) → AreValues vs → Fits (array vs) → all_readable vs ≡ false → RawPrefix amqp.FieldArray (long_field (body vs) ++ rest) malformed
no_array vs rest is fits r b y z p e =
    let found = array_body (body vs) rest b y z fits.0 p e in
    both_ways (all_readable vs) r (body_readable vs (body vs) found.0 is fits.1 found.1 refl)

-- if a value of a table is not readable, no prefix is a payload of a table
no_table : (es : Entries) (rest : List ℕ) → AreEntries es → Fits (table es) → entries_readable es ≡ false → RawPrefix amqp.FieldTable (long_field (pairs es) ++ rest) malformed
no_table es rest are fits r b y z p e =
    let found = table_body (pairs es) rest b y z fits.0 p e in
    both_ways (entries_readable es) r (pairs_readable es (pairs es) found.0 are fits.1 found.1 refl)

-- a complete length-prefixed field after a type tag is malformed, if no prefix of it is a
-- payload
malformed_frame : (type : AMQPType) (s rest : List ℕ) → kind (id_of type) ≡ Some type → lack type (long_field s ++ rest) ≡ 0
    → RawPrefix type (long_field s ++ rest) malformed → Outcome (id_of type ∷ (long_field s ++ rest)) malformed
malformed_frame type s rest k whole none =
    raw_to_value (id_of type) type (long_field s ++ rest) malformed k (raw_whole type (long_field s ++ rest) malformed whole none)

-- the canonical encoding of a value that is not readable is rejected
unreadable : (v : Tree) (rest : List ℕ) → IsValue v → Fits v → readable v ≡ false → Outcome (text v ++ rest) (unread v)
unreadable (scalar s) rest is fits r = absurd cc
unreadable (short s) rest is fits r = no_tag (id_of amqp.ShortString) (short_field s ++ rest) refl
unreadable (long s) rest is fits r = absurd cc
unreadable (octets s) rest is fits r = absurd cc
unreadable (array vs) rest is fits r =
    malformed_frame amqp.FieldArray (body vs) rest refl (lack_of-long_field (body vs) rest fits.0) (no_array vs rest is fits r)
unreadable (table es) rest is fits r =
    malformed_frame amqp.FieldTable (pairs es) rest refl (lack_of-long_field (pairs es) rest fits.0) (no_table es rest is fits r)

-- the canonical encoding of a value, with `rest` after it, is read as that value, or rejected if it
-- is not readable
pub reading_back : (v : Tree) (rest : List ℕ) → IsValue v → Fits v → Outcome (text v ++ rest) (read_back v rest)
reading_back v rest is fits = by (readable v) refl
  where
    by : (r : Bool) → readable v ≡ r → Outcome (text v ++ rest) (if r then found v rest else unread v)
    by true r = wire_found (text v) rest v (text_is_wire v is fits r)
    by false r = unreadable v rest is fits r
