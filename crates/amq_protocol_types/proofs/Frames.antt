-- Lemmas on reading a length-prefixed field: when the bytes after the length are a string, a byte
-- array, an array or a table, and when they aren't.
use Rattle.std.proofs.Common.{◌≡◌, ℕ, ◌≤◌, List, ◌++◌, length, take, ap, sym, ◌∙◌, arith, ◌+◌, ◌-◌, ◌%◌, ◌<◌, suc, ◌∷◌, drop, None, refl, ap₂, subst, take-append-drop}
use Rattle.std.proofs.lemmas.List.{append-nil, nil_from_length, length-append, length-take, length-take-le}
use Rattle.std.specs.Str.{IsUtf8, IsAscii}
use Rattle.std.proofs.lemmas.Str.{IsUtf8-from_ascii}
use Rattle.std.specs.Int.{w8, w32}
use Rattle.std.proofs.lemmas.Bool.{le-ltb}
use Rattle.amqp_value_core.specs.Bytes.{IsPrefix, IsShort}
use Rattle.amqp_value_core.specs.declared.types.amqp_type.AMQPType.{AMQPType}
use Rattle.amqp_value_core.specs.declared.types.amqp_type.AMQPType.TheVariants as amqp
use Rattle.amqp_value_core.specs.Values.{Tree, Trees, Entries, short, long, octets, array, table}
use Rattle.amqp_value_core.specs.Layouts.{fixed}
use Rattle.amqp_value_core.specs.Grammar.{short_field, long_field, Raw, raw_short, raw_long, raw_octets}
use Rattle.amqp_value_core.specs.Nesting.{RawWithin, within_array, within_table, BodyWithin, RawOutcomeWithin}
use Rattle.amqp_value_core.specs.Outcomes.{Reading, found, more, unknown, malformed, length_field, counted, frame_lack, lack_of, lack, HasLength, RawHeavy, RawOutcome}
use Rattle.amqp_value_core.proofs.GrammarLaws.{PrefixBy, array_body_within, table_body_within, raw_found_within, raw_whole_within, short_bytes, counted-long_field, lack_of-long_field, raw_found, raw_whole}
use Rattle.amq_protocol_types.specs.declared.parsing.errors.Err.TheVariants.{Incomplete, Error, Failure}
use Rattle.amq_protocol_types.specs.declared.parsing.errors.Needed.TheVariants.{Unknown, Size}
use Rattle.amq_protocol_types.specs.declared.parsing.errors.ErrorKind.TheVariants.{MapRes}
use Rattle.amq_protocol_types.specs.parsing.Refusals.{Refusal}
use Rattle.amq_protocol_types.specs.parsing.ParseResults.{RefusesAs, IsRefusal}
use Rattle.amq_protocol_types.specs.parsing.Bodies.{IsLengthPrefixed, IsNoBody, IsTable, IsNoTable}
use Rattle.amq_protocol_types.specs.parsing.PayloadResults.{IsNumberRead, RawRefuses}
use Rattle.amq_protocol_types.proofs.Refusals.{IsRefusal-weaker}

-- what is ASCII is UTF-8
pub ascii_is_utf8 : (s : List ℕ) → IsAscii s → IsUtf8 s
ascii_is_utf8 s ascii = IsUtf8-from_ascii s ascii

-- a prefix with as many bytes as there are is all of them
pub whole_prefix : (a s : List ℕ) → IsPrefix a s → length a ≡ length s → a ≡ s
whole_prefix a s (rest, e) same =
    let none = nil_from_length rest (omega (arith, length-append a rest, ap length e)) in
    sym (append-nil a) ∙ ap (λ l. a ++ l) (sym none) ∙ sym e

-- a prefix with at least n bytes is all of the first n, if n are there
pub whole_taken : (a body left : List ℕ) (n : ℕ) → IsPrefix a body → body ≡ take n left → n ≤ length left → n ≤ length a → a ≡ take n left
whole_taken a body left n (rest, e) is there enough =
    let size = length-take n left in
    whole_prefix a body (rest, e) (omega (arith, length-append a rest, ap length e, ap length is, size)) ∙ is

-- ---- a length in four bytes

-- a type that isn't of fixed width has a length field
has_length : (type : AMQPType) → fixed type ≡ None → HasLength type
has_length amqp.ShortString e = tt
has_length amqp.LongString e = tt
has_length amqp.ByteArray e = tt
has_length amqp.FieldArray e = tt
has_length amqp.FieldTable e = tt
has_length _ e = absurd cc

-- s is a payload of the type, and `rest` after it: `body` after its length
module _ (type : AMQPType) (s body rest : List ℕ) (row : fixed type ≡ None) (field : length_field type ≡ w32) (f : IsLengthPrefixed s body rest) where
  -- the length-prefixed field is complete
  frame_whole : lack type s ≡ 0
  frame_whole =
      ap₂ (λ o w. lack_of o w s) row field ∙ (ap (lack_of None w32) f.framed ∙ lack_of-long_field body rest f.fits)

  -- what the length-prefixed field means is found
  frame_found : (v : Tree) → Raw type (long_field body) v → RawOutcome type s (found v rest)
  frame_found v p = rw f.framed (raw_found type (long_field body) rest v p)

  -- it allocates if its body has a byte
  frame_heavy : 0 < length body → RawHeavy type s
  frame_heavy h =
      (has_length type row, frame_whole, omega (arith, ap₂ counted field f.framed, counted-long_field body rest f.fits))

  -- what the length-prefixed field means is found, if containers nest at most d deep
  frame_found_within : (d : ℕ) (v : Tree) → RawWithin d type (long_field body) v → RawOutcomeWithin d type s (found v rest)
  frame_found_within d v p = rw f.framed (raw_found_within d type (long_field body) rest v p)

  -- what decides about the body decides about the length-prefixed field
  frame_refused_within : (d : ℕ) (Is : Reading → Type 0) → ((o : Reading) → Is o → PrefixBy (RawWithin d type) s o) → (r : Refusal) → IsRefusal Is (0 < length body) r
      → IsRefusal (RawOutcomeWithin d type s) (RawHeavy type s) r
  frame_refused_within d Is prefix r x =
      IsRefusal-weaker Is (RawOutcomeWithin d type s) (0 < length body) (RawHeavy type s) r
      (λ o y. raw_whole_within d type s o frame_whole (prefix o y)) frame_heavy x

  -- a complete length-prefixed field that no prefix decides is malformed
  frame_malformed : (d : ℕ) → PrefixBy (RawWithin d type) s malformed → RawOutcomeWithin d type s malformed
  frame_malformed d none = raw_whole_within d type s malformed frame_whole none

module _ (s body rest : List ℕ) (f : IsLengthPrefixed s body rest) where
  -- a long string and a byte array are read
  pub long_found : RawOutcome amqp.LongString s (found (long body) rest)
  long_found = frame_found amqp.LongString s body rest refl refl f (long body) (raw_long body f.fits)

  pub octets_found : RawOutcome amqp.ByteArray s (found (octets body) rest)
  octets_found = frame_found amqp.ByteArray s body rest refl refl f (octets body) (raw_octets body f.fits)

-- containers, if they nest at most d deep
module _ (d : ℕ) (s body rest : List ℕ) (f : IsLengthPrefixed s body rest) where
  -- an array is read if the body is values that nest one less
  pub array_found : (vs : Trees) → 0 < d → BodyWithin (d - 1) body vs → RawOutcomeWithin d amqp.FieldArray s (found (array vs) rest)
  array_found vs some p =
      frame_found_within amqp.FieldArray s body rest refl refl f d (array vs)
      (let one : suc (d - 1) ≡ d = omega arith in subst (λ (n : ℕ). RawWithin n amqp.FieldArray (long_field body) (array vs)) one (within_array (d - 1) body vs f.fits p))

  -- if the body isn't one, no prefix is an array
  no_array : (o : Reading) → IsNoBody (d - 1) body o → PrefixBy (RawWithin d amqp.FieldArray) s o
  no_array malformed none = λ b left v p e. let r = array_body_within d body rest b left v f.fits p (sym f.framed ∙ e) in none r.0 r.2
  no_array (found v left) none = absurd none
  no_array (more m) none = absurd none
  no_array unknown none = absurd none

  -- the error of the body is the array's
  pub array_refused : (r : Refusal) → IsRefusal (IsNoBody (d - 1) body) (0 < length body) r → IsRefusal (RawOutcomeWithin d amqp.FieldArray s) (RawHeavy amqp.FieldArray s) r
  array_refused r x = frame_refused_within amqp.FieldArray s body rest refl refl f d (IsNoBody (d - 1) body) no_array r x

  -- if no container may be there, there is no array
  pub array_too_deep : d ≡ 0 → RawOutcomeWithin d amqp.FieldArray s malformed
  array_too_deep none =
      frame_malformed amqp.FieldArray s body rest refl refl f d
      (λ b left v p e. let r = array_body_within d body rest b left v f.fits p (sym f.framed ∙ e) in absurd (omega (arith, r.1)))

  -- a table is read if the body is pairs that nest one less
  pub table_found : (es : Entries) → 0 < d → IsTable (d - 1) body es → RawOutcomeWithin d amqp.FieldTable s (found (table es) rest)
  table_found es some p =
      frame_found_within amqp.FieldTable s body rest refl refl f d (table es)
      (let one : suc (d - 1) ≡ d = omega arith in subst (λ (n : ℕ). RawWithin n amqp.FieldTable (long_field body) (table es)) one (within_table (d - 1) body p.0 es f.fits p.1 p.2))

  -- if the body isn't one, no prefix is a table
  no_table : (o : Reading) → IsNoTable (d - 1) body o → PrefixBy (RawWithin d amqp.FieldTable) s o
  no_table malformed none = λ b left v p e. let r = table_body_within d body rest b left v f.fits p (sym f.framed ∙ e) in none r.0 r.2
  no_table (found v left) none = absurd none
  no_table (more m) none = absurd none
  no_table unknown none = absurd none

  -- the error of the body is the table's
  pub table_refused : (r : Refusal) → IsRefusal (IsNoTable (d - 1) body) (0 < length body) r → IsRefusal (RawOutcomeWithin d amqp.FieldTable s) (RawHeavy amqp.FieldTable s) r
  table_refused r x = frame_refused_within amqp.FieldTable s body rest refl refl f d (IsNoTable (d - 1) body) no_table r x

  pub table_too_deep : d ≡ 0 → RawOutcomeWithin d amqp.FieldTable s malformed
  table_too_deep none =
      frame_malformed amqp.FieldTable s body rest refl refl f d
      (λ b left v p e. let r = table_body_within d body rest b left v f.fits p (sym f.framed ∙ e) in absurd (omega (arith, r.1)))

-- ---- a length in one byte

-- n is the length in the first byte of s, and that many bytes or more are left after it
module _ (s left : List ℕ) (n : ℕ) (few : n < 256) (e : IsNumberRead w8 s n left) (there : n ≤ length left) where
  -- they are n bytes after their length, and the others
  split_small : s ≡ short_field (take n left) ++ drop n left
  split_small =
      let size : n ≡ length (take n left) = sym (length-take-le n left there) in
      let low : n % 256 ≡ length (take n left) = omega arith in
      e ∙ ap₂ (λ (k : ℕ) (t : List ℕ). k ∷ t) low (sym (take-append-drop n left))

  small_counted : counted w8 s ≡ n
  small_counted = ap (counted w8) e ∙ omega arith

  -- the length-prefixed field is complete
  small_whole : lack amqp.ShortString s ≡ 0
  small_whole =
      let size : length s ≡ 1 + length left = ap length e ∙ omega arith in
      let known : frame_lack w8 s ≡ 1 + counted w8 s - length s = rw (le-ltb (length s) 1 (omega arith)) refl in
      omega (arith, small_counted)

  -- a short string is read if they are UTF-8
  pub short_found : IsUtf8 (take n left) → RawOutcome amqp.ShortString s (found (short (take n left)) (drop n left))
  short_found utf8 =
      let is : IsShort (take n left) = record { few = omega (arith, length-take-le n left there); utf8 = utf8 } in
      rw split_small (raw_found amqp.ShortString (short_field (take n left)) (drop n left) (short (take n left)) (raw_short (take n left) is))

  -- if they aren't, no prefix is a short string
  pub short_refused : (IsUtf8 (take n left) → ⊥) → RawOutcome amqp.ShortString s malformed
  short_refused none =
      raw_whole amqp.ShortString s malformed small_whole
      (λ b rest v p d. none (short_bytes (take n left) (drop n left) b rest v p (sym split_small ∙ d)).utf8)

  -- memory runs out only if there are any
  short_heavy : (t : List ℕ) → t ≡ take n left → 0 < length t → RawHeavy amqp.ShortString s
  short_heavy t is some = (tt, small_whole, omega (arith, ap length is, length-take-le n left there, small_counted))

  -- so an error of making the string of them is right
  pub short_error : (t : List ℕ) (e : Refusal) → t ≡ take n left → RefusesAs (λ kind. (kind ≡ MapRes) × (IsUtf8 t → ⊥)) (λ _. ⊥) (0 < length t) e → RawRefuses amqp.ShortString s e
  short_error t (Incomplete Unknown) is x = x
  short_error t (Incomplete (Size k)) is x = absurd x
  short_error t (Error kind) is x = (x.0, short_refused (λ utf8. x.1 (subst IsUtf8 (sym is) utf8)))
  short_error t (Failure kind) is x = (x.0, short_heavy t is x.1)
