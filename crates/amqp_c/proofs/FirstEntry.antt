-- Lemmas for src/entry.rt: the entry of the value at the start of some bytes (`GivesFirst`), and
-- which faults are right (`HeaderFaults`).
use Rattle.std.proofs.Common.{◌≡◌, ◌+◌, ◌-◌, ◌<◌, ◌≤◌, ◌^◌, ℕ, suc, nat_lt, if◌then◌else◌, Bool, true, false, Option, Some, None, List, [], ◌∷◌, ◌++◌, length, take, drop, refl, sym, ap, ap₂, ◌∙◌, subst, arith, length-append}
use Rattle.std.specs.Int.{Width, w32}
use Rattle.std.proofs.lemmas.List.{take_at, length-take-le, take-append-drop}
use borrow.Author.Tests.{ltb-true}
use Rattle.amqp_value_core.specs.declared.types.amqp_type.AMQPType.{AMQPType}
use Rattle.amqp_value_core.specs.declared.types.amqp_type.AMQPType.TheVariants as amqp
use Rattle.amqp_value_core.specs.Ids.{id_of}
use Rattle.amqp_value_core.specs.Names.{read_as}
use Rattle.amqp_value_core.specs.Values.{Tree, scalar, short, long, octets, array, table, scalar_type, Scalar, type_of}
use Rattle.amqp_value_core.specs.Layouts.{Layout, fixed}
use Rattle.amqp_value_core.specs.Grammar.{long_field, Wire, Raw, raw_fixed, raw_short, raw_long, raw_octets, raw_array, raw_table, ArrayBody, TableBody}
use Rattle.amqp_value_core.specs.Outcomes.{Reading, found, more, unknown, malformed, lack_of, fields_lack, length_field, no_byte, no_tag, needs_more, Outcome, RawOutcome}
use Rattle.amqp_value_core.proofs.GrammarLaws.{one_large, found_prefix, length-wire, one_outcome, raw_to_value, value_to_raw}
use Rattle.amq_protocol_types.specs.declared.parsing.errors.Err.TheVariants.{Incomplete, Error, Failure}
use Rattle.amq_protocol_types.specs.declared.parsing.errors.Needed.TheVariants.{Unknown, Size}
use Rattle.amq_protocol_types.specs.parsing.Refusals.{Refusal}
use Rattle.amq_protocol_types.specs.parsing.PayloadResults.{IsType, IsNoType, OnlyLacks}
use Rattle.amq_protocol_types.specs.parsing.Bodies.{IsLengthPrefixed, IsCutLengthPrefixed}
use Rattle.amq_protocol_types.specs.parsing.ParseResults.{IsRefusal}
use Rattle.amq_protocol_types.specs.parsing.Headers.{extent_of, extent_at, extent, wanted}
use Rattle.amq_protocol_types.proofs.ParsingLaws.{wire_extent, wanted_more, wanted_within, no_type_by}
use Rattle.amqp_in_place.specs.Bodies.{HasEntries}
use Rattle.amqp_in_place.proofs.Refusals.{by_outcome}
use Rattle.amqp_in_place.proofs.HeadLemmas.{no_type_whole}
use Rattle.amqp_in_place.proofs.Skipping.{frame_extent as framed_extent}
use Rattle.amqp_c.specs.declared.entry.Entry.{Entry}
use Rattle.amqp_c.specs.declared.fault.Fault.{Fault}
use Rattle.amqp_c.specs.declared.fault.Fault.TheVariants.{More, UnknownTag}
use Rattle.amqp_c.specs.CallResults.{header_fault}
use Rattle.amqp_c.specs.Entries.{HeaderFaults, HasNoNumber, DescribesValue, IsEntry, HoldsContent, IsTagged, has_content, part}
use Rattle.amqp_in_place.specs.Searches.{IsHeaded}
use Rattle.amqp_c.specs.Scalars.{bits_in, scale_in}
use Rattle.amqp_c.proofs.Parts.{part_prefix, part_content}

-- a value that is found has at least one byte
pub found_shorter : (s rest : List ℕ) (v : Tree) → Outcome s (found v rest) → length rest < length s
found_shorter s rest v x =
    let f = found_prefix s rest v x in
    omega (arith, ap length f.2, length-append f.0 rest, length-wire f.0 v f.1)

-- its bytes are an encoding
pub found_wire : (s rest : List ℕ) (v : Tree) (n : ℕ) → Outcome s (found v rest) → n + length rest ≡ length s → Wire (take n s) v
found_wire s rest v n x e =
    let f = found_prefix s rest v x in
    let size : length f.0 ≡ n = omega (arith, ap length f.2, length-append f.0 rest) in
    subst (λ (w : List ℕ). Wire w v) (sym (ap (take n) f.2 ∙ take_at f.0 rest n size)) f.1

-- ---- faults

-- if a value is found no fault is right
pub never_faulty : (s rest : List ℕ) (v : Tree) (f : Fault) → Outcome s (found v rest) → HeaderFaults (Outcome s) f → ⊥
never_faulty s rest v (More n) x y = let e = one_outcome s (found v rest) (more n) x y in cc
never_faulty s rest v UnknownTag x y = let e = one_outcome s (found v rest) unknown x y in cc
never_faulty s rest v _ x y = y

-- what is asked for is something
some_lack : (s : List ℕ) (n : ℕ) → Outcome s (more n) → 0 < n
some_lack _ _ no_byte = omega arith
some_lack _ _ (needs_more c type b n k is) = omega arith

-- an unknown type tag has no extent
no_extent : (s : List ℕ) → Outcome s unknown → extent s ≡ 0
no_extent _ (no_tag c b k) = ap (λ (o : Option AMQPType). extent_at o b) k

-- if one is right, fewer bytes are there than a header counts
pub cut_header : (s : List ℕ) (f : Fault) → HeaderFaults (Outcome s) f → IsHeaded s → ⊥
cut_header [] f x h = omega (arith, h.0)
cut_header (c ∷ b) (More n) x h =
    let is : wanted (c ∷ b) ≡ n = wanted_more Wire (c ∷ b) n x in
    let some : 0 < wanted (c ∷ b) = omega (arith, is, some_lack (c ∷ b) n x) in
    omega (arith, wanted_within (c ∷ b) (omega arith) some, some, h.1)
cut_header (c ∷ b) UnknownTag x h = omega (arith, no_extent (c ∷ b) x, h.0)
cut_header (c ∷ b) _ x h = x

-- ---- strings, byte arrays and containers

-- their length is in four bytes
counted_in_four : (type : AMQPType) → has_content type ≡ true → (fixed type ≡ None) × (length_field type ≡ w32)
counted_in_four amqp.LongString h = (refl, refl)
counted_in_four amqp.ByteArray h = (refl, refl)
counted_in_four amqp.FieldArray h = (refl, refl)
counted_in_four amqp.FieldTable h = (refl, refl)
counted_in_four _ h = absurd cc

-- if the field isn't complete more bytes are needed
cut : (s mid : List ℕ) (type : AMQPType) → IsType s type mid → has_content type ≡ true → (o : Reading) → IsCutLengthPrefixed mid o → Outcome s o
cut s mid type p h o x =
    let four = counted_in_four type h in
    let needed : RawOutcome type mid o = subst (RawOutcome type mid) (sym x.1) (x.0, ap₂ (λ (o : Option Layout) (w : Width). lack_of o w mid) four.0 four.1) in
    subst (λ (t : List ℕ). Outcome t o) (sym p.1) (raw_to_value p.0 type mid o p.2 needed)

-- an error of reading a type is one of the header
pub no_type_fault : (s : List ℕ) (e : Refusal) → IsRefusal (IsNoType s) ⊥ e → HeaderFaults (Outcome s) (header_fault e)
no_type_fault s e x =
    by_outcome (λ (e : Refusal). HeaderFaults (Outcome s) (header_fault e)) (IsNoType s) ⊥ (λ n y. no_type_by Wire s (more n) y) (λ y. no_type_by Wire s unknown y)
    (λ y. absurd (no_type_whole s y)) (λ k h. absurd h) e x

pub cut_fault : (s mid : List ℕ) (type : AMQPType) → IsType s type mid → has_content type ≡ true → (e : Refusal) → IsRefusal (IsCutLengthPrefixed mid) ⊥ e → HeaderFaults (Outcome s) (header_fault e)
cut_fault s mid type p h e x =
    by_outcome (λ (e : Refusal). HeaderFaults (Outcome s) (header_fault e)) (IsCutLengthPrefixed mid) ⊥ (λ n y. cut s mid type p h (more n) y)
    (λ y. let e = y.1 in absurd cc) (λ y. let e = y.1 in absurd cc) (λ k h. absurd h) e x

-- a field that is read has the extent of a long string with the same bytes
pub frame_extent : (s mid body rest : List ℕ) (type : AMQPType) → IsType s type mid → IsLengthPrefixed mid body rest → has_content type ≡ true → extent s + length rest ≡ length s
frame_extent s mid body rest type p f h =
    let four = counted_in_four type h in
    framed_extent s mid body rest type p f (ap₂ (λ (o : Option Layout) (w : Width). suc (extent_of o w mid)) four.0 four.1)

-- the bytes after the length are what v is
abbrev pub ContentIs : List ℕ → Tree → Type 0
ContentIs body (long b) = b ≡ body
ContentIs body (octets b) = b ≡ body
ContentIs body (array vs) = ArrayBody body vs
ContentIs body (table es) = HasEntries body es
ContentIs body _ = ⊥

content_in : (type : AMQPType) (b : List ℕ) (v : Tree) → Raw type b v → has_content type ≡ true → (body rest left : List ℕ) → length body < 2 ^ 32 → b ++ left ≡ long_field body ++ rest
    → ContentIs body v × (type_of v ≡ type) × (left ≡ rest)
content_in _ _ _ (raw_fixed type f b row len) h body rest left few e = absurd (let none = sym (counted_in_four type h).0 ∙ row in cc)
content_in _ _ _ (raw_short k is) h body rest left few e = absurd cc
content_in _ _ _ (raw_long k fits) h body rest left few e = let same = one_large k body left rest fits few e in (same.0, refl, same.1)
content_in _ _ _ (raw_octets k fits) h body rest left few e = let same = one_large k body left rest fits few e in (same.0, refl, same.1)
content_in _ _ _ (raw_array k vs fits all) h body rest left few e =
    let same = one_large k body left rest fits few e in
    (subst (λ (t : List ℕ). ArrayBody t vs) same.0 all, refl, same.1)
content_in _ _ _ (raw_table k ps es fits all mean) h body rest left few e =
    let same = one_large k body left rest fits few e in
    ((ps, subst (λ (t : List ℕ). TableBody t ps) same.0 all, mean), refl, same.1)

pub content_at_start : (type : AMQPType) (mid body rest : List ℕ) → IsLengthPrefixed mid body rest → has_content type ≡ true → (v : Tree) (left : List ℕ) → RawOutcome type mid (found v left)
    → ContentIs body v × (type_of v ≡ type) × (left ≡ rest)
content_at_start type mid body rest f h v left (b, raw, e) = content_in type b v raw h body rest left f.fits (sym e ∙ f.framed)

says_content : (s : List ℕ) (e : Entry) (body : List ℕ) (v : Tree) → HasNoNumber e → part s e.content ≡ body → ContentIs body v → DescribesValue s e v
says_content s e body (scalar y) none at x = absurd x
says_content s e body (short b) none at x = x
says_content s e body (long b) none at x = (at ∙ sym x, none)
says_content s e body (octets b) none at x = (at ∙ sym x, none)
says_content s e body (array vs) none at x = (subst (λ (t : List ℕ). ArrayBody t vs) (sym at) x, none)
says_content s e body (table es) none at x = (subst (λ (t : List ℕ). HasEntries t es) (sym at) x, none)

-- what is found of a value is its payload, of the type that was read
pub payload_at_start : (s mid : List ℕ) (type : AMQPType) → IsType s type mid → (v : Tree) (left : List ℕ) → Outcome s (found v left) → RawOutcome type mid (found v left)
payload_at_start s mid type p v left x =
    value_to_raw p.0 type mid (found v left) p.2 (subst (λ (t : List ℕ). Outcome t (found v left)) p.1 x)

-- the entry of a value whose field was read
pub content_entry : (s mid body rest : List ℕ) (type : AMQPType) → IsType s type mid → IsLengthPrefixed mid body rest → has_content type ≡ true
    → (e : Entry) → e.value.offset ≡ 0 → e.value.length + length rest ≡ length s → e.content.offset ≡ 5 → e.content.length ≡ length body → e.tag ≡ id_of type → HasNoNumber e
    → (v : Tree) (left : List ℕ) → Outcome s (found v left) → IsEntry s e v × (left ≡ rest)
content_entry s mid body rest type p f h e at size from count tag none v left x =
    let c = content_at_start type mid body rest f h v left (payload_at_start s mid type p v left x) in
    let w : Wire (take e.value.length s) v = found_wire s left v e.value.length x (omega (arith, ap length c.2)) in (
      record {
        encoding = subst (λ (t : List ℕ). Wire t v) (sym (part_prefix s e.value at)) w;
        tag = tag ∙ ap id_of (sym c.1);
        says = says_content s e body v none (part_content s mid body rest p.0 e.content p.1 f.framed from count) c.0;
      },
      c.2,
    )

-- the entry has the type that was read, and its content
pub is_tagged : (s mid : List ℕ) (type : AMQPType) → IsType s type mid → (e : Entry) → e.tag ≡ id_of type → (b : Bool) → has_content type ≡ b → HoldsContent b e → IsTagged s e
is_tagged s mid type p e tag b is holds =
    subst (λ (t : List ℕ). IsTagged t e) (sym p.1) (type, p.2, tag, subst (λ (b : Bool). HoldsContent b e) (sym is) holds)

-- a field that is read takes five bytes more than what it counts, with the type tag
pub frame_length : (s mid body rest : List ℕ) (type : AMQPType) → IsType s type mid → IsLengthPrefixed mid body rest → length s ≡ 5 + length body + length rest
frame_length s mid body rest type p f =
    let field : length (long_field body) ≡ 4 + length body = omega arith in
    omega (arith, ap length p.1, ap length f.framed, length-append (long_field body) rest, field)

-- ---- values of fixed width

id_in : Option Layout → List ℕ → ℕ
id_in (Some f) b = id_of (scalar_type (f.denotes b))
id_in None b = 0

-- the type tag of what a payload of fixed width means is that of its type
pub fixed_tag : (type : AMQPType) (f : Layout) (b : List ℕ) → fixed type ≡ Some f → id_of (scalar_type (f.denotes b)) ≡ id_of type
unfolding id_in
fixed_tag amqp.LongString f b is = absurd cc
fixed_tag amqp.ShortString f b is = absurd cc
fixed_tag amqp.ByteArray f b is = absurd cc
fixed_tag amqp.FieldArray f b is = absurd cc
fixed_tag amqp.FieldTable f b is = absurd cc
fixed_tag _ f b is = sym (ap (λ (o : Option Layout). id_in o b) is)

-- a value of a type that has no bytes after a length is of fixed width
pub record IsScalarTree (type : AMQPType) (v : Tree) : Type 0 where
  pub it : Scalar
  pub is : v ≡ scalar it
  pub tag : id_of (type_of v) ≡ id_of type

scalar_at_start : (type : AMQPType) (b : List ℕ) (v : Tree) → has_content type ≡ false → read_as type ≡ Some type → Raw type b v → IsScalarTree type v
scalar_at_start _ _ _ h r (raw_fixed type f b is size) = record { it = f.denotes b; is = refl; tag = fixed_tag type f b is }
scalar_at_start _ _ _ h r (raw_short k is) = absurd cc
scalar_at_start _ _ _ h r (raw_long k fits) = absurd cc
scalar_at_start _ _ _ h r (raw_octets k fits) = absurd cc
scalar_at_start _ _ _ h r (raw_array body vs fits p) = absurd cc
scalar_at_start _ _ _ h r (raw_table body ps es fits p mean) = absurd cc

-- so its payload is never malformed
fixed_layout : (type : AMQPType) → has_content type ≡ false → read_as type ≡ Some type → (f : Layout) × (fixed type ≡ Some f)
fixed_layout amqp.ShortString h r = absurd cc
fixed_layout amqp.LongString h r = absurd cc
fixed_layout amqp.ByteArray h r = absurd cc
fixed_layout amqp.FieldArray h r = absurd cc
fixed_layout amqp.FieldTable h r = absurd cc
fixed_layout _ h r = (_, refl)

fields_there : (f : Layout) (b : List ℕ) → fields_lack f b ≡ 0 → f.width ≤ length b
fields_there f b none = by (nat_lt (length b) f.first) refl none
  where
    by : (t : Bool) → nat_lt (length b) f.first ≡ t → (if t then f.first - length b else f.width - length b) ≡ 0 → f.width ≤ length b
    by true is z = absurd (omega (arith, ltb-true (length b) f.first is))
    by false is z = omega arith

never_malformed : (mid : List ℕ) (type : AMQPType) → has_content type ≡ false → read_as type ≡ Some type → RawOutcome type mid malformed → ⊥
never_malformed mid type h r (whole, none) =
    let row = fixed_layout type h r in
    let there = fields_there row.0 mid (sym (ap (λ (o : Option Layout). lack_of o (length_field type) mid) row.1) ∙ whole) in
    let b = take row.0.width mid in
    none b (drop row.0.width mid) (scalar (row.0.denotes b)) (raw_fixed type row.0 b row.1 (length-take-le row.0.width mid there)) (sym (take-append-drop row.0.width mid))

-- more bytes of a payload are needed for the value
pub lacks_only : (s mid : List ℕ) (type : AMQPType) → IsType s type mid → (e : Refusal) → OnlyLacks (RawOutcome type mid) ⊥ e → IsRefusal (Outcome s) ⊥ e
lacks_only s mid type p (Incomplete Unknown) x = x
lacks_only s mid type p (Incomplete (Size n)) x = subst (λ (t : List ℕ). Outcome t (more n)) (sym p.1) (raw_to_value p.0 type mid (more n) p.2 x)
lacks_only s mid type p (Error k) x = absurd x
lacks_only s mid type p (Failure k) x = x

pub scalar_fault : (s mid : List ℕ) (type : AMQPType) → IsType s type mid → has_content type ≡ false → read_as type ≡ Some type → (e : Refusal) → IsRefusal (Outcome s) ⊥ e
    → HeaderFaults (Outcome s) (header_fault e)
scalar_fault s mid type p h r e x =
    by_outcome (λ (e : Refusal). HeaderFaults (Outcome s) (header_fault e)) (Outcome s) ⊥ (λ n y. y) (λ y. y)
    (λ y. absurd (never_malformed mid type h r (value_to_raw p.0 type mid malformed p.2 (subst (λ (t : List ℕ). Outcome t malformed) p.1 y))))
    (λ k h. absurd h) e x

-- a value that is found has the extent that its header determines
pub found_extent : (s rest : List ℕ) (v : Tree) → Outcome s (found v rest) → extent s + length rest ≡ length s
found_extent s rest v x =
    let f = found_prefix s rest v x in
    omega (arith, ap extent f.2, wire_extent f.0 rest v f.1, ap length f.2, length-append f.0 rest)

says_scalar : (s : List ℕ) (e : Entry) (x : Scalar) (v : Tree) → v ≡ scalar x → e.bits ≡ bits_in v → e.scale ≡ scale_in v → e.content.length ≡ 0 → DescribesValue s e v
says_scalar s e x v is bits scale none =
    subst (DescribesValue s e) (sym is) (bits ∙ ap bits_in is, scale ∙ ap scale_in is, none)

-- the entry of a value that was read
pub scalar_entry : (s mid rest : List ℕ) (type : AMQPType) (u : Tree) → IsType s type mid → has_content type ≡ false → read_as type ≡ Some type → Outcome s (found u rest)
    → (e : Entry) → e.value.offset ≡ 0 → e.value.length + length rest ≡ length s → e.content.length ≡ 0 → e.tag ≡ id_of type → e.bits ≡ bits_in u → e.scale ≡ scale_in u
    → (v : Tree) (left : List ℕ) → Outcome s (found v left) → IsEntry s e v × (left ≡ rest)
scalar_entry s mid rest type u p h r y e at size none tag bits scale v left x =
    let same = one_outcome s (found v left) (found u rest) x y in
    let one : u ≡ v = cc in
    let after : left ≡ rest = cc in
    let raw = payload_at_start s mid type p v left x in
    let is = scalar_at_start type raw.0 v h r raw.1 in
    let w : Wire (take e.value.length s) v = found_wire s left v e.value.length x (omega (arith, ap length after)) in (
      record {
        encoding = subst (λ (t : List ℕ). Wire t v) (sym (part_prefix s e.value at)) w;
        tag = tag ∙ sym is.tag;
        says = says_scalar s e is.it v is.is (bits ∙ ap bits_in one) (scale ∙ ap scale_in one) none;
      },
      after,
    )
