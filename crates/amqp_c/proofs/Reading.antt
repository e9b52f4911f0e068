-- Lemmas on reading the value at the start of an input: its entry, a view of it, and whether it is canonical.
use Rattle.std.proofs.Common.{◌≡◌, ◌+◌, ℕ, Bool, true, false, if◌then◌else◌, Option, Some, None, option_map, List, length, Result, Ok, Err, IfOk, IfErr, MatchResult, refl, sym, ap, ◌∙◌, subst, arith, ◌<◌, ◌^◌, ◌∷◌, ◌++◌, IfSome}
use Rattle.std.specs.Prelude.{MatchBool, is_some}
use Rattle.amqp_value_core.specs.declared.types.amqp_type.AMQPType.TheVariants as amqp
use Rattle.amqp_value_core.specs.Values.{Tree, scalar, short, long, octets, array, table, type_of, Entries}
use Rattle.amqp_value_core.specs.Outcomes.{found, Outcome}
use Rattle.amqp_value_core.proofs.GrammarLaws.{prefix_within, wire_found, wire_of, canon_is_text, read_is_value, text_is_canon, what_is_read}
use Rattle.amqp_value_core.specs.declared.types.amqp_type.AMQPType.TheVariants.{FieldTable}
use Rattle.amqp_value_core.specs.Grammar.{long_field}
use Rattle.amqp_value_core.specs.Bytes.{IsBytes}
use Rattle.amqp_value_core.specs.Texts.{text}
use Rattle.amqp_value_core.proofs.Bytes.{bytes_before}
use Rattle.amq_protocol_types.specs.declared.parsing.within.Limits.{Limits}
use Rattle.amq_protocol_types.specs.parsing.Bodies.{IsLengthPrefixed}
use Rattle.amq_protocol_types.specs.parsing.Headers.{wanted}
use Rattle.amq_protocol_types.specs.parsing.Limits.{Within}
use Rattle.amq_protocol_types.specs.parsing.Untagged.{tagged, UntaggedWithin}
use Rattle.amqp_in_place.specs.declared.problems.Problem as in_place
use Rattle.amqp_in_place.specs.declared.problems.Rules.{Rules}
use Rattle.amqp_in_place.specs.Bodies.{HasEntries}
use Rattle.amqp_in_place.specs.Problems.{without_tag, inside, problem_of, problem_in_table_of}
use Rattle.amqp_in_place.specs.ProblemResults.{FindsValue}
use Rattle.amqp_in_place.proofs.AnyKeys.{within_limits}
use Rattle.amqp_in_place.specs.declared.refs.TableRef.{TableRef}
use Rattle.amqp_in_place.specs.declared.refs.ValueRef.TheVariants as at
use Rattle.amqp_in_place.specs.Refs.{table_body}
use Rattle.amqp_in_place.specs.Canonicals.{IsCanonicalLen}
use Rattle.amqp_c.specs.declared.entry.Entry.{Entry}
use Rattle.amqp_c.specs.declared.fault.Fault.{Fault}
use Rattle.amqp_c.specs.declared.input.Input.{Input}
use Rattle.amqp_c.specs.Inputs.{limits, is_untagged, encoding, error_of, first_problem, read_error}
use Rattle.amqp_c.specs.Entries.{part, HeaderFaults, GivesFirst, IsEntryAtStart, EntryIsIn}
use Rattle.amqp_c.specs.Reads.{IsTableTaken, untagged_table, IsFirstTable, GivesTable, IsPrefixedTable, IsEntryBy, IsEntryOf, IsReadBy, IsReadEntry, IsViewOf, IsEncodedSo, IsTold}
use Rattle.amqp_in_place.specs.Searches.{IsHeaded}
use Rattle.amqp_c.proofs.EncodingsByRules.{value_whole}
use Rattle.amqp_c.proofs.Parts.{part_content}
use Rattle.amqp_c.proofs.FirstEntry.{ContentIs, content_at_start, payload_at_start, cut_header, frame_extent, frame_length}
use Rattle.amqp_c.proofs.ReadErrors.{of_parts, read_without_error}

-- ---- no problem

-- a value in which there is no problem is all there, by its header
headed : (rules : Rules) (l : Limits) (s : List ℕ) → problem_of rules l s ≡ None → IsHeaded s
headed rules l s none = value_whole rules l.depth s (within_limits rules l s none).1

-- without its type tag too
no_untagged : (x : Option in_place.Problem) → option_map without_tag x ≡ None → x ≡ None
no_untagged None is = refl
no_untagged (Some p) is = absurd cc

table_headed : (rules : Rules) (l : Limits) (s : List ℕ) → problem_in_table_of rules l s ≡ None → IsHeaded (tagged amqp.FieldTable s)
table_headed rules l s none = headed rules l (tagged amqp.FieldTable s) (no_untagged (problem_of rules l (tagged amqp.FieldTable s)) none)

-- so a value that isn't refused has an entry
no_error : (rules : Rules) (input : Input) (x : Option in_place.Problem) → option_map (λ p. error_of p (wanted (encoding input))) x ≡ None → x ≡ None
no_error rules input None is = refl
no_error rules input (Some p) is = absurd cc

pub has_entry : (rules : Rules) (input : Input) (f : Fault) → read_error rules input ≡ None → HeaderFaults (Outcome (encoding input)) f → ⊥
has_entry rules input f none = by (is_untagged input) (no_error rules input (first_problem rules input) none)
  where
    by : (b : Bool) → (if b then problem_in_table_of rules (limits input) input.bytes.now else problem_of rules (limits input) input.bytes.now) ≡ None
        → HeaderFaults (Outcome (if b then tagged amqp.FieldTable input.bytes.now else input.bytes.now)) f → ⊥
    by true is refused = cut_header (tagged amqp.FieldTable input.bytes.now) f refused (table_headed rules (limits input) input.bytes.now is)
    by false is refused = cut_header input.bytes.now f refused (headed rules (limits input) input.bytes.now is)

-- ---- the entry of a table without its type tag

-- no byte is left out of what its length counts
module _ (s body rest : List ℕ) (e : Entry) (f : IsLengthPrefixed s body rest) (is : e ≡ untagged_table (length body)) where
  sizes : (length (tagged amqp.FieldTable s) ≡ 5 + length body + length rest) × (e.value.length ≡ 4 + length body) × (e.content.length ≡ length body)
  sizes = (frame_length (tagged amqp.FieldTable s) s body rest amqp.FieldTable (70, refl, refl) f, ap (λ (x : Entry). x.value.length) is, ap (λ (x : Entry). x.content.length) is)

  content_is : part s e.content ≡ body
  content_is =
      ap (λ (x : Entry). part s x.content) is ∙ part_content (tagged amqp.FieldTable s) s body rest 70 (record { offset = 5; length = length body }) refl f.framed refl refl

  table_given : (v : Tree) (left : List ℕ) → ContentIs body v → type_of v ≡ amqp.FieldTable → left ≡ rest → GivesTable s v left e
  table_given (table es) left all type same =
      (subst (λ (u : List ℕ). HasEntries u es) (sym content_is) all, omega (arith, sizes.0, sizes.1, ap length same))
  table_given (scalar y) left all type same = absurd all
  table_given (short b) left all type same = absurd all
  table_given (long b) left all type same = absurd cc
  table_given (octets b) left all type same = absurd cc
  table_given (array vs) left all type same = absurd cc

  first_table_is : IsFirstTable s e
  first_table_is =
      let whole = frame_extent (tagged amqp.FieldTable s) s body rest amqp.FieldTable (70, refl, refl) f refl in record {
        entry = is ∙ ap untagged_table (sym sizes.2);
        size = omega (arith, sizes.0, sizes.1, whole);
        inside = omega (arith, sizes.0, sizes.1);
        faithful = λ v left x.
            let c = content_at_start amqp.FieldTable s body rest f refl v left (payload_at_start (tagged amqp.FieldTable s) s amqp.FieldTable (70, refl, refl) v left x) in
            table_given v left c.0 c.1 c.2;
      }

-- the entry is given, of a table and of a value
pub table_peeked : (input : Input) (done : Result Entry Fault) → is_untagged input ≡ true
    → MatchResult done (IsPrefixedTable input.bytes.now) (HeaderFaults (Outcome (tagged amqp.FieldTable input.bytes.now))) → MatchResult done (IsEntryOf input) (HeaderFaults (Outcome (encoding input)))
table_peeked input (Ok e) is (body, rest, f, same) = rw is (first_table_is input.bytes.now body rest e f same)
table_peeked input (Err f) is x = rw is x

pub value_peeked : (input : Input) (done : Result Entry Fault) → is_untagged input ≡ false → ((v : Tree) (rest : List ℕ) → Outcome input.bytes.now (found v rest) → GivesFirst input.bytes.now v rest done)
    → IfOk done (EntryIsIn (length input.bytes.now)) → IfOk done (IsEntryAtStart input.bytes.now) → IfErr done (HeaderFaults (Outcome input.bytes.now))
    → MatchResult done (IsEntryOf input) (HeaderFaults (Outcome (encoding input)))
value_peeked input (Ok e) is faithful inside at_start refused = rw is (record { at_start = at_start; inside = inside; faithful = faithful })
value_peeked input (Err f) is faithful inside at_start refused = rw is refused

-- ---- the value that is read

-- what is found within limits is found
found_there : (l : Limits) (s rest : List ℕ) (v : Tree) → Within l s (found v rest) → Outcome s (found v rest)
found_there l s rest v x =
    let f = prefix_within l.depth s rest v x.1 in
    subst (λ (t : List ℕ). Outcome t (found v rest)) (sym f.2) (wire_found f.0 rest v (wire_of l.depth f.0 v f.1))

table_taken : (l : Limits) (s rest : List ℕ) (e : Entry) (v : Tree) → IsFirstTable s e → Within l (tagged amqp.FieldTable s) (found v rest) → GivesTable s v rest e → IsTableTaken l s e
table_taken l s rest e (table es) is x g = record { entries = es; rest = rest; read = x; taken = g.1; pairs = g.0; entry = is.entry }
table_taken l s rest e (scalar y) is x g = absurd g
table_taken l s rest e (short b) is x g = absurd g
table_taken l s rest e (long b) is x g = absurd g
table_taken l s rest e (octets b) is x g = absurd g
table_taken l s rest e (array vs) is x g = absurd g

pub value_read : (input : Input) (e : Entry) → IsEntryOf input e → FindsValue (limits input) (encoding input) → IsReadEntry input e
value_read input e = by (is_untagged input)
  where
    by : (b : Bool) → IsEntryBy b input.bytes.now e → FindsValue (limits input) (if b then tagged amqp.FieldTable input.bytes.now else input.bytes.now) → IsReadBy b (limits input) input.bytes.now e
    by true is (v, rest, x) =
        let s = input.bytes.now in
        table_taken (limits input) s rest e v is x (is.faithful v rest (found_there (limits input) (tagged amqp.FieldTable s) rest v x))
    by false is (v, rest, x) =
        let g = is.faithful v rest (found_there (limits input) input.bytes.now rest v x) in
        record { meaning = v; rest = rest; read = x; taken = g.2; entry = g.0; at_start = is.at_start; inside = is.inside }

-- ---- a view

-- a table without its type tag
pub table_view : (l : Limits) (s : List ℕ) (t : TableRef) (rest : List ℕ) → IsBytes s → s ≡ long_field (table_body t) ++ rest → length (table_body t) < 2 ^ 32
    → ((es : Entries) × HasEntries (table_body t) es × UntaggedWithin l FieldTable s (found (table es) rest)) → IsViewOf l (tagged FieldTable s) (at.FieldTable t) rest
table_view l s t rest bytes framed few (es, entries, within) =
    ((omega arith, bytes), (70, refl, few, ap (λ (b : List ℕ). 70 ∷ b) framed), (table es, (es, entries, refl), within))

-- ---- whether it is encoded canonically

encoding_bytes : (input : Input) → IsBytes input.bytes.now → IsBytes (encoding input)
encoding_bytes input bytes = by (is_untagged input)
  where
    by : (b : Bool) → IsBytes (if b then tagged FieldTable input.bytes.now else input.bytes.now)
    by true = (omega arith, bytes)
    by false = bytes

module _ (input : Input) (bytes : IsBytes (encoding input)) where
  -- a canonical encoding at the start is what is written for its value
  canonical_told : (n : ℕ) → IsCanonicalLen (limits input) (encoding input) n → IsEncodedSo true input
  canonical_told n (w, rest, v, e, size, x, within) =
      (v, rest, within, e ∙ ap (λ (t : List ℕ). t ++ rest) (canon_is_text w v (bytes_before w rest (subst IsBytes e bytes)) x))

  -- where there is none, another is
  other_told : ((n : ℕ) → IsCanonicalLen (limits input) (encoding input) n → ⊥) → FindsValue (limits input) (encoding input) → IsEncodedSo false input
  other_told none (v, rest, within) =
      let f = prefix_within (limits input).depth (encoding input) rest v within.1 in
      let wire = wire_of (limits input).depth f.0 v f.1 in
      let read = what_is_read f.0 v wire in
      let is = read_is_value f.0 v (bytes_before f.0 rest (subst IsBytes f.2 bytes)) wire in
      (v, rest, within, λ e. none (length (text v)) (text v, rest, v, e, refl, text_is_canon v is read.0 read.1, within))

-- what is told of a search for a canonical encoding, which gives its length without the type tag
pub told : (input : Input) → IsBytes input.bytes.now → (l : Limits) (s : List ℕ) (b : Bool) → l ≡ limits input → s ≡ input.bytes.now → is_untagged input ≡ b → (all : ℕ → ℕ) (r : Option ℕ)
    → IfSome r (λ n. IsCanonicalLen l (if b then tagged FieldTable s else s) (all n)) → (r ≡ None → (n : ℕ) → IsCanonicalLen l (if b then tagged FieldTable s else s) n → ⊥)
    → (c : Bool) → c ≡ is_some r → MatchBool c (IsTold input (Ok true)) (FindsValue (limits input) (encoding input) → IsEncodedSo false input)
told input bytes l s b same_limits same_bytes untagged all (Some n) len absent c is =
    let there = of_parts (λ (q : Limits) (given t : List ℕ). IsCanonicalLen q t (all n)) input l s b same_limits same_bytes untagged len in
    let all_bytes = encoding_bytes input bytes in
    rw is (read_without_error input bytes (there.2, there.1, there.6), canonical_told input all_bytes (all n) there)
told input bytes l s b same_limits same_bytes untagged all None len absent c is =
    let never = of_parts (λ (q : Limits) (given t : List ℕ). (n : ℕ) → IsCanonicalLen q t n → ⊥) input l s b same_limits same_bytes untagged (absent refl) in
    rw is (other_told input (encoding_bytes input bytes) never)
