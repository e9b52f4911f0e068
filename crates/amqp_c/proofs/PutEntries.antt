-- Lemmas on `IsEntryPut`: the encoding of each kind of `Item` that is put, and by which rules it is
-- an encoding.
use Rattle.std.proofs.Common.{◌≡◌, ◌+◌, ◌-◌, ◌<◌, ◌≤◌, ◌^◌, ℕ, suc, Bool, true, false, Option, Some, None, List, [], ◌∷◌, ◌++◌, length, take, Result, Ok, Err, MatchResult, refl, sym, ap, ap₂, ◌∙◌, subst, arith, inl, inr, if◌then◌else◌}
use Rattle.std.specs.Prelude.{option_map}
use Rattle.std.specs.Int.{w32, to_be_bytes}
use Rattle.std.proofs.lemmas.List.{take_at}
use Rattle.amqp_value_core.specs.declared.types.amqp_type.AMQPType.TheVariants.{FieldTable}
use Rattle.amqp_value_core.specs.Grammar.{Wire}
use Rattle.amqp_value_core.specs.Ids.{id_of}
use Rattle.amqp_value_core.specs.Outcomes.{found}
use Rattle.amqp_value_core.specs.Texts.{text}
use Rattle.amqp_value_core.specs.Values.{Tree, Scalar, scalar, long, octets}
use Rattle.amqp_value_core.proofs.GrammarLaws.{text_is_wire, prefix_within, wire_of}
use Rattle.amq_protocol_types.specs.parsing.Headers.{extent, wanted}
use Rattle.amq_protocol_types.specs.parsing.Limits.{Within}
use Rattle.amq_protocol_types.specs.parsing.Untagged.{tagged}
use Rattle.amq_protocol_types.proofs.ParsingLaws.{wire_extent}
use Rattle.amqp_in_place.specs.declared.problems.Problem as in_place
use Rattle.amqp_in_place.specs.declared.problems.Rules.{Rules}
use Rattle.amqp_in_place.specs.declared.problems.Rules.TheVariants.{Reading, AnyKeys}
use Rattle.amqp_in_place.specs.ProblemResults.{FindsValue}
use Rattle.amqp_in_place.specs.Problems.{problem_of, problem_in_table_of, without_tag}
use Rattle.amqp_in_place.proofs.AnyKeys.{none_of_any_keys, within_limits}
use Rattle.amqp_c.specs.declared.fault.Fault.{Fault}
use Rattle.amqp_c.specs.declared.input.Input.{Input}
use Rattle.amqp_c.specs.declared.container.Container.{Container}
use Rattle.amqp_c.specs.Inputs.{limits, is_untagged, encoding, first_problem, error_of, read_error}
use Rattle.amqp_c.specs.CallResults.{LacksRoom}
use Rattle.amqp_c.specs.Containers.{IsPlace, end_with, entry_of, up_to}
use Rattle.amqp_c.specs.Items.{IsScalarOf, IsStringTag, IsStringValue, IsEncodingBy, Item, encoded, IsPutEncoding, IsReadEncoding, IsEncodedBy, item_depth, missing_tag}
use Rattle.amqp_c.specs.BuildCalls.{IsPutFault}
use Rattle.amqp_c.specs.Growth.{IsAppended, IsEntryPut}
use Rattle.amqp_c.proofs.EncodingsByRules.{IsPlain, start_reads, value_whole}
use Rattle.amqp_c.proofs.Growth.{part_grown, grows_by}

-- what is appended is put
pub put_of : (item : Item) (old new k w : List ℕ) (into : Container) (r : Result Container Fault)
    → IsPlace (length old) into k → IsPutEncoding item w → ((rules : Rules) (depth : ℕ) → IsEncodedBy item rules → item_depth item ≤ depth → IsEncodingBy rules depth w)
    → MatchResult r (λ grown. IsAppended old into k w new × (grown ≡ up_to (end_with into k w) into)) (LacksRoom (end_with into k w) (length old))
    → MatchResult r (IsEntryPut item old into k new) (IsPutFault item old into k)
put_of item old new k w into (Ok grown) place encodes reads (is, reaches) = record {
  encoding = w;
  encodes = encodes;
  reads = reads;
  appended = is;
  reaches = reaches;
  grows = grows_by old new k w into grown (part_grown old new (entry_of into k w) into grown is.place.0 is.written reaches);
}
put_of item old new k w into (Err f) place encodes reads lacks = inr (place, inr (w, encodes, lacks))

-- a value of fixed width
pub scalar_wire : (tag bits scale : ℕ) (w : List ℕ) (x : Scalar) → IsScalarOf tag bits scale x → w ≡ text (scalar x) → Wire w (scalar x)
scalar_wire tag bits scale w x tells same = subst (λ (t : List ℕ). Wire t (scalar x)) (sym same) (text_is_wire (scalar x) tells.in_range tt refl)

-- a long string or a byte array, after its length
pub strings : (tag : ℕ) (b head w : List ℕ) → IsStringTag tag → length b < 2 ^ 32 → head ≡ tag ∷ to_be_bytes w32 (length b)
    → w ≡ head ++ b → (v : Tree) × IsStringValue tag b v × (length b < 2 ^ 32) × (w ≡ text v) × Wire w v × IsPlain v
strings tag b head w (inl is) fits counts written =
    let same : w ≡ text (long b) = written ∙ ap (λ (u : List ℕ). u ++ b) (counts ∙ ap (λ (n : ℕ). n ∷ to_be_bytes w32 (length b)) is) in
    (long b, inl (is, refl), fits, same, subst (λ (u : List ℕ). Wire u (long b)) (sym same) (text_is_wire (long b) tt fits refl), tt)
strings tag b head w (inr is) fits counts written =
    let same : w ≡ text (octets b) = written ∙ ap (λ (u : List ℕ). u ++ b) (counts ∙ ap (λ (n : ℕ). n ∷ to_be_bytes w32 (length b)) is) in
    (octets b, inr (is, refl), fits, same, subst (λ (u : List ℕ). Wire u (octets b)) (sym same) (text_is_wire (octets b) tt fits refl), tt)

-- ---- values that are read

-- no error is reported if the first problem is none
none_first : (p : Option in_place.Problem) (n : ℕ) → option_map (λ q. error_of q n) p ≡ None → p ≡ None
none_first None n is = refl
none_first (Some p) n is = absurd cc

none_tagged : (p : Option in_place.Problem) → option_map without_tag p ≡ None → p ≡ None
none_tagged None is = refl
none_tagged (Some p) is = absurd cc

module _ (rules : Rules) (input : Input) where
  -- nothing is wrong with what is read
  pub no_problem : read_error rules input ≡ None → problem_of rules (limits input) (encoding input) ≡ None
  no_problem none = by (is_untagged input) (none_first (first_problem rules input) (wanted (encoding input)) none)
    where
      by : (b : Bool) → (if b then problem_in_table_of rules (limits input) input.bytes.now else problem_of rules (limits input) input.bytes.now) ≡ None
          → problem_of rules (limits input) (if b then tagged FieldTable input.bytes.now else input.bytes.now) ≡ None
      by true is = none_tagged (problem_of rules (limits input) (tagged FieldTable input.bytes.now)) is
      by false is = is

  -- all of its bytes are there
  extent_there : read_error rules input ≡ None → (0 < extent (encoding input)) × (extent (encoding input) ≤ length (encoding input))
  extent_there none = value_whole rules input.max_depth (encoding input) (within_limits rules (limits input) (encoding input) (no_problem none)).1

  -- they are read by these rules, and by those of any keys
  pub read_by : read_error rules input ≡ None → (other : Rules) (depth : ℕ) → IsEncodedBy (encoded rules input) other → input.max_depth ≤ depth
      → IsEncodingBy other depth (take (extent (encoding input)) (encoding input))
  read_by none other depth (inl same) deep =
      subst (λ (r : Rules). IsEncodingBy r depth (take (extent (encoding input)) (encoding input))) (sym same)
      (start_reads rules input.max_depth depth (encoding input) deep (within_limits rules (limits input) (encoding input) (no_problem none)).1)
  read_by none other depth (inr (reading, same)) deep =
      let weaker = none_of_any_keys (limits input) (encoding input) (subst (λ (r : Rules). problem_of r (limits input) (encoding input) ≡ None) reading (no_problem none)) in
      subst (λ (r : Rules). IsEncodingBy r depth (take (extent (encoding input)) (encoding input))) (sym same)
      (start_reads AnyKeys input.max_depth depth (encoding input) deep (within_limits AnyKeys (limits input) (encoding input) weaker).1)

  -- what is put is what was read
  pub read_encoding : (w : List ℕ) → read_error rules input ≡ None → (rules ≡ Reading → FindsValue (limits input) (encoding input)) → w ≡ take (extent (encoding input)) (encoding input)
      → IsReadEncoding rules input w
  read_encoding w none finds is = record { read = none; bytes = is; value = λ reading. by (finds reading) }
    where
      by : FindsValue (limits input) (encoding input) → (v : Tree) × (rest : List ℕ) × Within (limits input) (encoding input) (found v rest) × (encoding input ≡ w ++ rest) × Wire w v
      by (v, rest, x) =
          let f = prefix_within input.max_depth (encoding input) rest v x.1 in
          let p = wire_of input.max_depth f.0 v f.1 in
          let count : extent (encoding input) ≡ length f.0 = ap extent f.2 ∙ wire_extent f.0 rest v p in
          let same : f.0 ≡ w = sym (is ∙ (ap₂ (λ (n : ℕ) (t : List ℕ). take n t) count f.2 ∙ take_at f.0 rest (length f.0) refl)) in
          (v, rest, x, f.2 ∙ ap (λ (t : List ℕ). t ++ rest) same, subst (λ (t : List ℕ). Wire t v) same p)

  -- the type tag that the input lacks, and then bytes of it
  abbrev tag_if : Bool → List ℕ
  tag_if b = if b then id_of FieldTable ∷ [] else []

  tag_then : (b : Bool) (n : ℕ) → 0 < n → tag_if b ++ take (n - length (tag_if b)) input.bytes.now ≡ take n (if b then tagged FieldTable input.bytes.now else input.bytes.now)
  tag_then true n some =
      let one : suc (n - 1) ≡ n = omega (arith, some) in
      ap (λ (m : ℕ). take m (70 ∷ input.bytes.now)) one
  tag_then false n some =
      let same : n - 0 ≡ n = omega arith in
      ap (λ (m : ℕ). take m input.bytes.now) same

  tag_length : (b : Bool) → (length (tag_if b) ≤ 1) × (length (if b then tagged FieldTable input.bytes.now else input.bytes.now) ≡ length (tag_if b) + length input.bytes.now)
  tag_length true = (omega arith, omega arith)
  tag_length false = (omega arith, omega arith)

  -- what is copied of the input is there, and short enough
  pub bytes_there : (n : ℕ) (t : List ℕ) → read_error rules input ≡ None → n ≡ extent (encoding input) → t ≡ missing_tag input → (length t ≤ 1) × (n - length t ≤ length input.bytes.now)
  bytes_there n t none counts is =
      let there = extent_there none in
      let tag = tag_length (is_untagged input) in
      (omega (arith, ap length is, tag.0), omega (arith, ap length is, counts, there.1, tag.1))

  pub copied : (n : ℕ) (t : List ℕ) → read_error rules input ≡ None → n ≡ extent (encoding input) → t ≡ missing_tag input → t ++ take (n - length t) input.bytes.now ≡ take (extent (encoding input)) (encoding input)
  copied n t none counts is =
      ap₂ (λ (m : ℕ) (u : List ℕ). u ++ take (m - length u) input.bytes.now) counts is ∙ tag_then (is_untagged input) (extent (encoding input)) (extent_there none).0
