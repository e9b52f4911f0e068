-- `has_lines`: the lines of a stream are those of the values that it begins with. `Progress`: the
-- loop of `write_stream` writes them one after another.
use Rattle.std.proofs.Common.{◌≡◌, ◌<◌, ◌≤◌, ◌+◌, ℕ, zero, suc, Bool, true, false, Option, Some, None, Result, Ok, Err, List, [], ◌∷◌, ◌++◌, ◌⊎◌, length, take, codes, refl, sym, ap, ◌∙◌, subst, arith, inl, inr, append-nil, append_assoc, length-append}
use Rattle.std.specs.Option.{IfSome}
use Rattle.std.specs.Io.KnownBytes.{Appends}
use Rattle.std.proofs.KnownBytes.{Appends-trans}
use Rattle.amqp_value_core.specs.declared.value.AMQPValue.{AMQPValue}
use Rattle.amqp_value_core.specs.Values.{Tree}
use Rattle.amqp_value_core.specs.View.{view}
use Rattle.amqp_value_core.specs.Bytes.{IsBytes}
use Rattle.amqp_value_core.specs.Outcomes.{Reading, found, more, unknown, malformed, no_byte}
use Rattle.amqp_value_core.proofs.Bytes.{bytes_after}
use Rattle.amqp_value_core.proofs.GrammarLaws.{wire_of, length-wire, one_reading}
use Rattle.amq_protocol_types.specs.declared.parsing.errors.ErrorKind.{ErrorKind}
use Rattle.amq_protocol_types.specs.declared.parsing.errors.ErrorKind.TheVariants.{MapOpt, MapRes, Eof, OutOfMemory, TooLarge}
use Rattle.amq_protocol_types.specs.declared.stream.error.StreamError.{StreamError}
use Rattle.amq_protocol_types.specs.declared.stream.error.StreamError.TheVariants as stream
use Rattle.amq_protocol_types.specs.declared.parsing.within.Limits.{Limits}
use Rattle.amq_protocol_types.specs.parsing.Limits.{Within}
use Rattle.amq_protocol_types.specs.stream.Readers.{IsOutcomeOfAll}
use Rattle.amq_protocol_types.specs.stream.ReadSoFar.{BeginsWithValues}
use Rattle.amq_protocol_types.proofs.ParsingLaws.{found_begins, begins_found, begins_after}
use Rattle.amqp_wire.specs.Lines.{read_within, AppendsTextPrefix, kind_name}
use Rattle.amqp_wire.specs.Streams.{value_line, last_line, stream_step, stream_text, BeginsNone, AreStreamValues, value_lines, HasLines, LeavesAfterValues, IsLine}
use Rattle.amqp_wire.proofs.Output.{IsOutputUpTo, written_more, written_part}
use Rattle.amqp_wire.proofs.Outcomes.{read_is, read_holds, too_large}

-- ---- what is at the start

-- if reading results in no value, none is there
abbrev HasNoValue : Option Reading → Type 0
HasNoValue o = (v : Tree) (rest : List ℕ) → o ≡ Some (found v rest) → ⊥

none_begins : (l : Limits) (s : List ℕ) → IsBytes s → HasNoValue (read_within l s) → BeginsNone l s
none_begins l s bytes none = λ w rest v e p few. none v rest (read_is l s (found v rest) bytes (begins_found l s w rest v e p few))

no_value : (l : Limits) (s : List ℕ) → IsBytes s → BeginsNone l s → HasNoValue (read_within l s)
no_value l s bytes none = λ v rest e.
    let b = found_begins l s rest v (read_holds l s (found v rest) bytes e) in
    none b.0 b.1 v b.2 b.3 b.4

-- a value or no value
value_or_none : (o : Option Reading) → ((v : Tree) × (rest : List ℕ) × (o ≡ Some (found v rest))) ⊎ HasNoValue o
value_or_none None = inr (λ v rest e. cc)
value_or_none (Some (found v rest)) = inl (v, rest, refl)
value_or_none (Some (more n)) = inr (λ v rest e. cc)
value_or_none (Some unknown) = inr (λ v rest e. cc)
value_or_none (Some malformed) = inr (λ v rest e. cc)

-- that many values are followed by the same
begins_unique : (l : Limits) (s a b : List ℕ) (us vs : List Tree) → BeginsWithValues l s us a → BeginsWithValues l s vs b → length us ≡ length vs → a ≡ b
begins_unique l s a b [] [] p q e = sym p ∙ q
begins_unique l s a b [] (v ∷ vs) p q e = absurd (omega (arith, e))
begins_unique l s a b (u ∷ us) [] p q e = absurd (omega (arith, e))
begins_unique l s a b (u ∷ us) (v ∷ vs) (w, rest, is, p, few, others) (x, left, is', q, few', others') e =
    let same = one_reading w x rest left u v (wire_of l.depth w u p) (wire_of l.depth x v q) (sym is ∙ is') in
    begins_unique l left a b us vs (subst (λ (t : List ℕ). BeginsWithValues l t us a) same.2 others) others' (omega (arith, e))

-- and if no value follows there are no more
begins_more : (l : Limits) (s a b : List ℕ) (us vs : List Tree) → BeginsWithValues l s us a → BeginsNone l a → BeginsWithValues l s vs b → length us < length vs → ⊥
begins_more l s a b us [] p none q lt = omega (arith, lt)
begins_more l s a b [] (v ∷ vs) p none (x, left, is, q, few, others) lt = none x left v (sym p ∙ is) q few
begins_more l s a b (u ∷ us) (v ∷ vs) (w, rest, is, p, few, others) none (x, left, is', q, few', others') lt =
    let same = one_reading w x rest left u v (wire_of l.depth w u p) (wire_of l.depth x v q) (sym is ∙ is') in
    begins_more l left a b us vs (subst (λ (t : List ℕ). BeginsWithValues l t us a) same.2 others) none others' (omega (arith, lt))

-- ---- the lines of all values

step_none : (others : List ℕ → List ℕ) (s : List ℕ) (o : Option Reading) → HasNoValue o → stream_step others s o ≡ last_line s o
step_none others s None none = refl
step_none others s (Some (found v rest)) none = absurd (none v rest refl)
step_none others s (Some (more n)) none = refl
step_none others s (Some unknown) none = refl
step_none others s (Some malformed) none = refl

-- a value's line comes first
step_value : (l : Limits) (n : ℕ) (s rest : List ℕ) (v : Tree) → read_within l s ≡ Some (found v rest) → stream_text l (suc n) s ≡ value_line v ++ stream_text l n rest
step_value l n s rest v e = ap (stream_step (stream_text l n) s) e

are_lines : (l : Limits) (most : ℕ) (s : List ℕ) → IsBytes s → (vs : List Tree) (left : List ℕ) → AreStreamValues l s vs left
    → (most ≤ length vs → stream_text l most s ≡ value_lines (take most vs))
    × (length vs < most → stream_text l most s ≡ value_lines vs ++ last_line left (read_within l left))
are_lines l zero s bytes vs left p = (λ le. refl, λ lt. absurd (omega (arith, lt)))
are_lines l (suc n) s bytes [] left (is, none) =
    let here = no_value l left (subst IsBytes is bytes) none in
    (λ le. absurd (omega (arith, le)), λ lt. ap (stream_text l (suc n)) is ∙ step_none (stream_text l n) left (read_within l left) here)
are_lines l (suc n) s bytes (v ∷ vs) left ((w, rest, is, p, few, others), none) =
    let first = step_value l n s rest v (read_is l s (found v rest) bytes (begins_found l s w rest v is p few)) in
    let next = are_lines l n rest (bytes_after w rest (subst IsBytes is bytes)) vs left (others, none) in (
      λ le. first ∙ ap (λ (t : List ℕ). value_line v ++ t) (next.0 (omega (arith, le))),
      λ lt. first ∙ ap (λ (t : List ℕ). value_line v ++ t) (next.1 (omega (arith, lt))) ∙ sym (append_assoc (value_line v) (value_lines vs) (last_line left (read_within l left))),
    )

-- a stream has values, if only zero
has_values : (l : Limits) (n : ℕ) (s : List ℕ) → IsBytes s → length s < n → (vs : List Tree) × (left : List ℕ) × AreStreamValues l s vs left
has_values l zero s bytes lt = absurd (omega (arith, lt))
has_values l (suc n) s bytes lt = elim (value_or_none (read_within l s)) [
  | inl (v, rest, e) ↦
      let (w, r, is, p, few, same) = found_begins l s rest v (read_holds l s (found v rest) bytes e) in
      let (vs, left, both) = has_values l n r (bytes_after w r (subst IsBytes is bytes)) (omega (arith, lt, ap length is, length-append w r, length-wire w v (wire_of l.depth w v p))) in
      (v ∷ vs, left, ((w, r, is, p, few, both.0), both.1))
  | inr none ↦ ([], s, (refl, none_begins l s bytes none))
]

pub has_lines : (l : Limits) (most : ℕ) → HasLines l most
has_lines l most = λ s bytes. (has_values l (suc (length s)) s bytes (omega arith), are_lines l most s bytes)

-- ---- each result's line

pub value_line_is : (l : Limits) (s : List ℕ) (left : Option (List ℕ)) (v : AMQPValue) (line : List ℕ) → line ≡ value_line (view v) → IsBytes s → IsOutcomeOfAll l s left (Ok (Some v)) → IsLine l s left line true
value_line_is l s left v line e bytes (rest, x, is) =
    let b = found_begins l s rest (view v) x in
    (view v, rest, subst IsBytes b.5 (bytes_after b.0 b.1 (subst IsBytes b.2 bytes)), read_is l s (found (view v) rest) bytes x, b, e, is)

-- reading results in no value, and so the line is the last one
last_line_is : (l : Limits) (s : List ℕ) (left : Option (List ℕ)) (line : List ℕ) (o : Option Reading) → IsBytes s → read_within l s ≡ o → HasNoValue o → line ≡ last_line s o → IsLine l s left line false
last_line_is l s left line o bytes is none e = (e ∙ ap (last_line s) (sym is), none_begins l s bytes (subst HasNoValue (sym is) none))

pub end_line_is : (l : Limits) (s : List ℕ) (left : Option (List ℕ)) (line : List ℕ) → line ≡ codes "end\n" → IsBytes s → IsOutcomeOfAll l s left (Ok None) → IsLine l s left line false
end_line_is l [] left line e bytes (none, is) = last_line_is l [] left line (Some (more 1)) bytes (read_is l [] (more 1) bytes (omega arith, no_byte)) (λ v rest c. cc) e
end_line_is l (c ∷ s) left line e bytes (none, is) = absurd cc

pub cut_line_is : (l : Limits) (s : List ℕ) (left : Option (List ℕ)) (line : List ℕ) → line ≡ codes "truncated\n" → IsBytes s → IsOutcomeOfAll l s left (Err stream.Truncated) → IsLine l s left line false
cut_line_is l [] left line e bytes (some, x, is) = absurd (omega (arith, some))
cut_line_is l (c ∷ s) left line e bytes (some, (n, x), is) = last_line_is l (c ∷ s) left line (Some (more n)) bytes (read_is l (c ∷ s) (more n) bytes x) (λ v rest d. cc) e

pub refused_line_is : (l : Limits) (s : List ℕ) (left : Option (List ℕ)) (line : List ℕ) (kind : ErrorKind) → line ≡ codes "refused " ++ (kind_name kind ++ 10 ∷ []) → IsBytes s → IsOutcomeOfAll l s left (Err (stream.Refused kind)) → IsLine l s left line false
refused_line_is l s left line MapOpt e bytes x = last_line_is l s left line (Some unknown) bytes (read_is l s unknown bytes x) (λ v rest d. cc) e
refused_line_is l s left line Eof e bytes x = last_line_is l s left line (Some malformed) bytes (read_is l s malformed bytes x) (λ v rest d. cc) e
refused_line_is l s left line TooLarge e bytes x = last_line_is l s left line None bytes (too_large l s x) (λ v rest d. cc) e
refused_line_is l s left line MapRes e bytes x = absurd x
refused_line_is l s left line OutOfMemory e bytes x = absurd x

-- of all that the reader held, if nothing was retained
pub line_is : (l : Limits) (k : List ℕ) (old left : Option (List ℕ)) (line : List ℕ) (b : Bool) (r : Result (Option AMQPValue) StreamError)
    → ((s : List ℕ) → IsBytes s → IsOutcomeOfAll l s left r → IsLine l s left line b) → k ≡ []
    → IfSome old (λ z. IsOutcomeOfAll l (k ++ z) left r) → IfSome old (λ s. IsBytes s → IsLine l s left line b)
line_is l k None left line b r one none reported = tt
line_is l k (Some z) left line b r one none reported = λ bytes. one z bytes (subst (λ (t : List ℕ). IsOutcomeOfAll l (t ++ z) left r) none reported)

-- ---- line after line

-- the lines so far were written, and the others are those of what is left after as many values
abbrev pub Progress : Limits → ℕ → ℕ → Option (List ℕ) → Option (List ℕ) → Option (List ℕ) → Option (List ℕ) → Type 0
Progress l most left held now a b = IfSome held (λ s. IsBytes s → (rest : List ℕ) × IsBytes rest × (now ≡ Some rest)
    × IsOutputUpTo a b (stream_text l most s) (stream_text l left rest)
    × ((us : List Tree) × BeginsWithValues l s us rest × (length us + left ≡ most)))

pub starts : (l : Limits) (most : ℕ) (held a : Option (List ℕ)) → Appends a a [] → Progress l most most held held a a
starts l most None a none = tt
starts l most (Some s) a none = λ bytes. (s, bytes, refl, ([], refl, none), ([], refl, omega arith))

abbrev pub LineIs : Limits → Option (List ℕ) → Option (List ℕ) → List ℕ → Bool → Type 0
LineIs l now new line b = IfSome now (λ s. IsBytes s → IsLine l s new line b)

line_is_at : (l : Limits) (now new : Option (List ℕ)) (line rest : List ℕ) (b : Bool) → now ≡ Some rest → IsBytes rest → LineIs l now new line b → IsLine l rest new line b
line_is_at l now new line rest b is bytes reported = subst (λ o. IfSome o (λ s. IsBytes s → IsLine l s new line b)) is reported bytes

-- a last line is all that is left to write
last_is : (l : Limits) (n : ℕ) (s line : List ℕ) (new : Option (List ℕ)) → IsBytes s → IsLine l s new line false → stream_text l (suc n) s ≡ line
last_is l n s line new bytes (e, none) = step_none (stream_text l n) s (read_within l s) (no_value l s bytes none) ∙ sym e

-- a line is the first of what is left
line_first : (l : Limits) (k : ℕ) (s : List ℕ) (new : Option (List ℕ)) (line : List ℕ) (b : Bool) → 0 < k → IsBytes s → IsLine l s new line b → (others : List ℕ) × (stream_text l k s ≡ line ++ others)
line_first l zero s new line b lt bytes is = absurd (omega (arith, lt))
line_first l (suc n) s new line true lt bytes (v, rest, rest_bytes, found_it, b, e, left) =
    (stream_text l n rest, step_value l n s rest v found_it ∙ ap (λ (t : List ℕ). t ++ stream_text l n rest) (sym e))
line_first l (suc n) s new line false lt bytes is = ([], last_is l n s line new bytes is ∙ sym (append-nil line))

pub on_err : (l : Limits) (most left : ℕ) (held now new a b c : Option (List ℕ)) (line : List ℕ) (t : Bool) → 0 < left → Progress l most left held now a b → LineIs l now new line t → AppendsTextPrefix b c line
    → IfSome held (λ s. IsBytes s → AppendsTextPrefix a c (stream_text l most s))
on_err l most left None now new a b c line t lt p reported prefix = tt
on_err l most left (Some s) now new a b c line t lt p reported prefix = λ bytes.
    let (rest, rest_bytes, is, written, taken) = p bytes in
    let first = line_first l left rest new line t lt rest_bytes (line_is_at l now new line rest t is rest_bytes reported) in
    written_part a b c (stream_text l most s) (stream_text l left rest) line first.0 written first.1 prefix

-- if no line was to be written, a prefix was
pub on_fault : (l : Limits) (most left : ℕ) (held now a b : Option (List ℕ)) → Progress l most left held now a b → IfSome held (λ s. IsBytes s → AppendsTextPrefix a b (stream_text l most s))
on_fault l most left None now a b p = tt
on_fault l most left (Some s) now a b p = λ bytes.
    let (rest, rest_bytes, is, (prefix, whole, before), taken) = p bytes in
    (prefix, stream_text l left rest, whole, before)

pub on_last : (l : Limits) (most left : ℕ) (held now new a b c : Option (List ℕ)) (line : List ℕ) → 0 < left → Progress l most left held now a b → LineIs l now new line false → Appends b c line
    → IfSome held (λ s. IsBytes s → Appends a c (stream_text l most s))
on_last l most left None now new a b c line lt p reported all = tt
on_last l most zero (Some s) now new a b c line lt p reported all = absurd (omega (arith, lt))
on_last l most (suc n) (Some s) now new a b c line lt p reported all = λ bytes.
    let (rest, rest_bytes, is, (prefix, whole, before), taken) = p bytes in
    let last : stream_text l (suc n) rest ≡ line = last_is l n rest line new rest_bytes (line_is_at l now new line rest false is rest_bytes reported) in
    subst (λ (u : List ℕ). Appends a c u) (sym (whole ∙ ap (λ (u : List ℕ). prefix ++ u) last)) (Appends-trans a b c prefix line before all)

-- fewer values than `most` were there
pub on_last_left : (l : Limits) (most left : ℕ) (held now new end a b : Option (List ℕ)) (line : List ℕ) → 0 < left → Progress l most left held now a b → LineIs l now new line false
    → IfSome held (λ s. IsBytes s → LeavesAfterValues l most s end)
on_last_left l most left None now new end a b line lt p reported = tt
on_last_left l most left (Some s) now new end a b line lt p reported = λ bytes vs z begins len.
    let (rest, rest_bytes, is, written, (us, begun, count)) = p bytes in
    absurd (begins_more l s rest z us vs begun (line_is_at l now new line rest false is rest_bytes reported).1 begins (omega (arith, lt, count, len)))

-- all values were taken
pub on_end : (l : Limits) (most : ℕ) (held now a b : Option (List ℕ)) → Progress l most zero held now a b → IfSome held (λ s. IsBytes s → Appends a b (stream_text l most s))
on_end l most None now a b p = tt
on_end l most (Some s) now a b p = λ bytes.
    let (rest, rest_bytes, is, (prefix, whole, before), taken) = p bytes in
    subst (λ (u : List ℕ). Appends a b u) (sym (whole ∙ append-nil prefix)) before

pub on_end_left : (l : Limits) (most : ℕ) (held now a b : Option (List ℕ)) → Progress l most zero held now a b → IfSome held (λ s. IsBytes s → LeavesAfterValues l most s now)
on_end_left l most None now a b p = tt
on_end_left l most (Some s) now a b p = λ bytes vs z begins len.
    let (rest, rest_bytes, is, written, (us, begun, count)) = p bytes in
    is ∙ ap Some (begins_unique l s rest z us vs begun begins (omega (arith, count, len)))

more_by : (l : Limits) (most n : ℕ) (held now new a b c : Option (List ℕ)) (line : List ℕ) → Progress l most (suc n) held now a b → LineIs l now new line true → Appends b c line
    → Progress l most n held new a c
more_by l most n None now new a b c line p reported all = tt
more_by l most n (Some s) now new a b c line p reported all = λ bytes.
    let (rest, rest_bytes, is, written, (us, begun, count)) = p bytes in
    let (v, others, others_bytes, found_it, begins, e, left) = line_is_at l now new line rest true is rest_bytes reported in
    let first : stream_text l (suc n) rest ≡ line ++ stream_text l n others = step_value l n rest others v found_it ∙ ap (λ (t : List ℕ). t ++ stream_text l n others) (sym e) in (
      others,
      others_bytes,
      left,
      written_more a b c (stream_text l most s) (stream_text l (suc n) rest) line (stream_text l n others) written first all,
      (us ++ v ∷ [], begins_after l s rest others us v begun begins, omega (arith, count, length-append us (v ∷ []))),
    )

pub on_more : (l : Limits) (most left less : ℕ) (held now new a b c : Option (List ℕ)) (line : List ℕ) → left ≡ suc less → Progress l most left held now a b → LineIs l now new line true → Appends b c line
    → Progress l most less held new a c
on_more l most left less held now new a b c line e p reported all = more_by l most less held now new a b c line (subst (λ (k : ℕ). Progress l most k held now a b) e p) reported all
