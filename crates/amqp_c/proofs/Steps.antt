-- Lemmas for src/cursor.rt: the first entry in a span of a container's body, a value (`IsValueIn`)
-- or a pair with its key (`IsPairIn`).
use Rattle.std.proofs.Common.{◌≡◌, ◌+◌, ◌-◌, ◌<◌, ◌≤◌, ℕ, zero, suc, Bool, true, false, Option, Some, None, IfNone, IfSome, List, [], ◌∷◌, ◌++◌, Ok, length, take, drop, get_or, refl, sym, ap, ◌∙◌, subst, arith, length-append}
use Rattle.std.proofs.lemmas.List.{take_at, drop_at, take-append-drop, length-take-le}
use Rattle.amqp_value_core.specs.Values.{Tree, scalar, short, long, octets, array, table, Trees, Entries}
use Rattle.amqp_value_core.specs.Grammar.{short_field, Wire, ArrayBody, no_values, value, TableBody, no_pairs, pair}
use Rattle.amqp_value_core.specs.Outcomes.{found, Outcome}
use Rattle.amqp_value_core.proofs.GrammarLaws.{found_prefix, one_key as key_and_rest, wire_found}
use Rattle.amq_protocol_types.specs.parsing.Headers.{extent}
use Rattle.amqp_in_place.specs.Bodies.{HasEntries}
use Rattle.amqp_c.specs.declared.entry.Entry.{Entry}
use Rattle.amqp_c.specs.declared.span.Span.{Span}
use Rattle.amqp_c.specs.Entries.{GivesFirst, DescribesValue, IsEntryAtStart, HoldsContent, IsTagged, IsTrueTo, EntryIsIn, has_content, part, span_after, rest_after, SpanIsIn}
use Rattle.amqp_in_place.specs.Searches.{IsHeaded}
use Rattle.amqp_c.specs.Steps.{HasNoPair, IsFirstEntryIn, IsValueIn, IsPairIn, BeginsWithKey, StandsKeyed}
use Rattle.amqp_c.proofs.Parts.{part_prefix, part_within, part_after, part_length}

-- the entry, if the bytes that it was read from begin at the span
abbrev pub placed : Span → Span → Entry → Entry
placed p key e = record { key = key; value = span_after p.offset e.value; content = span_after p.offset e.content; bits = e.bits; tag = e.tag; scale = e.scale }

says_placed : (s : List ℕ) (p key : Span) (e : Entry) (v : Tree) → part (part s p) e.content ≡ part s (span_after p.offset e.content) → DescribesValue (part s p) e v → DescribesValue s (placed p key e) v
says_placed s p key e (scalar x) at is = is
says_placed s p key e (short b) at is = is
says_placed s p key e (long b) at is = (sym at ∙ is.0, is.1)
says_placed s p key e (octets b) at is = (sym at ∙ is.0, is.1)
says_placed s p key e (array vs) at is = (subst (λ (t : List ℕ). ArrayBody t vs) at is.0, is.1)
says_placed s p key e (table es) at is = (subst (λ (t : List ℕ). HasEntries t es) at is.0, is.1)

-- what is read at the start of the span is in the bytes
pub first_given : (s : List ℕ) (p key : Span) (e : Entry) → SpanIsIn (length s) p → EntryIsIn (length (part s p)) e → (v : Tree) (rest : List ℕ) → Outcome (part s p) (found v rest)
    → GivesFirst (part s p) v rest (Ok e) → IsFirstEntryIn s p key v rest (Some (placed p key e))
first_given s p key e in_s in_part v rest x (is, at, whole) =
    let size = part_length s p in_s in
    let here = part_within s p e.value (omega (arith, in_part.value)) in
    let there = part_within s p e.content (omega (arith, in_part.content)) in
    let f = found_prefix (part s p) rest v x in
    let taken : length f.0 ≡ e.value.length = omega (arith, ap length f.2, length-append f.0 rest) in
    let after = part_after s p (span_after p.offset e.value) e.value.length (omega arith) (omega (arith, in_part.value)) in (
      record {
        encoding = subst (λ (t : List ℕ). Wire t v) here is.encoding;
        tag = is.tag;
        says = says_placed s p key e v there is.says;
      },
      refl,
      after ∙ (ap (drop e.value.length) f.2 ∙ drop_at f.0 rest e.value.length taken),
    )

-- its content is as far from its value
content_placed : (b : Bool) (p key : Span) (e : Entry) → HoldsContent b e → HoldsContent b (placed p key e)
content_placed true p key e (at, size, none) = (omega (arith, at), size, none)
content_placed false p key e none = none

-- its first byte is the one that was read
tagged_at_start : (t : List ℕ) (n : ℕ) (p key : Span) (e : Entry) → 0 < n → IsTagged t e → IsTagged (take n t) (placed p key e)
tagged_at_start [] n p key e some x = absurd x
tagged_at_start (c ∷ b) zero p key e some x = absurd (omega arith)
tagged_at_start (c ∷ b) (suc n) p key e some x = (x.0, x.1, x.2, content_placed (has_content x.0) p key e x.3)

pub tagged_placed : (s : List ℕ) (p key : Span) (e : Entry) → SpanIsIn (length s) p → EntryIsIn (length (part s p)) e → IsEntryAtStart (part s p) e → IsTagged (part s (span_after p.offset e.value)) (placed p key e)
tagged_placed s p key e in_s inside at_start =
    let same : take e.value.length (part s p) ≡ part s (span_after p.offset e.value) =
    sym (part_prefix (part s p) e.value at_start.1) ∙ part_within s p e.value (omega (arith, inside.value, part_length s p in_s)) in
    subst (λ (t : List ℕ). IsTagged t (placed p key e)) same (tagged_at_start (part s p) e.value.length p key e inside.some at_start.3)

-- and the entry is that of whatever value is encoded there
pub faithful_placed : (s : List ℕ) (p key : Span) (e : Entry) → SpanIsIn (length s) p → EntryIsIn (length (part s p)) e → e.value.offset ≡ 0
    → ((v : Tree) (rest : List ℕ) → Outcome (part s p) (found v rest) → GivesFirst (part s p) v rest (Ok e)) → IsTrueTo s (placed p key e)
faithful_placed s p key e in_s inside from faithful = λ v w.
    let n = e.value.length in
    let rest = drop n (part s p) in
    let here : part s (span_after p.offset e.value) ≡ take n (part s p) =
    sym (sym (part_prefix (part s p) e.value from) ∙ part_within s p e.value (omega (arith, inside.value, part_length s p in_s))) in
    let same : part s (span_after p.offset e.value) ++ rest ≡ part s p = ap (λ (t : List ℕ). t ++ rest) here ∙ take-append-drop n (part s p) in
    let x : Outcome (part s p) (found v rest) = subst (λ (t : List ℕ). Outcome t (found v rest)) same (wire_found (part s (span_after p.offset e.value)) rest v w) in
    (first_given s p key e in_s inside v rest x (faithful v rest x)).0

-- the first of some values
pub value_given : (s : List ℕ) (p key : Span) (r : Option Entry) → SpanIsIn (length s) p → 0 < p.length → key.length ≡ 0
    → ((v : Tree) (rest : List ℕ) → Outcome (part s p) (found v rest) → IsFirstEntryIn s p key v rest r) → (vs : Trees) → ArrayBody (part s p) vs → IsValueIn s p vs r
value_given s p key r in_s some none f vs all = by (part s p) vs (omega (arith, part_length s p in_s)) f all
  where
    step : (v : Tree) (rest : List ℕ) (vs : Trees) (r : Option Entry) → ArrayBody rest vs → IsFirstEntryIn s p key v rest r → IsValueIn s p (Trees.tree v vs) r
    step v rest vs None all x = x
    step v rest vs (Some e) all x = (ap (λ (k : Span). k.length) x.1 ∙ none, x.0, subst (λ (t : List ℕ). ArrayBody t vs) (sym x.2) all)

    by : (t : List ℕ) (vs : Trees) → 0 < length t → ((v : Tree) (rest : List ℕ) → Outcome t (found v rest) → IsFirstEntryIn s p key v rest r) → ArrayBody t vs → IsValueIn s p vs r
    by _ _ some f no_values = absurd (omega arith)
    by _ _ some f (value w rest v vs q all) = step v rest vs r all (f v rest (wire_found w rest v q))

-- a key is after its length
pub begins_with : (s named : List ℕ) (n : ℕ) → s ≡ n ∷ named → n ≤ length named → BeginsWithKey (take n named) s
begins_with s named n e few =
    let size : length (take n named) ≡ n = length-take-le n named few in
    (drop n named, e ∙ (ap (λ (t : List ℕ). n ∷ t) (sym (take-append-drop n named)) ∙ ap (λ (m : ℕ). m ∷ (take n named ++ drop n named)) (sym size)))

-- and is the only one there
pub one_key : (j k s : List ℕ) → BeginsWithKey j s → BeginsWithKey k s → j ≡ k
one_key j k s a b = (key_and_rest j k a.0 b.0 (sym a.1 ∙ b.1)).0

pub key_stands : (s named : List ℕ) (p key : Span) (n : ℕ) → SpanIsIn (length s) p → part s p ≡ n ∷ named → n ≤ length named → key ≡ record { offset = p.offset + 1; length = n } → BeginsWithKey (part s key) (part s p)
key_stands s named p key n in_s e few is =
    let there : suc n ≤ p.length = omega (arith, ap length e, part_length s p in_s) in
    let at : part (part s p) (record { offset = 1; length = n }) ≡ part s key =
    part_within s p (record { offset = 1; length = n }) (omega arith) ∙ ap (λ (o : ℕ). take n (drop o s)) (omega arith) ∙ ap (part s) (sym is) in
    subst (λ (k : List ℕ). BeginsWithKey k (part s p)) (sym (ap (λ (t : List ℕ). take n (drop 1 t)) e) ∙ at) (begins_with (part s p) named n e few)

-- the entry of the pair is at the span
pub stands_keyed : (s named : List ℕ) (p key : Span) (n : ℕ) (r : Option Entry) → SpanIsIn (length s) p → part s p ≡ n ∷ named → n ≤ length named → key ≡ record { offset = p.offset + 1; length = n }
    → IfSome r (λ e. e.key ≡ key) → IfSome r (λ e. (e.value.offset ≡ key.offset + key.length) × (e.value.length ≡ extent (part s (rest_after p key)))) → IfSome r (StandsKeyed s p)
stands_keyed s named p key n None in_s e few is same after = tt
stands_keyed s named p key n (Some x) in_s e few is same after =
    let from : x.key.offset ≡ key.offset = ap (λ (k : Span). k.offset) same in
    let count : x.key.length ≡ key.length = ap (λ (k : Span). k.length) same in (
      from ∙ ap (λ (k : Span). k.offset) is,
      omega (arith, from, count, after.0),
      subst (λ (k : Span). BeginsWithKey (part s k) (part s p)) (sym same) (key_stands s named p key n in_s e few is),
      subst (λ (k : Span). x.value.length ≡ extent (part s (rest_after p k))) (sym same) after.1,
    )

-- a pair has all bytes of its key
pub key_is_in : (t : List ℕ) (ps : Entries) → TableBody t ps → 0 < length t → get_or t 0 0 < length t
key_is_in _ _ no_pairs some = absurd (omega arith)
key_is_in _ _ (pair k w rest v ps is q all) some = omega (arith, length-append k (w ++ rest))

-- the first of some pairs
module _ (s : List ℕ) (p : Span) (n : ℕ) (r : Option Entry) (in_s : SpanIsIn (length s) p) (some : 0 < p.length) (is : n ≡ get_or (part s p) 0 0) where
  abbrev key : Span
  key = record { offset = p.offset + 1; length = n }

  -- what is after the key
  rest_at : (k rest : List ℕ) → part s p ≡ short_field k ++ rest → part s (rest_after p key) ≡ rest
  rest_at k rest e =
      let size : n ≡ length k = is ∙ ap (λ (t : List ℕ). get_or t 0 0) e in
      let buffer : suc n ≤ p.length = omega (arith, ap length e, part_length s p in_s, length-append k rest) in
      part_after s p key (suc n) (omega arith) buffer ∙ (ap (drop (suc n)) e ∙ drop_at k rest n (sym size))

  -- if no value is there, no pair is here
  pub pair_cut : (o : Option Entry) → IfNone o (IsHeaded (part s (rest_after p key)) → ⊥) → IfNone o (HasNoPair (part s p))
  pair_cut None none = λ k value e whole. none (subst IsHeaded (sym (rest_at k value e)) whole)
  pair_cut (Some x) none = tt

  pub pair_given : ((v : Tree) (rest : List ℕ) → Outcome (part s (rest_after p key)) (found v rest) → IsFirstEntryIn s (rest_after p key) key v rest r)
      → (ps : Entries) → TableBody (part s p) ps → IsPairIn s p ps r
  pair_given f ps all = by (part s p) ps refl all
    where
      step : (k : List ℕ) (v : Tree) (rest : List ℕ) (ps : Entries) (r : Option Entry) → suc n ≤ p.length → part s key ≡ k → TableBody rest ps → IsFirstEntryIn s (rest_after p key) key v rest r
          → IsPairIn s p (Entries.entry k v ps) r
      step k v rest ps None buffer named all x = x
      step k v rest ps (Some e) buffer named all x =
          let ends : p.offset + p.length ≡ p.offset + 1 + n + (p.offset + p.length - (p.offset + 1 + n)) = omega arith in
          let same : part s (rest_after p e.value) ≡ part s (rest_after (rest_after p key) e.value) =
          ap (λ (m : ℕ). take (m - (e.value.offset + e.value.length)) (drop (e.value.offset + e.value.length) s)) ends in
          (ap (part s) x.1 ∙ named, x.0, subst (λ (t : List ℕ). TableBody t ps) (sym (same ∙ x.2)) all)

      by : (t : List ℕ) (ps : Entries) → part s p ≡ t → TableBody t ps → IsPairIn s p ps r
      by _ _ e no_pairs = absurd (omega (arith, ap length e, part_length s p in_s))
      by _ _ e (pair k w rest v ps fits q all) =
          let size : n ≡ length k = is ∙ ap (λ (t : List ℕ). get_or t 0 0) e in
          let buffer : suc n ≤ p.length = omega (arith, ap length e, part_length s p in_s, length-append k (w ++ rest)) in
          let prefix : part s (rest_after p key) ≡ w ++ rest = rest_at k (w ++ rest) e in
          let at : key.offset ≡ 1 + p.offset = omega arith in
          let named : part s key ≡ k =
          ap (λ (o : ℕ). take n (drop o s)) at
          ∙ (sym (part_within s p (record { offset = 1; length = n }) (omega arith))
          ∙ (ap (λ (t : List ℕ). take n (drop 1 t)) e ∙ take_at k (w ++ rest) n (sym size))) in
          step k v rest ps r buffer named all (f v rest (subst (λ (t : List ℕ). Outcome t (found v rest)) (sym prefix) (wire_found w rest v q)))
