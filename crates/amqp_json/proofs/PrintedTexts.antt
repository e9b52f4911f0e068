-- Once `PutsJson` holds of a value, the buffer begins with its `json_text`. For `src/printing.rt`.
use Rattle.std.proofs.Common.{◌≡◌, ◌+◌, ◌<◌, ◌≤◌, ◌^◌, ℕ, List, ◌++◌, [], length, take, drop, false, refl, sym, ap, ◌∙◌, subst, append-nil, Some, arith}
use Rattle.std.proofs.Math.ListN.{drop_of_length-le}
use Rattle.std.proofs.lemmas.List.{take_at}
use Rattle.json.specs.Print.{print, print_from}
use Rattle.amqp_value_core.specs.Values.{Tree}
use Rattle.amqp_value_core.proofs.GrammarLaws.{one_reading}
use Rattle.amq_protocol_types.specs.declared.parsing.within.Limits.{Limits}
use Rattle.amqp_in_place.specs.declared.refs.ValueRef.{ValueRef}
use Rattle.amqp_in_place.specs.Written.{written as as_written}
use Rattle.amqp_json.specs.Conversions.{IsJsonOf}
use Rattle.amqp_json.specs.Views.{WritesText}
use Rattle.amqp_json.specs.Meaning.{meant}
use Rattle.amqp_json.specs.declared.printing.tokens.Place.{Place}
use Rattle.amqp_json.specs.printing.Buffers.{Begins, PutsJson}
use Rattle.amqp_json.specs.Written.{json_text, written}
use Rattle.amqp_json.proofs.Encodings.{valued_written}
use Rattle.amqp_json.proofs.AsWritten.{written_once, IsReadAs}
use Rattle.amqp_json.proofs.TextRoundTrip.{text_is_read}

pub decoded : (l : Limits) (s rest t : List ℕ) (view : ValueRef) (is : IsReadAs l s view rest) → t ≡ json_text (as_written is.0 is.1 is.2) → IsJsonOf l s t rest
decoded l s rest t view (w, v, p, split, within, viewed, has) is =
    (w, v, p, split, within, is, λ shallow. ap meant is ∙ text_is_read (as_written w v p) has shallow ∙ ap Some (valued_written w v p))

-- an encoding has one text
pub one_text : (l : Limits) (s t u rest left : List ℕ) → IsJsonOf l s t rest → IsJsonOf l s u left → t ≡ u
one_text l s t u rest left (w, v, p, e, x, is, means) (w2, v2, p2, e2, y, is2, means2) =
    let one = one_reading w w2 rest left v v2 p p2 (sym e ∙ e2) in
    is ∙ (ap json_text (written_once w w2 v v2 p p2 one.0) ∙ sym is2)

-- ---- a text in a buffer, from its start

abbrev start : Place
start = record { count = 0; after_value = false }

nothing : print [] ≡ []
unfolding print_from
nothing = refl

pub text_begins : (v : Tree) (old new : List ℕ) (end : Place) → PutsJson old start new end (written v) → Begins old new end.count (json_text v)
text_begins v old new end puts =
    let empty : Begins old old 0 (print []) = subst (λ (t : List ℕ). Begins old old 0 t) (sym nothing) (record { count = refl; same = refl; text = λ fits. refl }) in
    (puts old [] (record { text = empty; after = refl })).text

-- it is counted, and if it fits the buffer, it is at its start
pub text_written : (l : Limits) (s t rest old new : List ℕ) (count : ℕ) → IsJsonOf l s t rest → Begins old new count t → 1 + length old < 2 ^ 64 → WritesText l s rest old new count
text_written l s t rest old new count is put few = (
  t,
  is,
  put.count,
  λ fits.
      let size : count ≡ length t = omega (arith, put.count, fits, few) in
      (size, put.text (omega (arith, size, fits)) ∙ ap (λ k. t ++ drop k old) (sym size)),
)

-- if it fits the buffer, it is the first bytes
pub text_taken : (v : Tree) (old new : List ℕ) (end : Place) → PutsJson old start new end (written v) → end.count ≤ length old → length old < 2 ^ 63 → take end.count new ≡ json_text v
text_taken v old new end puts fits few =
    let is = text_begins v old new end puts in
    let size : end.count ≡ length (json_text v) = omega (arith, is.count, fits, few) in
    ap (take end.count) (is.text (omega (arith, size, fits))) ∙ take_at (json_text v) (drop (length (json_text v)) old) end.count (sym size)

-- a buffer of its length is the text
pub text_filled : (v : Tree) (small short old new : List ℕ) (first end : Place) → PutsJson small start short first (written v) → PutsJson old start new end (written v) → length old ≡ first.count → length old < 2 ^ 63 → new ≡ json_text v
text_filled v small short old new first end measured puts size few =
    let is = text_begins v small short first measured in
    let all : length (json_text v) ≡ first.count = omega (arith, is.count, size, few) in
    (text_begins v old new end puts).text (omega (arith, all, size)) ∙ ap (λ (l : List ℕ). json_text v ++ l) (drop_of_length-le old (omega (arith, all, size))) ∙ append-nil (json_text v)
