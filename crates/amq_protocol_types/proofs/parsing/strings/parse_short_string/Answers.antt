-- `parse_short_string`: the bytes after the length, contiguous or joined, are the string if they
-- are UTF-8. If they aren't, no prefix of the input is a short string.
use Rattle.std.proofs.Common.{◌≡◌, length, take, ap, ◌∙◌, subst, rules, arith}
use Rattle.std.proofs.lemmas.List.{length-take-le}
use Rattle.std.proofs.lemmas.Result.{err_from_is_err_and}
use Rattle.std.specs.Str.{IsUtf8}
use Rattle.amq_protocol_types.proofs.Frames.{whole_taken, short_found, short_error}
use Rattle.amq_protocol_types.proofs.parsing.strings.parse_short_string.Goals as goal
use Rattle.amq_protocol_types.proofs.parsing.strings.parse_short_string.Goals.{then-chunk-len+in_ok-copy_by_chunks+in_ok-text, else-chunk-len+in_ok-text-2}

pub returns-in_err-text : goal.returns-in_err-text
returns-in_err-text g c =
    let left = g.I.ParsableInput.bytes c.in_ok-i.i in
    let n = c.in_ok-i.len in
    let body : g.I.ParsableInput.bytes c.take-body.result ≡ take n left = search rules in
    let bytes : c.as_slice.result.now ≡ take n left = c.as_slice.ensures.value ∙ (c.in_ok-copy_by_chunks.ensures.ok ∙ body) in
    let p = err_from_is_err_and c.from_residual-in_err-text.result c.from_residual-in_err-text.ensures.1 in
    rw (p.1, p.2)
    (short_error (g.I.ParsableInput.bytes c.args.i) left n (omega arith) c.in_ok-i.ensures.number (omega arith) c.as_slice.result.now c.in_err-text.field-0.0 bytes c.in_err-text.ensures.err)

pub short_string-requires-else-chunk-len : goal.short_string-requires-else-chunk-len
short_string-requires-else-chunk-len g c =
    let left = g.I.ParsableInput.bytes c.in_ok-i.i in
    let n = c.in_ok-i.len in
    let bytes : c.chunk-chunk.result.now ≡ take n left = whole_taken _ _ left n c.chunk-chunk.ensures (search rules) (omega arith) (omega arith) in
    omega (arith, ap length bytes, length-take-le n left (omega arith))

pub returns-in_err-text-2 : goal.returns-in_err-text-2
returns-in_err-text-2 g c =
    let left = g.I.ParsableInput.bytes c.in_ok-i.i in
    let n = c.in_ok-i.len in
    let bytes : c.chunk-chunk.result.now ≡ take n left = whole_taken _ _ left n c.chunk-chunk.ensures (search rules) (omega arith) (omega arith) in
    let p = err_from_is_err_and c.from_residual-in_err-text-2.result c.from_residual-in_err-text-2.ensures.1 in
    rw (p.1, p.2)
    (short_error (g.I.ParsableInput.bytes c.args.i) left n (omega arith) c.in_ok-i.ensures.number (omega arith) c.chunk-chunk.result.now c.in_err-text-2.field-0.0 bytes c.in_err-text-2.ensures.err)

pub returns : goal.returns
returns g c =
    let left = g.I.ParsableInput.bytes c.in_ok-i.i in
    let n = c.in_ok-i.len in
    let body : g.I.ParsableInput.bytes c.take-body.result ≡ take n left = search rules in
    let is : (c.if-chunk-len.text ≡ take n left) × IsUtf8 (take n left) = elim c.if-chunk-len.branch [
      | then-chunk-len+in_ok-copy_by_chunks+in_ok-text w ↦
          let bytes = w.as_slice.ensures.value ∙ (w.in_ok-copy_by_chunks.ensures.ok ∙ body) in
          (w.text-is ∙ (w.in_ok-text.ensures.ok.0 ∙ bytes), subst IsUtf8 bytes w.in_ok-text.ensures.ok.1)
      | else-chunk-len+in_ok-text-2 w ↦
          let bytes : c.chunk-chunk.result.now ≡ take n left = whole_taken _ _ left n c.chunk-chunk.ensures body (omega arith) (omega (arith, w.if-chunk-len.false)) in
          (w.text-is ∙ (w.in_ok-text-2.ensures.ok.0 ∙ bytes), subst IsUtf8 bytes w.in_ok-text-2.ensures.ok.1)
    ] in
    rw (is.0, c.take_from.ensures, c.from-len.ensures)
    (short_found (g.I.ParsableInput.bytes c.args.i) left n (omega arith) c.in_ok-i.ensures.number (omega arith) is.1)
