-- `put_encoding` puts the encoding of the value that the text means, or reports why and where the
-- text is rejected, by what `encoding_of_json_within` returns.
use Rattle.std.proofs.Common.{List, ℕ, length, min, ◌≡◌, Some, subst}
use Rattle.amqp_json.specs.Conversions.{IsRefusedWithin, IsWithin}
use Rattle.amqp_json.specs.Meaning.{most_levels, meant_within}
use Rattle.amqp_c_alloc.proofs.JsonWritten.{put_meant, rejected_text, inside_of_text}
use Rattle.amqp_c_alloc.proofs.json.put_encoding.Goals as goal

pub returns-in-Ok-encoding_of_json_within-clause-written : goal.returns-in-Ok-encoding_of_json_within-clause-written
returns-in-Ok-encoding_of_json_within-clause-written c =
    let made = c.in-Ok-encoding_of_json_within.ensures in
    let (v, means, is) = made.ok in
    let most = min c.args.nesting most_levels in
    let so : meant_within most c.args.text.now ≡ Some v = subst (λ (t : List ℕ). meant_within most t ≡ Some v) c.in-Ok.ensures.cases.0 means in
    put_meant most c.args.text.now c.deref.result.now c.args.buffer.now c.put_at_start.new.buffer c.in-Ok-encoding_of_json_within.bytes.items v c.put_at_start.result (c.in-Ok.ensures.cases.1, so) c.deref.ensures.value is (made.encodes v means) c.put_at_start.ensures.put

pub returns-in-Err-encoding_of_json_within-clause-written : goal.returns-in-Err-encoding_of_json_within-clause-written
returns-in-Err-encoding_of_json_within-clause-written c =
    let t = c.args.text.now in
    let e = c.in-Err-encoding_of_json_within.error in
    let most = min c.args.nesting most_levels in
    let refused = subst (λ (s : List ℕ). IsRefusedWithin most e s) c.in-Ok.ensures.cases.0 c.in-Err-encoding_of_json_within.ensures.refused in
    let within = subst (λ (s : List ℕ). IsWithin e (length s)) c.in-Ok.ensures.cases.0 c.in-Err-encoding_of_json_within.ensures.within in
    rw (c.failure_of.ensures.done, c.failure_of.ensures.problem) (rejected_text most t c.args.buffer.now c.args.buffer.now e c.in-Ok.ensures.cases.1 refused within)

pub returns-in-Err-encoding_of_json_within-clause-inside : goal.returns-in-Err-encoding_of_json_within-clause-inside
returns-in-Err-encoding_of_json_within-clause-inside c =
    let e = c.in-Err-encoding_of_json_within.error in
    let within = subst (λ (s : List ℕ). IsWithin e (length s)) c.in-Ok.ensures.cases.0 c.in-Err-encoding_of_json_within.ensures.within in
    rw c.failure_of.ensures.problem (inside_of_text e (length c.args.text.now) within)
