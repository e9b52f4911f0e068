-- `long_string`: for bytes that aren't UTF-8, `long_written` has their hexadecimal digits.
use Rattle.std.proofs.Common.{rules, sym, subst}
use Rattle.std.specs.Str.{IsUtf8}
use Rattle.json.specs.Json.{Json}
use Rattle.amqp_json.specs.printing.Buffers.{PutsJson}
use Rattle.amqp_json.proofs.Printed.{bytes_are_named}
use Rattle.amqp_json.proofs.printing.leaves.long_string.Goals as goal

pub returns-in-Err : goal.returns-in-Err
returns-in-Err c =
    let not : IsUtf8 c.args.bytes.now → ⊥ = search rules in
    subst (λ (j : Json). PutsJson c.args.buffer.now c.args.place c.digits.new.buffer c.digits.result j) (sym (bytes_are_named c.args.bytes.now not)) c.digits.ensures
