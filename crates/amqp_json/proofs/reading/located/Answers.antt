-- `located`: a text whose tokens open too many has a bracket that does.
use Rattle.std.proofs.Common.{subst}
use Rattle.json.specs.Lex.{tokens}
use Rattle.amqp_json.specs.Nesting.{OpensTooMany, ReportsNestingOf}
use Rattle.amqp_json.specs.declared.error.JsonError.{JsonError}
use Rattle.amqp_json.proofs.Scanning.{never_too_many}
use Rattle.amqp_json.proofs.reading.located.Goals as goal

pub unreachable-requires : goal.unreachable-requires
unreachable-requires c =
    let t = c.args.text.now in
    let many : OpensTooMany c.args.levels (tokens t) = subst (λ (e : JsonError). ReportsNestingOf c.args.levels e (tokens t)) c.in-TooDeep.is c.requires.nesting in
    never_too_many c.args.levels t c.in-None.ensures many
