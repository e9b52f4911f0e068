-- `key_of`: what is after a `$` is text, since `$` is ASCII.
use Rattle.std.proofs.Common.{rules, arith, ◌≡◌, get_or}
use Rattle.std.proofs.lemmas.Str.{IsCharBoundary-after_ascii}
use Rattle.amqp_json.proofs.reading.keys.key_of.Goals as goal

pub range_from-rest-requires : goal.range_from-rest-requires
range_from-rest-requires c = λ h.
    let first : get_or c.args.key.now 0 0 ≡ 36 = search rules in
    IsCharBoundary-after_ascii c.args.key.now 0 c.utf8.key (omega arith) (omega (arith, first))
