-- `first_value` gives the entry of an array's first value: `first_of` reads it, and it has no key.
use Rattle.std.proofs.Common.{refl}
use Rattle.amqp_c.proofs.Steps.{value_given}
use Rattle.amqp_c.proofs.cursor.first_value.Goals as goal

pub returns-clause-value : goal.returns-clause-value
returns-clause-value c = λ vs some all.
    value_given c.args.bytes.now c.args.left (record { offset = 0; length = 0 }) c.first_of.result c.requires.left some refl c.first_of.ensures.entry vs all
