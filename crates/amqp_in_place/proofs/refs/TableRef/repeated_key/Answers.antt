-- `TableRef::repeated_key`: keys that ascend occur once, and a key that the set didn't have is
-- added to it.
use Rattle.std.proofs.Common.{rules, arith}
use Rattle.amqp_value_core.specs.Bytes.{slice_bytes}
use Rattle.amqp_in_place.specs.Refs.{table_body}
use Rattle.amqp_in_place.proofs.RepeatedKeys.{rising_once, KeysAreSeen-step}
use Rattle.amqp_in_place.proofs.refs.TableRef.repeated_key.Goals as goal

pub returns-then-keys_rise-clause-repeated : goal.returns-then-keys_rise-clause-repeated
returns-then-keys_rise-clause-repeated c = λ ps p. rising_once ps (c.keys_rise.ensures.yes (search rules) ps (rw c.body.ensures.body p))

pub pairs-preserved : goal.pairs-preserved
pairs-preserved c =
    record {
      pairs = search rules;
      seen = KeysAreSeen-step (table_body c.args.self) (slice_bytes c.pairs.rest) c.pairs.seen c.pairs.invariant.seen (c.in-Some.key, c.in-Some.field-0-1, c.in-Some.after) c.insert.new.self c.in-Some.ensures.pair (grind (arith, c.in_ok-insert.ensures.added)) c.in_ok-insert.ensures.updates;
    }
