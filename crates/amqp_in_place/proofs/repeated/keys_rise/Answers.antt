-- `keys_rise`: if the next key is above the one before it, all keys ascend exactly if those from it
-- on do.
use Rattle.std.proofs.Common.{rules}
use Rattle.amqp_value_core.specs.Bytes.{slice_bytes}
use Rattle.amqp_in_place.proofs.RepeatedKeys.{KeysAscend-step}
use Rattle.amqp_in_place.proofs.repeated.keys_rise.Goals as goal

pub pairs-preserved : goal.pairs-preserved
pairs-preserved c =
    record {
      pairs = search rules;
      rises = KeysAscend-step (slice_bytes c.args.pairs) (slice_bytes c.pairs.rest) c.pairs.previous c.pairs.invariant.rises (c.in-Some.key, c.in-Some.field-0-1, c.in-Some.after) c.as_bytes-key.result c.in-Some.ensures.pair c.as_bytes-key.ensures.value (search rules);
    }
