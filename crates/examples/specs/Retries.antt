-- `WritesRetries`: headers were read, and are written with a count of retries.
use Rattle.std.specs.Prelude.{ℕ, ◌≡◌, ◌≢◌, Some, List, codes}
use Rattle.amqp_value_core.specs.declared.types.amqp_type.AMQPType.TheVariants as amqp
use Rattle.amqp_value_core.specs.Values.{number, scalar, table, Entries}
use Rattle.amqp_value_core.specs.Maps.{value_at}
use Rattle.amqp_value_core.specs.Outcomes.{found}
use Rattle.amqp_value_core.specs.Texts.{payload}
use Rattle.amq_protocol_types.specs.declared.parsing.within.Limits.{Limits}
use Rattle.amq_protocol_types.specs.parsing.Untagged.{UntaggedWithin}

-- the header that has the count
abbrev pub key : List ℕ
key = codes "x-retries"

-- `written` is the canonical encoding of the table at the start of s, with n at the key
pub record WritesRetries (l : Limits) (s : List ℕ) (n : ℕ) (written : List ℕ) : Type 0 where
  -- a table is read from s within the limits
  pub from : Entries
  pub rest : List ℕ
  pub read : UntaggedWithin l amqp.FieldTable s (found (table from) rest)
  -- `to` has the count, and at every other key the value that `from` has
  pub to : Entries
  pub count : value_at key to ≡ Some (scalar (number amqp.LongUInt n))
  pub others : (k : List ℕ) → k ≢ key → value_at k to ≡ value_at k from
  pub is : written ≡ payload (table to)
