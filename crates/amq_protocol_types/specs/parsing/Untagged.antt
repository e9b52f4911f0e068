-- `UntaggedWithin`: reading an array or a table without its type tag within limits. AMQP's methods
-- and content headers have such tables.
use Rattle.std.specs.Prelude.{ℕ, ◌<◌, ◌≤◌, ◌≡◌, ◌↔◌, IsTrue, List, ◌∷◌, ◌++◌}
use Rattle.amqp_value_core.specs.declared.types.amqp_type.AMQPType.{AMQPType}
use Rattle.amqp_value_core.specs.Ids.{id_of}
use Rattle.amqp_value_core.specs.Values.{Tree, type_of, readable, depth}
use Rattle.amqp_value_core.specs.Nesting.{RawOutcomeWithin}
use Rattle.amqp_value_core.specs.Outcomes.{Reading, found}
use Rattle.amqp_value_core.specs.Texts.{payload, size, Fits}
use Rattle.amqp_value_core.specs.InMemory.{IsValue}
use Rattle.amq_protocol_types.specs.declared.parsing.within.Limits.{Limits}
use Rattle.amq_protocol_types.specs.parsing.Refusals.{Refusal}
use Rattle.amq_protocol_types.specs.parsing.Headers.{raw_extent}
use Rattle.amq_protocol_types.specs.parsing.Limits.{Within, RefusesWithin}

-- the bytes after the type tag that is written for the type
abbrev pub tagged : AMQPType → List ℕ → List ℕ
tagged type s = id_of type ∷ s

-- Reading a payload of the type from s within limits results in o, as reading the value does.
-- The limit `frame` counts the missing type tag too, and `depth` the container itself.
abbrev pub UntaggedWithin : Limits → AMQPType → List ℕ → Reading → Type 0
UntaggedWithin l type s o = Within l (tagged type s) o

-- an error of it is right
abbrev pub RefusesUntagged : Limits → AMQPType → List ℕ → Refusal → Type 0
RefusesUntagged l type s e = RefusesWithin l (tagged type s) e

-- That is what reading the payload results in, if it keeps the limits. By what has come of it,
-- the payload has fewer bytes than `frame`, and containers nest within the depth.
abbrev pub IsPayloadWithin : Limits → AMQPType → List ℕ → Type 0
IsPayloadWithin l type s = (o : Reading) → UntaggedWithin l type s o ↔ ((raw_extent type s < l.frame) × RawOutcomeWithin l.depth type s o)

-- The value is of the type, can be read, and keeps the limits.
-- The payload that is written of such a value is read as it, whatever follows.
abbrev pub ReadsPayloadsBack : Limits → AMQPType → Type 0
ReadsPayloadsBack l type =
    (v : Tree) (t : List ℕ) → type_of v ≡ type → IsValue v → Fits v → IsTrue (readable v) → depth v ≤ l.depth → size v ≤ l.frame
    → UntaggedWithin l type (payload v ++ t) (found v t)
