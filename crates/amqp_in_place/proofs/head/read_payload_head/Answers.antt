-- `read_payload_head`: the payloads of long strings, byte arrays and Void are read as they are
-- defined, and a LongLongUInt as a LongLongInt.
use Rattle.std.proofs.Common.{rules}
use Rattle.std.specs.Int.{w64, cast_signed, cast_unsigned}
use Rattle.amqp_value_core.specs.declared.types.amqp_type.AMQPType.TheVariants as amqp
use Rattle.amqp_value_core.specs.Values.{number, scalar}
use Rattle.amqp_value_core.specs.Outcomes.{RawOutcome, found}
use Rattle.amqp_value_core.specs.Bytes.{slice_bytes}
use Rattle.amq_protocol_types.proofs.ParsingLaws.{long_found, octets_found, void_found, unsigned_outcome}
use Rattle.amqp_in_place.proofs.head.read_payload_head.Goals as goal

pub returns-in_ok-i-in-LongLongUInt : goal.returns-in_ok-i-in-LongLongUInt
returns-in_ok-i-in-LongLongUInt c =
    let a = c.in_ok-i-in-LongLongUInt in
    let s = slice_bytes c.args.i in
    let o = found (scalar (number amqp.LongLongInt (cast_unsigned w64 (cast_signed w64 (cast_unsigned w64 a.n))))) (slice_bytes a.i) in
    let x : RawOutcome amqp.LongLongInt s o = search rules in
    rw c.in-LongLongUInt.is (tt, tt, unsigned_outcome s o x)

pub returns-in_ok-i-in-LongString : goal.returns-in_ok-i-in-LongString
returns-in_ok-i-in-LongString c =
    let a = c.in_ok-i-in-LongString in
    rw (c.in-LongString.is, c.as_slice.ensures) (tt, tt, long_found (slice_bytes c.args.i) (slice_bytes a.body) (slice_bytes a.i) a.ensures)

pub returns-in_ok-i-in-ByteArray : goal.returns-in_ok-i-in-ByteArray
returns-in_ok-i-in-ByteArray c =
    let a = c.in_ok-i-in-ByteArray in
    rw (c.in-ByteArray.is, c.as_slice-in-ByteArray.ensures) (tt, tt, octets_found (slice_bytes c.args.i) (slice_bytes a.body) (slice_bytes a.i) a.ensures)

pub returns-in-Void : goal.returns-in-Void
returns-in-Void c = rw c.in-Void.is (tt, tt, void_found (slice_bytes c.args.i))
