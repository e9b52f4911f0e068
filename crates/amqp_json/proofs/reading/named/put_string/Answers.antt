-- `put_string` puts what `string_as` has: a decimal, bits of a float, or bytes after their length.
use Rattle.std.proofs.Common.{rules, ◌≡◌, Some, length}
use Rattle.std.proofs.lemmas.Result.{on_ok_weaker}
use Rattle.std.specs.Int.{w32, w64, from_be_bytes}
use Rattle.amqp_value_core.specs.declared.types.amqp_type.AMQPType.TheVariants as amqp
use Rattle.amqp_value_core.specs.Values.{scalar, number, decimal, long, octets}
use Rattle.amqp_json.specs.Meaning.{string_as}
use Rattle.amqp_json.proofs.PutEncodings.{scalar_put, long_put, octets_put, float_put, double_put}
use Rattle.amqp_json.proofs.reading.named.put_string.Goals as goal

pub returns-in-Some-clause-ok : goal.returns-in-Some-clause-ok
returns-in-Some-clause-ok c =
    let d = c.in-Some.d in
    let h : string_as c.args.amqp_type c.args.text.now ≡ Some (scalar (decimal d.scale d.value)) = search rules in
    on_ok_weaker c.put_decimal.result (λ put. scalar_put (λ v. string_as c.args.amqp_type c.args.text.now ≡ Some v) _ _ (scalar (decimal d.scale d.value)) put h) c.put_decimal.ensures.ok

pub returns-in-Ok-clause-ok : goal.returns-in-Ok-clause-ok
returns-in-Ok-clause-ok c =
    let b = c.in-Ok.bits in
    let size : length b ≡ 4 = search rules in
    let h : string_as c.args.amqp_type c.args.text.now ≡ Some (scalar (number amqp.Float (from_be_bytes w32 b))) = search rules in
    on_ok_weaker c.put.result (λ put. float_put (λ v. string_as c.args.amqp_type c.args.text.now ≡ Some v) _ _ b put size h) c.put.ensures.ok

pub returns-in-Ok-from_hex-clause-ok : goal.returns-in-Ok-from_hex-clause-ok
returns-in-Ok-from_hex-clause-ok c =
    let b = c.in-Ok-from_hex.bits in
    let size : length b ≡ 8 = search rules in
    let h : string_as c.args.amqp_type c.args.text.now ≡ Some (scalar (number amqp.Double (from_be_bytes w64 b))) = search rules in
    on_ok_weaker c.put-in-Ok-from_hex.result (λ put. double_put (λ v. string_as c.args.amqp_type c.args.text.now ≡ Some v) _ _ b put size h) c.put-in-Ok-from_hex.ensures.ok

pub returns-in_ok-bytes_of-in-LongString-clause-ok : goal.returns-in_ok-bytes_of-in-LongString-clause-ok
returns-in_ok-bytes_of-in-LongString-clause-ok c =
    let b = c.deref.result.now in
    let h : string_as c.args.amqp_type c.args.text.now ≡ Some (long b) = search rules in
    on_ok_weaker c.put_counted.result (λ put. long_put (λ v. string_as c.args.amqp_type c.args.text.now ≡ Some v) _ _ b put.0 put.1 h) c.put_counted.ensures.ok

pub returns-in_ok-bytes_of-in-ByteArray-clause-ok : goal.returns-in_ok-bytes_of-in-ByteArray-clause-ok
returns-in_ok-bytes_of-in-ByteArray-clause-ok c =
    let b = c.deref-in-ByteArray.result.now in
    let h : string_as c.args.amqp_type c.args.text.now ≡ Some (octets b) = search rules in
    on_ok_weaker c.put_counted-in-ByteArray.result (λ put. octets_put (λ v. string_as c.args.amqp_type c.args.text.now ≡ Some v) _ _ b put.0 put.1 h) c.put_counted-in-ByteArray.ensures.ok
