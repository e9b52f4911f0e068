-- `put_leaf`: a number or a string means what `number_as` or `string_as` has, and no value begins
-- with a closing bracket or a key.
use Rattle.std.proofs.Common.{arith, ◌≡◌, Some}
use Rattle.std.proofs.lemmas.Result.{on_ok_weaker}
use Rattle.json.specs.Token.{number, string}
use Rattle.json.specs.Reads.{token_of}
use Rattle.amqp_json.specs.Meaning.{number_as, string_as}
use Rattle.amqp_json.specs.reading.Puts.{IsLeaf}
use Rattle.amqp_json.proofs.PutEncodings.{puts_weaker}
use Rattle.amqp_json.proofs.ObjectKeys.{number_leaf, string_leaf, closer}
use Rattle.amqp_json.proofs.reading.walk.put_leaf.Goals as goal

pub returns-in-Number-clause-ok : goal.returns-in-Number-clause-ok
returns-in-Number-clause-ok c =
    let type = c.args.amqp_type in
    let t = token_of c.args.token in
    let x = c.in-Number.text.now in
    let is : t ≡ number x = grind arith in
    on_ok_weaker c.put_number.result (puts_weaker (λ v. number_as type x ≡ Some v) (IsLeaf type t) _ _ (λ v h. number_leaf type t x v is h)) c.put_number.ensures.ok

pub returns-in-String-clause-ok : goal.returns-in-String-clause-ok
returns-in-String-clause-ok c =
    let type = c.args.amqp_type in
    let t = token_of c.args.token in
    let x = c.in-String.text.now in
    let is : t ≡ string x = grind arith in
    on_ok_weaker c.put_string.result (puts_weaker (λ v. string_as type x ≡ Some v) (IsLeaf type t) _ _ (λ v h. string_leaf type t x v is h)) c.put_string.ensures.ok

pub returns-in-EndArray-clause-refused : goal.returns-in-EndArray-clause-refused
returns-in-EndArray-clause-refused c depth ts = closer depth ts c.args.token c.in-EndArray.is
