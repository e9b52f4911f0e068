-- `put_bytes` puts an entry with the string or byte array: type tag, length and bytes are its
-- canonical encoding.
use Rattle.std.proofs.Common.{◌≡◌, ◌<◌, ◌^◌, ℕ, List, ◌∷◌, ◌++◌, length, refl, ap, ◌∙◌, arith, rules}
use Rattle.std.specs.Int.{w32, to_be_bytes}
use Rattle.amqp_c.specs.Items.{byte_string}
use Rattle.amqp_c.proofs.EncodingsByRules.{plain_reads}
use Rattle.amqp_c.proofs.PutEntries.{put_of, strings}
use Rattle.amqp_c.proofs.put.put_bytes.Goals as goal

pub returns-clause-put : goal.returns-clause-put
returns-clause-put c =
    let tag = c.args.tag in
    let b = c.args.bytes.now in
    let w = c.head_of-head.result ++ b in
    let few : length b < 2 ^ 32 = omega arith in
    let counts : c.to_be_bytes.result ≡ to_be_bytes w32 (length b) = search rules in
    let is = strings tag b c.head_of-head.result w c.if-not-is_string_tag.ensures few (c.head_of-head.ensures ∙ ap (λ (l : List ℕ). tag ∷ l) counts) refl in
    put_of (byte_string tag b) c.args.buffer.now c.append.new.buffer c.args.key.now w c.args.into c.append.result
    c.in_ok-at.ensures.0 (is.0, is.1, is.2, is.3, is.4) (λ rules depth any deep. plain_reads w is.0 is.4 is.5 rules depth any) c.append.ensures.appended
