-- `is_canonical`: the bytes are canonical exactly if `canonical_len` is the length of all of them,
-- and exactly if they are what is written for the value that is read from them.
use Rattle.std.proofs.Common.{length, refl}
use Rattle.amqp_in_place.proofs.Canonicals.{bytes_all, known_by_len, as_written, written_canon}
use Rattle.amqp_in_place.proofs.canonical.is_canonical.Goals as goal

pub returns-clause-yes : goal.returns-clause-yes
returns-clause-yes c = (known_by_len c.args.limits c.args.bytes.now (λ n. n) (length c.args.bytes.now) (λ i j e. e) refl c.canonical_len.result c.eq.result c.eq.ensures c.canonical_len.ensures.len c.canonical_len.ensures.none).0

pub returns-clause-no : goal.returns-clause-no
returns-clause-no c = (known_by_len c.args.limits c.args.bytes.now (λ n. n) (length c.args.bytes.now) (λ i j e. e) refl c.canonical_len.result c.eq.result c.eq.ensures c.canonical_len.ensures.len c.canonical_len.ensures.none).1

pub returns-clause-written : goal.returns-clause-written
returns-clause-written c = λ t.
    let bytes = bytes_all c.args.bytes.now c.type_inv.bytes in
    as_written c.args.limits c.args.bytes.now bytes (returns-clause-yes c t)

pub returns-clause-not_written : goal.returns-clause-not_written
returns-clause-not_written c = λ f x.
    let bytes = bytes_all c.args.bytes.now c.type_inv.bytes in
    returns-clause-no c f (written_canon c.args.limits c.args.bytes.now bytes x)
