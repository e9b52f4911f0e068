-- `canonical_value` returns the canonical encoding of the value: the bytes that `canonical_len`
-- counts are canonical, and so the ones that are written for it.
use Rattle.std.proofs.Common.{refl}
use Rattle.amqp_in_place.proofs.Canonicals.{bytes_all}
use Rattle.amqp_c_alloc.proofs.CanonicalWritten.{canonical_prefix}
use Rattle.amqp_c_alloc.proofs.canonical.canonical_value.Goals as goal

pub returns-in-Some-clause-canonical : goal.returns-in-Some-clause-canonical
returns-in-Some-clause-canonical c = canonical_prefix c.args.limits c.args.bytes.now c.in-Some.count (bytes_all c.args.bytes.now c.type_inv.bytes) c.in-Some.ensures.len

pub returns-in-None-clause-none : goal.returns-in-None-clause-none
returns-in-None-clause-none c = λ _. c.in-None.ensures.none refl
