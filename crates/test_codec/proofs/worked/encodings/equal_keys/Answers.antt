-- `equal_keys`: of equal keys the last value stays. What is read is computed, and `Mean` takes the
-- last value, and keys that ascend.
use Rattle.std.proofs.Common.{refl, ap}
use Rattle.std.specs.Str.{is_utf8, chars}
use Rattle.std.specs.Prelude.{codes}
use lib.Utf8.{encode}
use Rattle.amqp_value_core.proofs.GrammarLaws.{put_mean}
use Rattle.test_codec.proofs.worked.encodings.equal_keys.Goals as goal

pub returns-clause-reads : goal.returns-clause-reads
unfolding is_utf8 chars encode
returns-clause-reads c = refl

pub returns-clause-between : goal.returns-clause-between
unfolding is_utf8 chars encode
returns-clause-between c = refl

pub returns-clause-mean : goal.returns-clause-mean
returns-clause-mean c = put_mean _

pub returns-clause-not_the_first : goal.returns-clause-not_the_first
returns-clause-not_the_first c x = absurd (cc (x.last (codes "a")))

pub returns-clause-not_twice : goal.returns-clause-not_twice
returns-clause-not_twice c x = absurd (cc x.rising.0)
