-- `a_large_table`: the value is written as these bytes, and read from them, by computation, with
-- `is_utf8` unfolded.
use Rattle.std.proofs.Common.{refl}
use Rattle.std.specs.Str.{is_utf8, chars}
use lib.Utf8.{encode}
use Rattle.test_codec.proofs.worked.encodings.a_large_table.Goals as goal

pub returns : goal.returns
unfolding is_utf8 chars encode
returns c = (refl, refl, refl)
