-- `a_table_in_a_table`: the bytes are read as this value, by computation, with `is_utf8` unfolded.
use Rattle.std.proofs.Common.{refl}
use Rattle.std.specs.Str.{is_utf8, chars}
use lib.Utf8.{encode}
use Rattle.test_codec.proofs.worked.encodings.a_table_in_a_table.Goals as goal

pub returns-clause-reads : goal.returns-clause-reads
unfolding is_utf8 chars encode
returns-clause-reads c = refl
