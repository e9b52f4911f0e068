-- `Refusal`: a `ParserError` as contracts view it, with the kind of its `ParserErrors`.
use Rattle.std.specs.Prelude.{ℕ, List, codes}
use Rattle.amq_protocol_types.specs.declared.parsing.errors.Err.{Err}
use Rattle.amq_protocol_types.specs.declared.parsing.errors.Err.TheVariants.{Incomplete, Error, Failure}
use Rattle.amq_protocol_types.specs.declared.parsing.errors.Needed.TheVariants.{Size}
use Rattle.amq_protocol_types.specs.declared.parsing.errors.ErrorKind.{ErrorKind}
use Rattle.amq_protocol_types.specs.declared.parsing.errors.ErrorKind.TheVariants.{MapOpt, MapRes, Eof, OutOfMemory, TooLarge}

-- an error or a number of bytes that are needed, as the alias `ParserError`
abbrev pub Refusal : Type 0
Refusal = Err ErrorKind

-- what an error of the kind is printed as
abbrev pub printed : ErrorKind → List ℕ
printed MapOpt = codes "Parser error: Nom(MapOpt)"
printed MapRes = codes "Parser error: Nom(MapRes)"
printed Eof = codes "Parser error: Nom(Eof)"
printed OutOfMemory = codes "Parser error: OutOfMemory"
printed TooLarge = codes "Parser error: Nom(TooLarge)"

-- n more bytes are needed for the field that is being read
abbrev pub lacks : ℕ → Refusal
lacks n = Incomplete (Size n)

-- the input isn't what the parser reads
abbrev pub error_of_kind : ErrorKind → Refusal
error_of_kind kind = Error kind

-- an allocation failed
abbrev pub out_of_memory : Refusal
out_of_memory = Failure OutOfMemory

-- What the error of an entry means for the container round it, whose body is complete.
-- A failed allocation stays one, and with any other error the body isn't a concatenation of entries.
abbrev pub inside : Refusal → Refusal
inside (Failure kind) = Failure kind
inside _ = Error Eof
