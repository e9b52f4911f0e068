-- Lemmas on `IsPutOrRejected`: the encoding of a JSON text that is put into the buffer, and why
-- nothing is.
use Rattle.std.proofs.Common.{◌≡◌, ◌≤◌, ℕ, None, List, length, Result, Ok, Err, MatchResult, refl, sym, ap, ◌∙◌, subst, arith}
use Rattle.std.specs.Prelude.{IfSome}
use Rattle.std.specs.Str.{IsUtf8}
use Rattle.amqp_value_core.specs.Values.{Tree}
use Rattle.amqp_value_core.specs.Grammar.{Wire}
use Rattle.amqp_value_core.specs.Texts.{text}
use Rattle.amqp_value_core.proofs.GrammarLaws.{wire_found}
use Rattle.amqp_json.specs.declared.error.JsonError.{JsonError}
use Rattle.amqp_json.specs.declared.error.JsonError.TheVariants as json
use Rattle.amqp_json.specs.Conversions.{IsRefusedWithin, IsWithin}
use Rattle.amqp_json.specs.declared.error.SyntaxError.TheVariants.{UnexpectedEnd, UnfinishedString}
use Rattle.amqp_c.specs.declared.fault.Fault.{Fault}
use Rattle.amqp_c.specs.CallResults.{IsPutAtStart, LacksRoom}
use Rattle.amqp_c_alloc.specs.JsonCalls.{IsTextOf, IsReadAs, IsEncodingFault, IsPutOrRejected, json_fault, json_problem}

-- what is put is the canonical encoding of the value that was meant
pub put_meant : (most : ℕ) (t bytes old new made : List ℕ) (v : Tree) (r : Result ℕ Fault) → IsTextOf most t v → bytes ≡ made → made ≡ text v → Wire made v
    → MatchResult r (IsPutAtStart bytes old new) (LacksRoom (length bytes) (length old)) → IsPutOrRejected most t old new r None
put_meant most t bytes old new made v r x same is encodes put = by r put
  where
    back : IsReadAs (text v) v
    back rest = wire_found (text v) rest v (subst (λ (b : List ℕ). Wire b v) is encodes)

    by : (r : Result ℕ Fault) → MatchResult r (IsPutAtStart bytes old new) (LacksRoom (length bytes) (length old)) → IsPutOrRejected most t old new r None
    by (Ok n) put = (v, x, back, subst (λ (b : List ℕ). IsPutAtStart b old new n) (same ∙ is) put)
    by (Err f) (e, less) = subst (IsEncodingFault most t (length old)) (sym e) (v, x, back, ap length (same ∙ is), less)

-- why a JSON text has no encoding is reported as it is
pub rejected_text : (most : ℕ) (t old new : List ℕ) (e : JsonError) → IsUtf8 t → IsRefusedWithin most e t → IsWithin e (length t)
    → IsPutOrRejected most t old new (Err (json_fault e)) (json_problem e)
rejected_text most t old new json.OutOfMemory utf8 refused within = utf8
rejected_text most t old new json.TooLarge utf8 refused within = utf8
rejected_text most t old new (json.Syntax at error) utf8 refused within = ((utf8, refused.0, refused.1, refused.2), (error, refl, within))
rejected_text most t old new (json.TooDeep at) utf8 refused within = ((utf8, refused.0, refused.1), refl)
rejected_text most t old new (json.NotAValue at mismatch) utf8 refused within = ((utf8, refused.0, refused.1), (mismatch, refl))

pub inside_of_text : (e : JsonError) (n : ℕ) → IsWithin e n → IfSome (json_problem e) (λ p. p.offset ≤ n)
inside_of_text (json.Syntax at UnexpectedEnd) n within = omega (arith, within)
inside_of_text (json.Syntax at UnfinishedString) n within = omega (arith, within)
inside_of_text (json.Syntax at error) n within = omega (arith, within)
inside_of_text (json.TooDeep at) n within = omega (arith, within)
inside_of_text (json.NotAValue at mismatch) n within = within
inside_of_text json.OutOfMemory n within = tt
inside_of_text json.TooLarge n within = tt
