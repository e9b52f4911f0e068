-- `put_token`: a comma if one is needed, and the token's text, are what is printed for the token.
use Rattle.std.proofs.Common.{sym}
use Rattle.json.specs.Reads.{token_of}
use Rattle.amqp_json.proofs.Printed.{token_put}
use Rattle.amqp_json.proofs.printing.tokens.put_token.Goals as goal

pub returns : goal.returns
returns c =
    token_put _ _ _ c.args.place _ _ (token_of c.args.token) (rw (sym c.begins.ensures) c.put_separator-at.ensures) c.put_text.ensures c.ends.ensures
