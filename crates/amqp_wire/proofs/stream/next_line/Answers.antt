-- `next_line` returns the line of what `next_from` returned (`line_is`). A value that was read
-- within limits can be written (`read_fits`).
use Rattle.std.proofs.Common.{◌≡◌, ◌∷◌, ◌++◌, [], Ok, Err, true, false, codes, subst, rules}
use Rattle.amqp_value_core.specs.View.{view}
use Rattle.amq_protocol_types.specs.stream.Readers.{kept, limits_of, IsOutcomeOf, IsOutcomeOfAll}
use Rattle.amqp_wire.specs.Lines.{kind_name}
use Rattle.amqp_wire.specs.Streams.{value_line}
use Rattle.amqp_wire.proofs.Output.{read_fits}
use Rattle.amqp_wire.proofs.Streams.{line_is, value_line_is, cut_line_is, refused_line_is}
use Rattle.amqp_wire.proofs.stream.next_line.Goals as goal

pub returns-in_ok-line_of-in-Ok-Some-clause-line : goal.returns-in_ok-line_of-in-Ok-Some-clause-line
returns-in_ok-line_of-in-Ok-Some-clause-line g c =
    let l = limits_of c.args.values.now in
    let left = g.R.Source.remaining c.next_from.new.reader in
    let line = c.in_ok-line_of-in-Ok-Some.field-0.items in
    let is : line ≡ value_line (view c.in-Ok-Some.value) = search rules in
    line_is l (kept c.args.values.now) (g.R.Source.remaining c.args.reader.now) left line true (Ok c.in-Ok-Some.field-0)
    (λ s bytes a. value_line_is l s left c.in-Ok-Some.value line is bytes (subst (λ o. IsOutcomeOfAll l s left (Ok o)) c.in-Ok-Some.field-0-is a)) c.requires.kept (c.in-Ok-Some.ensures.outcome_of_all c.requires.not_failed)

pub returns-in_ok-text_of-in-Err-Truncated-clause-line : goal.returns-in_ok-text_of-in-Err-Truncated-clause-line
returns-in_ok-text_of-in-Err-Truncated-clause-line g c =
    let l = limits_of c.args.values.now in
    let left = g.R.Source.remaining c.next_from.new.reader in
    let line = c.in_ok-text_of-in-Err-Truncated.field-0.items in
    let is : line ≡ codes "truncated\n" = search rules in
    line_is l (kept c.args.values.now) (g.R.Source.remaining c.args.reader.now) left line false (Err c.in-Err-Truncated.field-0)
    (λ s bytes a. cut_line_is l s left line is bytes (subst (λ e. IsOutcomeOfAll l s left (Err e)) c.in-Err-Truncated.field-0-is a)) c.requires.kept (c.in-Err-Truncated.ensures.outcome_of_all c.requires.not_failed)

pub returns-in_ok-refused_line-in-Err-Refused-clause-line : goal.returns-in_ok-refused_line-in-Err-Refused-clause-line
returns-in_ok-refused_line-in-Err-Refused-clause-line g c =
    let l = limits_of c.args.values.now in
    let left = g.R.Source.remaining c.next_from.new.reader in
    let line = c.in_ok-refused_line-in-Err-Refused.field-0.items in
    let kind = c.in-Err-Refused.error in
    let is : line ≡ codes "refused " ++ (kind_name kind ++ 10 ∷ []) = search rules in
    line_is l (kept c.args.values.now) (g.R.Source.remaining c.args.reader.now) left line false (Err c.in-Err-Refused.field-0)
    (λ s bytes a. refused_line_is l s left line kind is bytes (subst (λ e. IsOutcomeOfAll l s left (Err e)) c.in-Err-Refused.field-0-is a)) c.requires.kept (c.in-Err-Refused.ensures.outcome_of_all c.requires.not_failed)

pub line_of-requires-clause-fits : goal.line_of-requires-clause-fits
line_of-requires-clause-fits g c =
    let l = limits_of c.args.values.now in
    let reads = c.in-Ok-Some.ensures.outcome c.requires.not_failed in
    let s = kept c.args.values.now ++ reads.came in
    let left = g.R.Source.remaining c.next_from.new.reader in
    let read = subst (λ o. IsOutcomeOf l s left (Ok o) c.next_from.new.self) c.in-Ok-Some.field-0-is reads.outcome in
    (read_fits l s (view c.in-Ok-Some.value) read.0 read.1 c.requires.small).0

pub line_of-requires-clause-small : goal.line_of-requires-clause-small
line_of-requires-clause-small g c =
    let l = limits_of c.args.values.now in
    let reads = c.in-Ok-Some.ensures.outcome c.requires.not_failed in
    let s = kept c.args.values.now ++ reads.came in
    let left = g.R.Source.remaining c.next_from.new.reader in
    let read = subst (λ o. IsOutcomeOf l s left (Ok o) c.next_from.new.self) c.in-Ok-Some.field-0-is reads.outcome in
    (read_fits l s (view c.in-Ok-Some.value) read.0 read.1 c.requires.small).1
