-- `loop_over_values`: each clause is a lemma of *StreamLaws*, for the result that the call returned.
use Rattle.std.proofs.Common.{subst}
use Rattle.amq_protocol_types.specs.stream.Readers.{ReadsNext}
use Rattle.amq_protocol_types.proofs.StreamLaws.{reads_nothing, reads_value, reads_again, reads_end, reads_error}
use Rattle.amq_protocol_types.proofs.stream.laws.loop_over_values.Goals as goal

pub returns-clause-start : goal.returns-clause-start
returns-clause-start g c = λ l values device from same is none not_failed. reads_nothing g.R.Source l values device from same is none not_failed

pub returns-clause-value : goal.returns-clause-value
returns-clause-value g c = λ l first vs v result old new from to is p next. reads_value g.R.Source l first vs v old new from to p (subst (λ r. ReadsNext g.R.Source old from r new to) is next)

pub returns-clause-again : goal.returns-clause-again
returns-clause-again g c = λ l first vs e result old new from to is passing p next. reads_again g.R.Source l first vs e old new from to p (subst (λ r. ReadsNext g.R.Source old from r new to) is next) passing

pub returns-clause-end : goal.returns-clause-end
returns-clause-end g c = λ l first vs result old new from to is p next. reads_end g.R.Source l first vs old new from to p (subst (λ r. ReadsNext g.R.Source old from r new to) is next)

pub returns-clause-error : goal.returns-clause-error
returns-clause-error g c = λ l first vs e result old new from to is p next. reads_error g.R.Source l first vs e old new from to p (subst (λ r. ReadsNext g.R.Source old from r new to) is next)
