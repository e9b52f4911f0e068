-- Of the loop in `find`: the path leads from `from` to what the steps left lead to from `at`.
use Rattle.std.proofs.Common.{Option, Result, length, drop}
use Rattle.amqp_c.specs.declared.entry.Entry.{Entry}
use Rattle.amqp_c.specs.declared.fault.Fault.{Fault}
use Rattle.amqp_c.specs.Paths.{IsInside, StepsLead}
use Rattle.amqp_c.proofs.lookup.find.Given as goal

-- what the steps that are left lead to from the entry, all lead to from the first
abbrev pub invariant-loop-step : goal.invariant-loop-step
invariant-loop-step l = record {
  on : (done : Result (Option Entry) Fault) → StepsLead l.bytes l.first_key (drop l.step-index l.path) l.at done → StepsLead l.bytes l.first_key l.path l.from done;
  inside : IsInside (length l.bytes) l.at;
}
