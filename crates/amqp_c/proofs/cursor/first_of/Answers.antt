-- `first_of` gives the entry of the value at the start of the span: the one that `first` reads
-- there, with its offsets moved by that of the span.
use Rattle.std.proofs.Common.{List, ℕ, length, Ok, subst, sym}
use Rattle.amqp_value_core.specs.Outcomes.{Outcome, found}
use Rattle.amqp_c.specs.Entries.{GivesFirst, HeaderFaults, part, IsEntryAtStart, EntryIsIn}
use Rattle.amqp_c.proofs.FirstEntry.{cut_header}
use Rattle.amqp_c.proofs.Steps.{first_given, tagged_placed, faithful_placed}
use Rattle.amqp_c.proofs.cursor.first_of.Goals as goal

pub returns-clause-entry : goal.returns-clause-entry
returns-clause-entry c = λ v rest x.
    let s = c.args.bytes.now in
    let is = c.part.ensures in
    let e = c.in-Ok.entry in
    rw (c.span_after.ensures, c.span_after-2.ensures)
    (first_given s c.args.left c.args.key e c.requires.left
    (subst (λ (t : List ℕ). EntryIsIn (length t) e) is c.in-Ok.ensures.inside) v rest x
    (subst (λ (t : List ℕ). GivesFirst t v rest (Ok e)) is
    (c.in-Ok.ensures.faithful v rest (subst (λ (t : List ℕ). Outcome t (found v rest)) (sym is) x))))

pub returns-clause-typed : goal.returns-clause-typed
returns-clause-typed c =
    let s = c.args.bytes.now in
    let is = c.part.ensures in
    let e = c.in-Ok.entry in
    rw (c.span_after.ensures, c.span_after-2.ensures)
    (tagged_placed s c.args.left c.args.key e c.requires.left (subst (λ (t : List ℕ). EntryIsIn (length t) e) is c.in-Ok.ensures.inside) (subst (λ (t : List ℕ). IsEntryAtStart t e) is c.in-Ok.ensures.at_start))

pub returns-clause-faithful : goal.returns-clause-faithful
returns-clause-faithful c =
    let s = c.args.bytes.now in
    let is = c.part.ensures in
    let e = c.in-Ok.entry in
    let at_start = subst (λ (t : List ℕ). IsEntryAtStart t e) is c.in-Ok.ensures.at_start in
    rw (c.span_after.ensures, c.span_after-2.ensures)
    (faithful_placed s c.args.left c.args.key e c.requires.left (subst (λ (t : List ℕ). EntryIsIn (length t) e) is c.in-Ok.ensures.inside) at_start.1
    (λ v rest x. subst (λ (t : List ℕ). GivesFirst t v rest (Ok e)) is
    (c.in-Ok.ensures.faithful v rest (subst (λ (t : List ℕ). Outcome t (found v rest)) (sym is) x))))

pub returns-in_default-clause-cut : goal.returns-in_default-clause-cut
returns-in_default-clause-cut c = λ whole.
    let is = c.part.ensures in
    let s = part c.args.bytes.now c.args.left in
    let f = c.in_default.field-0 in
    cut_header s f (subst (λ (t : List ℕ). HeaderFaults (Outcome t) f) is c.in_default.ensures.refused) whole
