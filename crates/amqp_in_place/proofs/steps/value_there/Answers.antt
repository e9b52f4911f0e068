-- `value_there`: where an encoding begins its head is read, and what refers to that is a view of
-- the bytes there.
use Rattle.std.proofs.Common.{ℕ, List, sym, subst}
use Rattle.amqp_value_core.specs.Bytes.{slice_bytes}
use Rattle.amqp_in_place.specs.Heads.{IsHead}
use Rattle.amqp_in_place.specs.Walks.{HasEncodingAtStart}
use Rattle.amqp_in_place.proofs.Stepping.{read_there, meant_there}
use Rattle.amqp_in_place.proofs.Places.{inside}
use Rattle.amqp_in_place.proofs.steps.value_there.Goals as goal

pub unreachable-requires : goal.unreachable-requires
unreachable-requires c =
    read_there (slice_bytes c.new.result) c.in_default.field-0 (subst (λ (t : List ℕ). ∥ HasEncodingAtStart t ∥₁) (sym c.new.ensures) (rw c.in-Some.is at c.requires)) c.in_default.ensures

pub value_of-requires : goal.value_of-requires
value_of-requires c =
    meant_there (slice_bytes c.new.result) c.in-Ok.head (slice_bytes c.in-Ok.field-0-0) c.in-Ok.ensures (subst (λ (t : List ℕ). ∥ HasEncodingAtStart t ∥₁) (sym c.new.ensures) (rw c.in-Some.is at c.requires))

pub returns-in-Ok : goal.returns-in-Ok
returns-in-Ok c =
    let rest = slice_bytes c.in-Ok.field-0-0 in
    let is = subst (λ (t : List ℕ). IsHead t c.in-Ok.head rest) c.new.ensures c.in-Ok.ensures in
    rw c.in-Some.is (rest, inside c.in-Some.bytes.now c.in-Ok.head c.value_of.result rest is c.value_of.ensures.refers)
