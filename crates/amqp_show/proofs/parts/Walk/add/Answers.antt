-- `Walk::add`: with the part that is added, the parts are `joined` up to its end and `HaveOffsets`.
use Rattle.std.proofs.Common.{◌≡◌, ◌+◌, List, take, refl, sym, subst}
use Rattle.amqp_show.specs.declared.parts.Part.{Part}
use Rattle.amqp_show.specs.Parts.{joined, HaveOffsets}
use Rattle.amqp_show.proofs.Covering.{joined_more, offsets_more}
use Rattle.amqp_show.proofs.parts.Walk.add.Goals as goal

pub invariant_of-self-2-clause-joined : goal.invariant_of-self-2-clause-joined
invariant_of-self-2-clause-joined c =
    subst (λ (ps : List Part). joined ps ≡ take (c.args.self.now.at + c.args.count) c.args.self.now.bytes.now) (sym c.in_ok-push.ensures.items)
    (joined_more c.args.self.now.bytes.now c.args.self.now.at c.args.count c.args.self.now.parts.items _ c.args.self.now.joined refl)

pub invariant_of-self-2-clause-offsets : goal.invariant_of-self-2-clause-offsets
invariant_of-self-2-clause-offsets c =
    subst HaveOffsets (sym c.in_ok-push.ensures.items)
    (offsets_more c.args.self.now.bytes.now c.args.self.now.at c.args.self.now.parts.items _ c.args.self.now.joined c.args.self.now.within refl c.args.self.now.offsets)
