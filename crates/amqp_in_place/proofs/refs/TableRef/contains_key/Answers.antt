-- `TableRef::contains_key`: the last pair with a key begins somewhere exactly if the entries have
-- the key.
use Rattle.std.proofs.Common.{List, ℕ, sym, ◌∙◌, subst}
use Rattle.amqp_in_place.specs.Bodies.{HasPairs, HasEntries}
use Rattle.amqp_in_place.proofs.Lookups.{begins_has_key}
use Rattle.amqp_in_place.proofs.refs.TableRef.contains_key.Goals as goal

pub place_of-requires : goal.place_of-requires
place_of-requires c = subst (λ (s : List ℕ). ∥ HasPairs s ∥₁) (sym c.as_bytes.ensures) c.args.self.well_formed

pub returns : goal.returns
returns c = λ es p.
    rw (sym c.as_bytes-2.ensures.value)
    (c.is_some.ensures ∙ begins_has_key c.as_bytes-2.result.now c.as_bytes.result.now c.place_of.result c.place_of.ensures.found es (subst (λ (s : List ℕ). HasEntries s es) (sym c.as_bytes.ensures) p))
