-- `is_above`: if there is a key before, `IsAbove` is the comparison that `is_below` makes.
use Rattle.std.proofs.Common.{sym, subst, Option, List, ℕ}
use Rattle.std.specs.Borrow.{Bor}
use Rattle.amqp_in_place.specs.Canonicals.{IsAbove}
use Rattle.amqp_in_place.proofs.canonical.is_above.Goals as goal

pub returns-in-Some-clause-yes : goal.returns-in-Some-clause-yes
returns-in-Some-clause-yes c = λ t.
    subst (λ (j : Option (Bor (List ℕ))). IsAbove j c.args.key.now) (sym c.in-Some.is) (c.is_below.ensures.yes t)

pub returns-in-Some-clause-no : goal.returns-in-Some-clause-no
returns-in-Some-clause-no c = λ f above.
    c.is_below.ensures.no f (subst (λ (j : Option (Bor (List ℕ))). IsAbove j c.args.key.now) c.in-Some.is above)
