-- `ShortStringError::fmt` writes `too_long_text`, since 255 is printed as the digits 2, 5 and 5.
use Rattle.std.proofs.Common.{◌≡◌, [], ◌∷◌, refl, ap, ◌++◌, List, ℕ}
use Rattle.std.specs.Fmt.{decimal, digits}
use Rattle.std.specs.Prelude.{codes}
use Rattle.std.proofs.Output.{has_written_of_eq}
use Rattle.amqp_value_core.specs.Short.{refused_length}
use Rattle.amqp_value_core.proofs.types.short_string.ShortStringErrorDisplay.fmt.Goals as goal

-- the greatest length, as it is printed
greatest : decimal 255 ≡ 50 ∷ 53 ∷ 53 ∷ []
unfolding digits
greatest = refl

pub returns-clause-writes : goal.returns-clause-writes
returns-clause-writes g c = λ plain ok. has_written_of_eq _ _ _ _ _ (ap (λ (d : List ℕ). codes "ShortString exceeds maximum length of " ++ (d ++ (codes " bytes (got " ++ (decimal (refused_length c.args.self.now) ++ codes ")")))) greatest) (c.write.ensures.writes plain ok)
