-- `kind_read`: a type that a type tag denotes is read as itself (`read_as`).
use Rattle.std.proofs.Common.{◌≡◌, ℕ, Bool, true, false, cond, nat_eq, List, [], ◌∷◌, Option, Some, refl, subst}
use Rattle.std.specs.Map.{lookup}
use Rattle.std.specs.List.{AllByRecursion}
use Rattle.std.specs.Option.{IfSome}
use Rattle.amqp_value_core.specs.declared.types.amqp_type.AMQPType.{AMQPType}
use Rattle.amqp_value_core.specs.Ids.{letters, kind}
use Rattle.amqp_value_core.specs.Names.{read_as}

-- what holds of each line of a table holds of what is found in it
pub row_holds : (P : AMQPType → Type 0) (test : ℕ → Bool) (rows : List (ℕ × AMQPType)) → AllByRecursion (λ r. P r.1) rows → IfSome (lookup test rows) P
row_holds P test [] all = tt
row_holds P test (r ∷ rows) all = by (test r.0) (row_holds P test rows all.1)
  where
    by : (t : Bool) → IfSome (lookup test rows) P → IfSome (cond t (Some r.1) (lookup test rows)) P
    by true after = all.0
    by false after = after

-- a type that a letter denotes is read as itself
rows_read : AllByRecursion (λ (r : ℕ × AMQPType). read_as r.1 ≡ Some r.1) letters
rows_read = (refl, (refl, (refl, (refl, (refl, (refl, (refl, (refl, (refl, (refl, (refl, (refl, (refl, (refl, (refl, (refl, (refl, (refl, (refl, tt)))))))))))))))))))

pub kind_read : (c : ℕ) (type : AMQPType) → kind c ≡ Some type → read_as type ≡ Some type
kind_read c type k =
    subst (λ (o : Option AMQPType). IfSome o (λ type. read_as type ≡ Some type)) k
    (row_holds (λ type. read_as type ≡ Some type) (nat_eq c) letters rows_read)
