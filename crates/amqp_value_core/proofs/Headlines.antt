-- What was read can be written in no more bytes (`IsWritableIn`), and `text` of a value is a
-- shortest encoding (`IsShortest`) and no other value's (`TellsApart`).
use Rattle.std.proofs.Common.{◌≡◌, ◌-◌, ℕ, List, ◌++◌, length, ap, subst, arith, length-append}
use Rattle.amqp_value_core.specs.Values.{Tree}
use Rattle.amqp_value_core.specs.Grammar.{Wire}
use Rattle.amqp_value_core.specs.Outcomes.{found, Outcome}
use Rattle.amqp_value_core.specs.Texts.{text}
use Rattle.amqp_value_core.specs.Headline.{IsWritableIn, IsShortest, TellsApart}
use Rattle.amqp_value_core.proofs.Outcomes.{prefix_found}
use Rattle.amqp_value_core.proofs.Bounds.{bounds}
use Rattle.amqp_value_core.proofs.Shortest.{what_is_read, shortest, same_text_same_value}

-- what is found has an encoding at the start
pub found_prefix : (s rest : List ℕ) (v : Tree) → Outcome s (found v rest) → (w : List ℕ) × Wire w v × (s ≡ w ++ rest)
found_prefix s rest v x = prefix_found Wire s rest v x

-- a value that was read is bounded by its encoding
pub bounded_wire : (w : List ℕ) (v : Tree) → Wire w v → IsWritableIn (length w) v
bounded_wire w v p =
    let bound = bounds w v p in
    let read = what_is_read w v p in
    record { fits = read.0; readable = read.1; size = bound.0; count = bound.1; depth = bound.2 }

-- so by the bytes that reading it took
pub bounded_found : (s rest : List ℕ) (v : Tree) → Outcome s (found v rest) → IsWritableIn (length s - length rest) v
bounded_found s rest v x =
    let prefix = found_prefix s rest v x in
    let taken : length prefix.0 ≡ length s - length rest = omega (arith, ap length prefix.2, length-append prefix.0 rest) in
    subst (λ (n : ℕ). IsWritableIn n v) taken (bounded_wire prefix.0 v prefix.1)

-- the canonical encoding is a shortest encoding
pub is_shortest : (v : Tree) → IsShortest v
is_shortest v w bytes p = shortest w v bytes p

-- and is that of no other value
pub injective : (v : Tree) → TellsApart v
injective v u w x bytes_w bytes_x p q = (λ e. same_text_same_value w x v u p q bytes_w bytes_x e, λ e. ap text e)
