-- `has_no_high_bit`: eight bytes are ASCII if no high bit is set in the number that they make.
use Rattle.std.proofs.Common.{ℕ, sym, ap, ◌∙◌}
use Rattle.std.specs.Int.Bits.{bit_and}
use Rattle.std.proofs.lemmas.Bool.{eqb-true}
use Rattle.amqp_c.proofs.Ascii.{high_bits, eight_are_ascii}
use Rattle.amqp_c.proofs.key.has_no_high_bit.Goals as goal

pub returns : goal.returns
returns c =
    λ is.
    eight_are_ascii c.args.eight.now c.told-eight c.fits-eight
    (ap (λ (n : ℕ). bit_and n high_bits) (sym c.from_le_bytes.ensures) ∙ eqb-true (bit_and c.from_le_bytes.result high_bits) 0 is)
