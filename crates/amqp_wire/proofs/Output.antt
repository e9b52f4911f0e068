-- `IsOutputUpTo`: parts that are written one after another make a prefix of the output.
use Rattle.std.proofs.Common.{◌≡◌, ◌≤◌, ◌<◌, ◌^◌, ℕ, Option, List, [], length, arith, ◌∷◌, ◌++◌, take, drop, ap, ◌∙◌, sym, append_assoc, take-append-drop}
use Rattle.std.specs.Io.KnownBytes.{Appends}
use Rattle.std.proofs.KnownBytes.{Appends-trans}
use Rattle.amqp_value_core.specs.Values.{Tree}
use Rattle.amqp_value_core.specs.Texts.{size, Fits}
use Rattle.amqp_value_core.specs.Nesting.{WireWithin}
use Rattle.amqp_value_core.proofs.GrammarLaws.{wire_of, bounded_wire}
use Rattle.amq_protocol_types.specs.declared.parsing.within.Limits.{Limits}
use Rattle.amqp_wire.specs.Lines.{line_by, lines_by, AppendsTextPrefix}

-- what was read within limits fits, and is no longer than they allow
pub read_fits : (l : Limits) (s : List ℕ) (v : Tree) → WireWithin l.depth s v → length s ≤ l.frame → l.frame < 2 ^ 32 → Fits v × (size v < 2 ^ 32)
read_fits l s v p few small = let b = bounded_wire s v (wire_of l.depth s v p) in (b.fits, omega (arith, b.size, few, small))

-- a prefix of the output was appended, and this is the rest
abbrev pub IsOutputUpTo : Option (List ℕ) → Option (List ℕ) → List ℕ → List ℕ → Type 0
IsOutputUpTo a b all rest = (prefix : List ℕ) × (all ≡ prefix ++ rest) × Appends a b prefix

-- a prefix of the rest was appended
pub written_more : (a b c : Option (List ℕ)) (all rest more left : List ℕ) → IsOutputUpTo a b all rest → rest ≡ more ++ left → Appends b c more → IsOutputUpTo a c all left
written_more a b c all rest more left (prefix, e, p) e' q =
    (prefix ++ more, e ∙ ap (λ l. prefix ++ l) e' ∙ sym (append_assoc prefix more left), Appends-trans a b c prefix more p q)

-- the first n bytes of the rest were appended
pub written_prefix : (a b c : Option (List ℕ)) (all rest left : List ℕ) (n : ℕ) → IsOutputUpTo a b all rest → Appends b c (take n rest) → left ≡ drop n rest → IsOutputUpTo a c all left
written_prefix a b c all rest left n h p e =
    written_more a b c all rest (take n rest) left h (sym (take-append-drop n rest) ∙ ap (λ l. take n rest ++ l) (sym e)) p

-- a prefix of a prefix of the rest was appended
pub written_part : (a b c : Option (List ℕ)) (all rest more left : List ℕ) → IsOutputUpTo a b all rest → rest ≡ more ++ left → AppendsTextPrefix b c more → AppendsTextPrefix a c all
written_part a b c all rest more left (prefix, e, p) e' (part, missing, e'', q) = (
  prefix ++ part,
  missing ++ left,
  e ∙ ap (λ l. prefix ++ l) (e' ∙ ap (λ l. l ++ left) e'' ∙ append_assoc part missing left) ∙ sym (append_assoc prefix part (missing ++ left)),
  Appends-trans a b c prefix part p q,
)

-- the results that are left begin with the result of the first line that is left
pub first_result : (say : List ℕ → List ℕ) (left next : List (List ℕ)) (b more : List ℕ) → left ≡ b ∷ next → more ≡ line_by say b ++ 10 ∷ []
    → lines_by say left ≡ more ++ lines_by say next
first_result say left next b more e e' = ap (lines_by say) e ∙ ap (λ l. l ++ lines_by say next) (sym e')
