-- `AddsText`: texts, or characters, that are added to a `Screen` one after another.
use Rattle.std.proofs.Common.{◌≡◌, ℕ, ◌/◌, ◌%◌, List, [], ◌∷◌, ◌++◌, map, refl, sym, ap, subst, ◌∙◌, append_assoc, append-nil}
use Rattle.std.proofs.lemmas.Grind.{flat_map-append}
use Rattle.std.proofs.lemmas.List.{map-id}
use Rattle.std.specs.Char.{digit_char}
use Rattle.std.specs.List.{flat_map}
use Rattle.amqp_show.specs.Screens.{escape}
use Rattle.amqp_show.specs.Output.{shown, AddsText}
use Rattle.amqp_show.specs.declared.screen.Screen.{Screen}

-- nothing is added
pub adds_nothing : (a : Screen) → AddsText a a []
adds_nothing a = record { text = sym (append-nil (shown a)); colours = refl }

-- two texts
pub adds_both : (a b c : Screen) (x y : List ℕ) → AddsText a b x → AddsText b c y → AddsText a c (x ++ y)
adds_both a b c x y p q = record { text = q.text ∙ ap (λ s. s ++ y) p.text ∙ append_assoc (shown a) x y; colours = q.colours ∙ p.colours }

-- what is shown of one more character
pub adds_one_more : (f : ℕ → List ℕ) (a b d : Screen) (ys : List ℕ) (c : ℕ) → AddsText a b (flat_map f ys) → AddsText b d (f c) → AddsText a d (flat_map f (ys ++ c ∷ []))
adds_one_more f a b d ys c p q =
    subst (AddsText a d) (sym (flat_map-append f ys (c ∷ []) ∙ ap (λ s. flat_map f ys ++ s) (append-nil (f c)))) (adds_both a b d _ _ p q)

-- of all of them
pub adds_all : (f : ℕ → List ℕ) (a b : Screen) (ys all : List ℕ) → map (λ y. y) ys ≡ all → AddsText a b (flat_map f ys) → AddsText a b (flat_map f all)
adds_all f a b ys all e p = subst (λ l. AddsText a b (flat_map f l)) (sym (map-id ys) ∙ e) p

-- an escape
pub adds_escape : (a b d e f g : Screen) (code c : ℕ) → code ≡ c → AddsText a b (92 ∷ 117 ∷ [])
    → AddsText b d (digit_char (code / 4096 % 16) ∷ []) → AddsText d e (digit_char (code / 256 % 16) ∷ [])
    → AddsText e f (digit_char (code / 16 % 16) ∷ []) → AddsText f g (digit_char (code % 16) ∷ []) → AddsText a g (escape c)
adds_escape a b d e f g code c is p q r s t =
    subst (λ k. AddsText a g (escape k)) is (adds_both a b g _ _ p (adds_both b d g _ _ q (adds_both d e g _ _ r (adds_both e f g _ _ s t))))
