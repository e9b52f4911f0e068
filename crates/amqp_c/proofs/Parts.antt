-- Lemmas on part (*Entries*): the bytes of a span, and of a span inside a span.
use Rattle.std.proofs.Common.{◌≡◌, ◌+◌, ◌-◌, ◌≤◌, ℕ, List, ◌∷◌, ◌++◌, length, take, drop, sym, ap, ◌∙◌, arith, length-drop}
use Rattle.std.proofs.lemmas.List.{take_at, take-take, drop-drop, drop-take, length-take-le}
use Rattle.amqp_value_core.specs.Grammar.{long_field}
use Rattle.amqp_c.specs.declared.span.Span.{Span}
use Rattle.amqp_c.specs.Entries.{part, span_after, rest_after, last}

-- at the start
pub part_prefix : (s : List ℕ) (p : Span) → p.offset ≡ 0 → part s p ≡ take p.length s
part_prefix s p e = ap (λ (o : ℕ). take p.length (drop o s)) e

-- after a type tag and a length
pub part_content : (s mid body rest : List ℕ) (c : ℕ) (p : Span) → s ≡ c ∷ mid → mid ≡ long_field body ++ rest → p.offset ≡ 5 → p.length ≡ length body → part s p ≡ body
part_content s mid body rest c p typed framed at size =
    ap (λ (o : ℕ). take p.length (drop o s)) at
    ∙ (ap (λ (t : List ℕ). take p.length (drop 5 t)) (typed ∙ ap (λ (t : List ℕ). c ∷ t) framed)
    ∙ take_at body rest p.length (sym size))

-- a part of a part
pub part_within : (s : List ℕ) (p q : Span) → q.offset + q.length ≤ p.length → part (part s p) q ≡ part s (span_after p.offset q)
part_within s p q inside =
    let here : p.length ≡ q.offset + (p.length - q.offset) = omega arith in
    let cut : drop q.offset (part s p) ≡ take (p.length - q.offset) (drop q.offset (drop p.offset s)) =
    ap (λ (n : ℕ). drop q.offset (take n (drop p.offset s))) here ∙ drop-take q.offset (p.length - q.offset) (drop p.offset s) in
    ap (take q.length) cut
    ∙ (take-take q.length (p.length - q.offset) (drop q.offset (drop p.offset s)) (omega arith)
    ∙ (ap (take q.length) (drop-drop q.offset p.offset s)
    ∙ ap (λ (o : ℕ). take q.length (drop o s)) (omega arith)))

-- what is after the first n bytes of a part
pub part_after : (s : List ℕ) (p q : Span) (n : ℕ) → q.offset + q.length ≡ p.offset + n → n ≤ p.length → part s (rest_after p q) ≡ drop n (part s p)
part_after s p q n at inside =
    let here : p.length ≡ n + (p.length - n) = omega arith in
    let left : p.offset + p.length - (q.offset + q.length) ≡ p.length - n = omega arith in
    ap (λ (k : ℕ). take k (drop (q.offset + q.length) s)) left
    ∙ (ap (λ (o : ℕ). take (p.length - n) (drop o s)) at
    ∙ (sym (ap (take (p.length - n)) (drop-drop n p.offset s))
    ∙ (sym (drop-take n (p.length - n) (drop p.offset s))
    ∙ sym (ap (λ (k : ℕ). drop n (take k (drop p.offset s))) here))))

-- how many bytes a part has
pub part_length : (s : List ℕ) (p : Span) → p.offset + p.length ≤ length s → length (part s p) ≡ p.length
part_length s p inside = length-take-le p.length (drop p.offset s) (omega (arith, length-drop p.offset s))

-- the last n bytes of a part
pub part_last : (s : List ℕ) (p : Span) (n : ℕ) → p.offset + p.length ≤ length s → n ≤ p.length → part s (last p n) ≡ drop (length (part s p) - n) (part s p)
part_last s p n inside few =
    let before = p.length - n in
    let ends : n ≡ p.offset + p.length - (p.offset + before) = omega arith in
    ap (λ (k : ℕ). take k (drop (p.offset + before) s)) ends
    ∙ (part_after s p (record { offset = p.offset; length = before }) before (omega arith) (omega arith)
    ∙ ap (λ (m : ℕ). drop (m - n) (part s p)) (sym (part_length s p inside)))
