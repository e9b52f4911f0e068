-- Lemmas on `with_bytes`, a buffer that is written to: writes that follow one another or overlap,
-- and the entry that `append` writes.
use Rattle.std.proofs.Common.{◌≡◌, ◌+◌, ◌-◌, ◌≤◌, ℕ, List, ◌++◌, length, take, drop, refl, sym, ap, ap₂, ◌∙◌, arith, append_assoc, length-append, length-drop}
use Rattle.std.proofs.lemmas.List.{take_at, drop_at, drop-drop, length-take-le, take-append-drop, take-append-le}
use Rattle.std.proofs.lemmas.Slice.{drop-append-drop}
use Rattle.std.proofs.lemmas.Bool.{ne_eqb}
use Rattle.amqp_c.specs.declared.container.Container.{Container}
use Rattle.amqp_c.specs.Containers.{IsPlace, named, end_of, entry_of, end_with, up_to}
use Rattle.amqp_c.specs.Growth.{IsAppended}
use Rattle.amqp_c.specs.CallResults.{with_bytes}

-- bytes that are written after others are written with these at once
pub with_bytes-join : (at next : ℕ) (a b buffer : List ℕ) → next ≡ at + length a → next ≤ length buffer
    → with_bytes next b (with_bytes at a buffer) ≡ with_bytes at (a ++ b) buffer
with_bytes-join at next a b buffer e fits =
    let prefix = take at buffer in
    let rest = drop (at + length a) buffer in
    let count : length (prefix ++ a) ≡ next = omega (arith, length-append prefix a, length-take-le at buffer (omega arith)) in
    let split : prefix ++ (a ++ rest) ≡ (prefix ++ a) ++ rest = sym (append_assoc prefix a rest) in
    let before : take next (prefix ++ (a ++ rest)) ≡ prefix ++ a = ap (take next) split ∙ take_at (prefix ++ a) rest next count in
    let after : drop (next + length b) (prefix ++ (a ++ rest)) ≡ drop (at + length (a ++ b)) buffer =
    sym (drop-drop (length b) next (prefix ++ (a ++ rest)))
    ∙ (ap (λ (t : List ℕ). drop (length b) t) (ap (drop next) split ∙ drop_at (prefix ++ a) rest next count)
    ∙ (drop-drop (length b) (at + length a) buffer
    ∙ ap (λ (n : ℕ). drop n buffer) (omega (arith, length-append a b)))) in
    ap₂ (λ (p q : List ℕ). p ++ (b ++ q)) before after
    ∙ (append_assoc prefix a (b ++ drop (at + length (a ++ b)) buffer)
    ∙ ap (λ (t : List ℕ). prefix ++ t) (sym (append_assoc a b (drop (at + length (a ++ b)) buffer))))

-- bytes that are written over no more than they are, are written as if those weren't
over : (at : ℕ) (a b buffer : List ℕ) → at ≤ length buffer → length a ≤ length b → with_bytes at b (with_bytes at a buffer) ≡ with_bytes at b buffer
over at a b buffer fits few =
    let rest = drop (at + length a) buffer in
    let before : take at (take at buffer ++ (a ++ rest)) ≡ take at buffer = take_at (take at buffer) (a ++ rest) at (length-take-le at buffer fits) in
    let after : drop (at + length b) (take at buffer ++ (a ++ rest)) ≡ drop (at + length b) buffer =
    ap (drop (at + length b)) (sym (append_assoc (take at buffer) a rest))
    ∙ drop-append-drop (at + length a) buffer (take at buffer ++ a) (at + length b) (omega (arith, few)) (omega (arith, length-append (take at buffer) a, length-take-le at buffer fits)) in
    ap₂ (λ (p q : List ℕ). p ++ (b ++ q)) before after

length-with_bytes : (at : ℕ) (b buffer : List ℕ) → at + length b ≤ length buffer → length (with_bytes at b buffer) ≡ length buffer
length-with_bytes at b buffer fits =
    omega (arith, fits, length-append (take at buffer) (b ++ drop (at + length b) buffer), length-append b (drop (at + length b) buffer), length-take-le at buffer (omega (arith, fits)), length-drop (at + length b) buffer)

-- the first k bytes and the last k, which are all of them, are written as these
pub with_bytes-ends : (k n at last : ℕ) (b buffer : List ℕ) → n ≡ length b → k ≤ n → n ≤ k + k → at + n ≤ length buffer → last ≡ at + n - k
    → with_bytes last (drop (n - k) b) (with_bytes at (take k b) buffer) ≡ with_bytes at b buffer
with_bytes-ends k n at last b buffer counted least most fits is =
    let m = n - k in
    let mid = drop m (take k b) in
    let one = with_bytes at (take m b) buffer in
    let size : length (take m b) ≡ m = length-take-le m b (omega (arith, counted)) in
    let here : last ≡ at + length (take m b) = omega (arith, size, is, least) in
    let firsts : length (take k b) ≡ k = length-take-le k b (omega (arith, counted, least)) in
    let same : take m (take k b) ≡ take m b =
    sym (take-append-le m (take k b) (drop k b) (omega (arith, firsts, most))) ∙ ap (take m) (take-append-drop k b) in
    let split : take m b ++ mid ≡ take k b = ap (λ (t : List ℕ). t ++ mid) (sym same) ∙ take-append-drop m (take k b) in
    let apart : with_bytes at (take k b) buffer ≡ with_bytes last mid one =
    ap (λ (t : List ℕ). with_bytes at t buffer) (sym split) ∙ sym (with_bytes-join at last (take m b) mid buffer here (omega (arith, is, fits, least))) in
    let whole : length one ≡ length buffer = length-with_bytes at (take m b) buffer (omega (arith, size, fits)) in
    ap (with_bytes last (drop m b)) apart
    ∙ (over last mid (drop m b) one (omega (arith, whole, is, fits)) (omega (arith, length-drop m (take k b), firsts, length-drop m b, counted, least, most))
    ∙ (with_bytes-join at last (take m b) (drop m b) buffer here (omega (arith, is, fits, least))
    ∙ ap (λ (t : List ℕ). with_bytes at t buffer) (take-append-drop m b)))

-- how many bytes are before the value of an entry
pub named_table : (tag : ℕ) (k : List ℕ) → tag ≡ 70 → length (named tag k) ≡ 1 + length k
named_table tag k is = rw is (omega arith)

pub named_other : (tag : ℕ) (k : List ℕ) → (tag ≡ 70 → ⊥) → length (named tag k) ≡ 0
named_other tag k other = rw (ne_eqb tag 70 other) refl

-- an entry is there once what is before its value, and its encoding in two parts are written
pub appended : (old k head content first second new : List ℕ) (into grown : Container) (at n : ℕ)
    → IsPlace (length old) into k → at ≡ end_of into → n ≡ length (named into.tag k) → n + length head + length content ≤ length old - at
    → first ≡ with_bytes at (named into.tag k) old → second ≡ with_bytes (at + n) head first → new ≡ with_bytes (at + n + length head) content second
    → grown ≡ up_to (at + (n + length head + length content)) into
    → IsAppended old into k (head ++ content) new × (grown ≡ up_to (end_with into k (head ++ content)) into)
appended old k head content first second new into grown at n place is counts fits e₁ e₂ e₃ reaches =
    let name = named into.tag k in
    let two : second ≡ with_bytes at (name ++ head) old =
    e₂ ∙ (ap (with_bytes (at + n) head) e₁ ∙ with_bytes-join at (at + n) name head old (omega arith) (omega arith)) in
    let three : new ≡ with_bytes at ((name ++ head) ++ content) old =
    e₃ ∙ (ap (with_bytes (at + n + length head) content) two
    ∙ with_bytes-join at (at + n + length head) (name ++ head) content old (omega (arith, length-append name head)) (omega arith)) in
    let whole : new ≡ with_bytes at (entry_of into k (head ++ content)) old = three ∙ ap (λ (b : List ℕ). with_bytes at b old) (append_assoc name head content) in
    let count : length (entry_of into k (head ++ content)) ≡ n + length head + length content =
    omega (arith, length-append name (head ++ content), length-append head content) in (
      record {
        place = place;
        buffer = omega (arith, place.0, count);
        written = whole ∙ ap (λ (m : ℕ). with_bytes m (entry_of into k (head ++ content)) old) is;
      },
      reaches ∙ ap (λ (m : ℕ). up_to m into) (omega (arith, count)),
    )
