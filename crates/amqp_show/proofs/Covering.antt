-- With one part more, `joined` and `HaveOffsets` still hold. For `Walk::add` of `src/parts.rt`.
use Rattle.std.proofs.Common.{◌≡◌, ◌+◌, ◌≤◌, ◌-◌, ℕ, List, [], ◌∷◌, ◌++◌, length, take, drop, map, slice_range, refl, sym, ap, ap₂, ◌∙◌, arith, append_assoc, append-nil, length-append}
use Rattle.std.proofs.lemmas.List.{length-take-le}
use Rattle.std.proofs.Math.Seq.{take-add}
use Rattle.amqp_show.specs.declared.parts.Part.{Part}
use Rattle.amqp_show.specs.Parts.{joined, starts, HaveOffsets}

joined_last : (ps : List Part) (p : Part) → joined (ps ++ p ∷ []) ≡ joined ps ++ p.bytes.now
joined_last [] p = append-nil p.bytes.now
joined_last (q ∷ ps) p = ap (λ s. q.bytes.now ++ s) (joined_last ps p) ∙ sym (append_assoc q.bytes.now (joined ps) p.bytes.now)

starts_last : (n : ℕ) (ps : List Part) (p : Part) → starts n (ps ++ p ∷ []) ≡ starts n ps ++ (n + length (joined ps)) ∷ []
starts_last n [] p = ap (λ k. k ∷ []) (omega arith)
starts_last n (q ∷ ps) p =
    ap (λ s. n ∷ s) (starts_last (n + length q.bytes.now) ps p
    ∙ ap (λ k. starts (n + length q.bytes.now) ps ++ k ∷ []) (omega (arith, length-append q.bytes.now (joined ps))))

offsets_last : (ps : List Part) (p : Part) → map (λ q. q.offset) (ps ++ p ∷ []) ≡ map (λ q. q.offset) ps ++ p.offset ∷ []
offsets_last [] p = refl
offsets_last (q ∷ ps) p = ap (λ s. q.offset ∷ s) (offsets_last ps p)

-- the bytes of a part that begins at the end of the parts join theirs
pub joined_more : (xs : List ℕ) (at n : ℕ) (ps : List Part) (p : Part) → joined ps ≡ take at xs → p.bytes.now ≡ slice_range xs at (at + n) → joined (ps ++ p ∷ []) ≡ take (at + n) xs
joined_more xs at n ps p so is =
    let count : at + n - at ≡ n = omega arith in
    joined_last ps p ∙ (ap₂ (λ s t. s ++ t) so (is ∙ ap (λ k. take k (drop at xs)) count) ∙ sym (take-add at n xs))

-- and its offset is that of its first byte
pub offsets_more : (xs : List ℕ) (at : ℕ) (ps : List Part) (p : Part) → joined ps ≡ take at xs → at ≤ length xs → p.offset ≡ at → HaveOffsets ps → HaveOffsets (ps ++ p ∷ [])
offsets_more xs at ps p so within is have =
    let long : length (joined ps) ≡ at = ap length so ∙ length-take-le at xs within in
    offsets_last ps p ∙ (ap₂ (λ s k. s ++ k ∷ []) have (is ∙ sym long) ∙ sym (starts_last 0 ps p ∙ ap (λ k. starts 0 ps ++ k ∷ []) (omega arith)))
