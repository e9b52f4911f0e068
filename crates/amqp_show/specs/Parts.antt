-- `joined` and `HaveOffsets`: the parts of an encoding follow one another without gaps.
use Rattle.std.specs.Prelude.{ℕ, ◌+◌, ◌≡◌, List, [], ◌∷◌, ◌++◌, length, map}
use Rattle.amqp_show.specs.declared.parts.Part.{Part}

-- the bytes of all parts, in order
abbrev pub joined : List Part → List ℕ
joined [] = []
joined (p ∷ ps) = p.bytes.now ++ joined ps

-- each part begins at the end of the one before it, the first one at n
abbrev pub starts : ℕ → List Part → List ℕ
starts n [] = []
starts n (p ∷ ps) = n ∷ starts (n + length p.bytes.now) ps

-- each part's offset is the number of bytes in the parts before it
abbrev pub HaveOffsets : List Part → Type 0
HaveOffsets ps = map (λ p. p.offset) ps ≡ starts 0 ps
