-- Lemmas on `GrowsContainer`: a container grows by the bytes of an entry, or by an entry that was
-- opened and is closed.
use Rattle.std.proofs.Common.{◌≡◌, ◌+◌, ◌-◌, ◌<◌, ◌≤◌, ◌^◌, ℕ, List, [], ◌∷◌, ◌++◌, length, take, drop, refl, sym, ap, ap₂, ◌∙◌, subst, arith, append_assoc, append-nil, length-append, take-append-drop, length-drop, Bool, true, false}
use Rattle.std.specs.Int.{w32, to_be_bytes}
use Rattle.std.proofs.lemmas.List.{take_at, drop_at, drop-drop, drop-take, drop-append-le, length-take-le}
use Rattle.std.specs.Bool.{MatchBool}
use Rattle.amqp_value_core.specs.declared.types.amqp_type.AMQPType.TheVariants as amqp
use Rattle.amqp_value_core.specs.Bytes.{IsShort}
use Rattle.amqp_value_core.specs.Grammar.{short_field, long_field, Wire, wire, raw_array, raw_table, ArrayBody, no_values, value, TableBody, no_pairs, pair}
use Rattle.amqp_value_core.specs.Values.{Tree, scalar, short, long, octets, array, table, Trees, no_trees, tree, Entries, no_entries, entry}
use Rattle.amqp_c.specs.declared.container.Container.{Container}
use Rattle.amqp_c.specs.Entries.{part, SpanIsIn, array_tag, table_tag, IsContainerTag}
use Rattle.amqp_c.specs.Containers.{named, end_of, entry_of, up_to, HasNoneOpen, HasOneOpen, IsKeyOf}
use Rattle.amqp_c.specs.Items.{IsOfBody, AreValuesBy, ArePairsBy}
use Rattle.amqp_c.specs.Growth.{and_value, and_pair, GrowsContainer, IsOpen, IsClosed}
use Rattle.amqp_c.specs.CallResults.{with_bytes, StandsAt}
use Rattle.amqp_c.proofs.Buffers.{with_bytes-join}
use Rattle.amqp_c.proofs.EncodingsByRules.{values_join, one_value, pairs_join, one_pair, closed_by}

-- values, and an encoding after them
body_and : (b w : List ℕ) (vs : Trees) (v : Tree) → ArrayBody b vs → Wire w v → ArrayBody (b ++ w) (and_value vs v)
body_and _ w _ v no_values p = subst (λ (t : List ℕ). ArrayBody t (tree v no_trees)) (append-nil w) (value w [] v no_trees p no_values)
body_and _ w _ v (value u rest t ts q others) p =
    subst (λ (x : List ℕ). ArrayBody x (tree t (and_value ts v))) (sym (append_assoc u rest w)) (value u (rest ++ w) t (and_value ts v) q (body_and rest w ts v others p))

-- pairs, and one after them
pairs_and : (b k w : List ℕ) (ps : Entries) (v : Tree) → TableBody b ps → IsShort k → Wire w v → TableBody (b ++ (short_field k ++ w)) (and_pair ps k v)
pairs_and _ k w _ v no_pairs is p =
    subst (λ (t : List ℕ). TableBody (short_field k ++ t) (entry k v no_entries)) (append-nil w) (pair k w [] v no_entries is p no_pairs)
pairs_and _ k w _ v (pair j u rest t ps brief q others) is p =
    let x = short_field k ++ w in
    subst (λ (y : List ℕ). TableBody y (entry j t (and_pair ps k v)))
    (sym (append_assoc (short_field j) (u ++ rest) x ∙ ap (λ (y : List ℕ). short_field j ++ y) (append_assoc u rest x)))
    (pair j u (rest ++ x) t (and_pair ps k v) brief q (pairs_and rest k w ps v others is p))

-- a container that has an entry's bytes more grows by its value
pub grows_by : (old new k w : List ℕ) (into grown : Container) → part new grown.written ≡ part old into.written ++ entry_of into k w → GrowsContainer old into k w new grown
grows_by old new k w into grown more =
    let b = part old into.written in
    let bare : into.tag ≡ array_tag → b ++ w ≡ part new grown.written = λ is.
    let same : entry_of into k w ≡ w = rw is refl in
    sym (more ∙ ap (λ (t : List ℕ). b ++ t) same) in
    let whole : into.tag ≡ table_tag → b ++ (short_field k ++ w) ≡ part new grown.written = λ is.
    let same : entry_of into k w ≡ short_field k ++ w = rw is refl in
    sym (more ∙ ap (λ (t : List ℕ). b ++ t) same) in record {
      values = λ vs v is p all. subst (λ (t : List ℕ). ArrayBody t (and_value vs v)) (bare is) (body_and b w vs v all p);
      pairs = λ ps v is brief p all. subst (λ (t : List ℕ). TableBody t (and_pair ps k v)) (whole is) (pairs_and b k w ps v all brief p);
      values_by = λ rules depth is p all. subst (AreValuesBy rules depth) (bare is) (values_join rules depth b w all (one_value rules depth w p));
      pairs_by = λ rules depth is allowed p all.
          subst (ArePairsBy rules depth) (whole is) (pairs_join rules depth b (short_field k ++ w) all (one_pair rules depth k w allowed p));
    }

-- what is written of a container, once bytes were written after it
pub part_grown : (old new bytes : List ℕ) (c grown : Container) → SpanIsIn (length old) c.written → new ≡ with_bytes (end_of c) bytes old
    → grown ≡ up_to (end_of c + length bytes) c → part new grown.written ≡ part old c.written ++ bytes
part_grown old new bytes c grown inside written reaches =
    let o = c.written.offset in
    let n = c.written.length in
    let before = take (o + n) old in
    let rest = drop (o + n + length bytes) old in
    let long : length before ≡ o + n = length-take-le (o + n) old inside in
    let cut : drop o before ≡ part old c.written = drop-take o n old in
    let size : length (drop o before) ≡ n = ap length cut ∙ length-take-le n (drop o old) (omega (arith, length-drop o old)) in
    let count : length (drop o before ++ bytes) ≡ o + n + length bytes - o = omega (arith, length-append (drop o before) bytes) in
    let after : drop o (with_bytes (o + n) bytes old) ≡ (drop o before ++ bytes) ++ rest =
    drop-append-le o before (bytes ++ rest) (omega arith) ∙ sym (append_assoc (drop o before) bytes rest) in
    ap₂ (λ (r : List ℕ) (g : Container). part r g.written) written reaches
    ∙ (ap (take (o + n + length bytes - o)) after
    ∙ (take_at (drop o before ++ bytes) rest (o + n + length bytes - o) count
    ∙ ap (λ (t : List ℕ). t ++ bytes) cut))

-- bytes that are there already are written
with_bytes-same : (at : ℕ) (a buffer : List ℕ) → StandsAt at a buffer → with_bytes at a buffer ≡ buffer
with_bytes-same at a buffer stands =
    ap (λ (t : List ℕ). take at buffer ++ t)
    (ap₂ (λ (p q : List ℕ). p ++ q) (sym stands) (sym (drop-drop (length a) at buffer)) ∙ take-append-drop (length a) (drop at buffer))
    ∙ take-append-drop at buffer

-- after bytes that are written the buffer is as it was
drop-with_bytes : (at : ℕ) (a buffer : List ℕ) → at ≤ length buffer → drop (at + length a) (with_bytes at a buffer) ≡ drop (at + length a) buffer
drop-with_bytes at a buffer fits =
    ap (drop (at + length a)) (sym (append_assoc (take at buffer) a (drop (at + length a) buffer)))
    ∙ drop_at (take at buffer ++ a) (drop (at + length a) buffer) (at + length a) (omega (arith, length-append (take at buffer) a, length-take-le at buffer fits))

-- a length that is filled in between what is before a body and the body
filled_in : (old head length_bytes content : List ℕ) (at : ℕ) → at + length head ≤ length old → at + length head + length length_bytes ≤ length old
    → StandsAt at head old → StandsAt (at + length head + length length_bytes) content old
    → with_bytes (at + length head) length_bytes old ≡ with_bytes at (head ++ (length_bytes ++ content)) old
filled_in old head l content at fits more stands body =
    let next = at + length head in
    let off = next + length l in
    let joined = head ++ l in
    let one : with_bytes next l old ≡ with_bytes at joined old =
    ap (with_bytes next l) (sym (with_bytes-same at head old stands)) ∙ with_bytes-join at next head l old refl fits in
    let here : off ≡ at + length joined = omega (arith, length-append head l) in
    let after : drop off (with_bytes at joined old) ≡ drop off old =
    subst (λ (m : ℕ). drop m (with_bytes at joined old) ≡ drop m old) (sym here) (drop-with_bytes at joined old (omega arith)) in
    let still : StandsAt off content (with_bytes at joined old) = ap (take (length content)) after ∙ body in
    one
    ∙ (sym (with_bytes-same off content (with_bytes at joined old) still)
    ∙ (with_bytes-join at off joined content old here more
    ∙ ap (λ (t : List ℕ). with_bytes at t old) (append_assoc head l content)))

-- a container's body, after its type tag and its length, is an encoding of it
wire_of_body : (tag : ℕ) (b : List ℕ) (v : Tree) → length b < 2 ^ 32 → IsOfBody tag b v → Wire (tag ∷ long_field b) v
wire_of_body tag b (array vs) fits x =
    subst (λ (t : ℕ). Wire (t ∷ long_field b) (array vs)) (sym x.0) (wire 65 amqp.FieldArray (long_field b) (array vs) refl (raw_array b vs fits x.1))
wire_of_body tag b (table es) fits x =
    subst (λ (t : ℕ). Wire (t ∷ long_field b) (table es)) (sym x.0) (wire 70 amqp.FieldTable (long_field b) (table es) refl (raw_table b x.1.0 es fits x.1.1 x.1.2))
wire_of_body tag b (scalar y) fits x = absurd x
wire_of_body tag b (short y) fits x = absurd x
wire_of_body tag b (long y) fits x = absurd x
wire_of_body tag b (octets y) fits x = absurd x

-- the length of an open body is filled in, and the container grows by it
pub closed : (old new k : List ℕ) (into body grown : Container) → IsOpen old into body k → body.written.length < 2 ^ 32
    → new ≡ with_bytes (body.written.offset - 4) (to_be_bytes w32 body.written.length) old → grown ≡ up_to (end_of body) into → IsClosed old into body new grown
closed old new k into body grown is fits filled reaches =
    let e = end_of into in
    let head = entry_of into k (body.tag ∷ []) in
    let n = body.written.length in
    let l = to_be_bytes w32 n in
    let b = part old body.written in
    let at = is.after in
    let size : length b ≡ n = length-take-le n (drop body.written.offset old) (omega (arith, is.inside, length-drop body.written.offset old)) in
    let there : StandsAt (e + length head + 4) b old =
    subst (λ (o : ℕ). take (length b) (drop o old) ≡ b) at (ap (λ (m : ℕ). take m (drop body.written.offset old)) size) in
    let written : new ≡ with_bytes e (head ++ (l ++ b)) old =
    filled ∙ (ap (λ (o : ℕ). with_bytes o l old) (omega (arith, at)) ∙ filled_in old head l b e (omega (arith, at, is.inside)) (omega (arith, at, is.inside)) is.named there) in
    let field : l ++ b ≡ long_field b = ap (λ (m : ℕ). to_be_bytes w32 m ++ b) (sym size) in
    let bytes : head ++ (l ++ b) ≡ entry_of into k (body.tag ∷ long_field b) =
    append_assoc (named into.tag k) (body.tag ∷ []) (l ++ b) ∙ ap (λ (t : List ℕ). named into.tag k ++ (body.tag ∷ t)) field in
    let ends : end_of body ≡ e + length (head ++ (l ++ b)) = omega (arith, at, size, length-append head (l ++ b), length-append l b) in
    let more : part new grown.written ≡ part old into.written ++ (head ++ (l ++ b)) =
    part_grown old new (head ++ (l ++ b)) into grown is.place.0 written (reaches ∙ ap (λ (m : ℕ). up_to m into) ends) in
    record {
      key = k;
      opened = is;
      fits = fits;
      filled = filled;
      reaches = reaches;
      means = λ v of. wire_of_body body.tag b v (omega (arith, size, fits)) of;
      reads = λ rules depth of. closed_by rules depth body.tag b (omega (arith, size, fits)) of;
      grows = grows_by old new k (body.tag ∷ long_field b) into grown (more ∙ ap (λ (t : List ℕ). part old into.written ++ t) bytes);
    }

-- ---- whether a body is one of an entry that was opened

-- lists that are the same with one element after each are the same
same_before : (a b : List ℕ) (x y : ℕ) → a ++ x ∷ [] ≡ b ++ y ∷ [] → a ≡ b
same_before a b x y e =
    let count : length a ≡ length b = omega (arith, ap length e, length-append a (x ∷ []), length-append b (y ∷ [])) in
    sym (take_at a (x ∷ []) (length a) refl) ∙ (ap (take (length a)) e ∙ take_at b (y ∷ []) (length a) (sym count))

-- between what `into` has and the four bytes before the body are a name and the body's type tag
pub is_open : (buffer name : List ℕ) (into body : Container) (at end tag : ℕ) (yes : Bool) → HasOneOpen into → HasNoneOpen body → at ≡ end_of into → SpanIsIn end into.written
    → SpanIsIn (length buffer) body.written → IsContainerTag body.tag → end + 4 ≡ body.written.offset → take (end - at) (drop at buffer) ≡ name ++ tag ∷ [] → tag ≡ body.tag
    → MatchBool yes ((k : List ℕ) × IsKeyOf into k × (name ≡ named into.tag k)) ((k : List ℕ) → IsKeyOf into k → name ≡ named into.tag k → ⊥)
    → MatchBool yes ((k : List ℕ) × IsOpen buffer into body k) ((k : List ℕ) → IsOpen buffer into body k → ⊥)
is_open buffer name into body at end tag true one nothing here inside in_buffer container before between same (k, key, is) =
    let n = end - at in
    let head = entry_of into k (body.tag ∷ []) in
    let whole : take n (drop at buffer) ≡ head = between ∙ ap₂ (λ (p : List ℕ) (t : ℕ). p ++ t ∷ []) is same in
    let count : length head ≡ n = sym (ap length whole) ∙ length-take-le n (drop at buffer) (omega (arith, inside, in_buffer, here, before, length-drop at buffer)) in (
      k,
      record {
        one = one;
        none = nothing;
        place = (omega (arith, inside, in_buffer, before), key);
        container = container;
        inside = in_buffer;
        named = ap₂ (λ (m o : ℕ). take m (drop o buffer)) count (sym here) ∙ whole;
        after = omega (arith, count, here, before, inside);
      },
    )
is_open buffer name into body at end tag false one nothing here inside in_buffer container before between same none = λ k o.
    let head = entry_of into k (body.tag ∷ []) in
    let count : end - at ≡ length head = omega (arith, o.after, here, before) in
    none k o.place.1 (same_before name (named into.tag k) tag body.tag
    (sym between ∙ (ap₂ (λ (m p : ℕ). take m (drop p buffer)) count here ∙ o.named)))
