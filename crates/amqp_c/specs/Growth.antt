-- How a container in a buffer grows (`GrowsContainer`) by an entry that is put (`IsEntryPut`), or
-- opened and closed (`IsOpened`, `IsClosed`).
use Rattle.std.specs.Prelude.{ℕ, ◌≡◌, ◌+◌, ◌-◌, ◌<◌, ◌≤◌, ◌^◌, suc, true, List, [], ◌∷◌, length}
use Rattle.std.specs.Int.{w32, to_be_bytes}
use Rattle.amqp_value_core.specs.Values.{Tree, Trees, no_trees, tree, Entries, no_entries, entry}
use Rattle.amqp_value_core.specs.Bytes.{IsShort}
use Rattle.amqp_value_core.specs.Grammar.{long_field, Wire, ArrayBody, TableBody}
use Rattle.amqp_in_place.specs.declared.problems.Rules.{Rules}
use Rattle.amqp_in_place.specs.Problems.{allow_key}
use Rattle.amqp_c.specs.Entries.{part, SpanIsIn, array_tag, table_tag, IsContainerTag}
use Rattle.amqp_c.specs.declared.container.Container.{Container}
use Rattle.amqp_c.specs.Containers.{HasNoneOpen, HasOneOpen, IsKeyOf, IsPlace, end_of, entry_of, end_with, empty_at, up_to}
use Rattle.amqp_c.specs.Items.{tag_and_zeros, IsOfBody, IsEncodingBy, AreValuesBy, ArePairsBy, IsBodyBy, Item, IsPutEncoding, IsEncodedBy, item_depth}
use Rattle.amqp_c.specs.CallResults.{with_bytes, StandsAt}

-- the values, with v after them
abbrev pub and_value : Trees → Tree → Trees
and_value no_trees v = tree v no_trees
and_value (tree u vs) v = tree u (and_value vs v)

-- the pairs, with k and v after them
abbrev pub and_pair : Entries → List ℕ → Tree → Entries
and_pair no_entries k v = entry k v no_entries
and_pair (entry j u ps) k v = entry j u (and_pair ps k v)

-- the key and an encoding are written after what the container has, and the buffer is else as it
-- was
pub record IsAppended (old : List ℕ) (into : Container) (k w new : List ℕ) : Type 0 where
  pub place : IsPlace (length old) into k
  pub buffer : end_with into k w ≤ length old
  pub written : new ≡ with_bytes (end_of into) (entry_of into k w) old

-- if values or pairs were written of a container, they are written now with that of w after them: by the
-- grammar, if w is an encoding of v and the key a short string, and by any rules that allow the key, if w
-- is an encoding by them
pub record GrowsContainer (old : List ℕ) (into : Container) (k w new : List ℕ) (grown : Container) : Type 0 where
  pub values : (vs : Trees) (v : Tree) → into.tag ≡ array_tag → Wire w v → ArrayBody (part old into.written) vs → ArrayBody (part new grown.written) (and_value vs v)
  pub pairs : (ps : Entries) (v : Tree) → into.tag ≡ table_tag → IsShort k → Wire w v → TableBody (part old into.written) ps
      → TableBody (part new grown.written) (and_pair ps k v)
  pub values_by : (rules : Rules) (depth : ℕ) → into.tag ≡ array_tag → IsEncodingBy rules depth w → AreValuesBy rules depth (part old into.written)
      → AreValuesBy rules depth (part new grown.written)
  pub pairs_by : (rules : Rules) (depth : ℕ) → into.tag ≡ table_tag → allow_key rules k ≡ true → IsEncodingBy rules depth w
      → ArePairsBy rules depth (part old into.written) → ArePairsBy rules depth (part new grown.written)

-- an entry is written, with an encoding of the item; the container grows by it
pub record IsEntryPut (item : Item) (old : List ℕ) (into : Container) (k new : List ℕ) (grown : Container) : Type 0 where
  pub encoding : List ℕ
  pub encodes : IsPutEncoding item encoding
  pub reads : (rules : Rules) (depth : ℕ) → IsEncodedBy item rules → item_depth item ≤ depth → IsEncodingBy rules depth encoding
  pub appended : IsAppended old into k encoding new
  pub reaches : grown ≡ up_to (end_with into k encoding) into
  pub grows : GrowsContainer old into k encoding new grown

-- an entry is opened whose value is a container, and its body is empty; its keys may be any bytes if those of
-- `into` may
pub record IsOpened (tag : ℕ) (old : List ℕ) (into : Container) (k new : List ℕ) (body : Container) : Type 0 where
  pub container : IsContainerTag tag
  pub appended : IsAppended old into k (tag_and_zeros tag) new
  pub empty : body ≡ empty_at (end_with into k (tag_and_zeros tag)) tag into.any_keys

-- the body is one of an entry that is open with this key after what `into` has, and nothing is open in
-- the body: the key and the body's type tag are there, and the body begins four bytes after them
pub record IsOpen (buffer : List ℕ) (into body : Container) (k : List ℕ) : Type 0 where
  pub one : HasOneOpen into
  pub none : HasNoneOpen body
  pub place : SpanIsIn (length buffer) into.written × IsKeyOf into k
  pub container : IsContainerTag body.tag
  pub inside : SpanIsIn (length buffer) body.written
  pub named : StandsAt (end_of into) (entry_of into k (body.tag ∷ [])) buffer
  pub after : body.written.offset ≡ end_with into k (body.tag ∷ []) + 4

-- the encoding of the container whose body this is
abbrev pub closed_encoding : List ℕ → Container → List ℕ
closed_encoding buffer body = body.tag ∷ long_field (part buffer body.written)

-- the entry is closed: the length of its body is filled in before it, `into` reaches to its end, has
-- nothing open, and grows by the array or the table that the body is of, by the grammar and by any rules
pub record IsClosed (old : List ℕ) (into body : Container) (new : List ℕ) (grown : Container) : Type 0 where
  pub key : List ℕ
  pub opened : IsOpen old into body key
  pub fits : body.written.length < 2 ^ 32
  pub filled : new ≡ with_bytes (body.written.offset - 4) (to_be_bytes w32 body.written.length) old
  pub reaches : grown ≡ up_to (end_of body) into
  pub means : (v : Tree) → IsOfBody body.tag (part old body.written) v → Wire (closed_encoding old body) v
  pub reads : (rules : Rules) (depth : ℕ) → IsBodyBy rules depth body.tag (part old body.written) → IsEncodingBy rules (suc depth) (closed_encoding old body)
  pub grows : GrowsContainer old into key (closed_encoding old body) new grown
