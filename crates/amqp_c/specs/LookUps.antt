-- `LooksUp` and `LooksUpNth`: a look-up by a key or by an index, in what a cursor has left,
-- whatever bytes these are.
use Rattle.std.specs.Prelude.{ℕ, ◌≡◌, ◌≤◌, List, [], ◌++◌, length, take, drop, Bool, true, false, if◌then◌else◌, Option, Some, None, IfSome, Result, Ok, IfOk, IfErr, ◌∷◌}
use Rattle.std.specs.Option.{option_or}
use Rattle.amqp_value_core.specs.Values.{Tree, Trees, Entries}
use Rattle.amqp_value_core.specs.Grammar.{short_field, ArrayBody, TableBody}
use Rattle.amqp_value_core.specs.Maps.{same_bytes, value_at}
use Rattle.amq_protocol_types.specs.parsing.Headers.{extent}
use Rattle.amqp_in_place.specs.Bodies.{HasEntries}
use Rattle.amqp_in_place.specs.Walks.{tree_at}
use Rattle.amqp_c.specs.declared.cursor.Cursor.{Cursor}
use Rattle.amqp_c.specs.declared.entry.Entry.{Entry}
use Rattle.amqp_c.specs.declared.fault.Fault.{Fault}
use Rattle.amqp_c.specs.declared.span.Span.{Span}
use Rattle.amqp_c.specs.Entries.{array_tag, table_tag, part, last, SpanIsIn, IsEntry, IsTagged, IsTrueTo, EntryIsIn}
use Rattle.amqp_in_place.specs.Searches.{IsHeaded, HasPair, HasNth}
use Rattle.amqp_c.specs.Steps.{StandsAlone, StandsKeyed, EndsIn, RefusedBy}

-- ---- what is meant

-- the entries of a table in which the first of equal keys counts, as they are encoded; or the last
abbrev pub HasEntriesBy : Bool → List ℕ → Entries → Type 0
HasEntriesBy true = TableBody
HasEntriesBy false = HasEntries

-- ---- what is found

-- the cursor is inside n bytes, and is of a container with the type tag
abbrev pub IsOf : ℕ → ℕ → Cursor → Type 0
IsOf tag n c = SpanIsIn n c.left × (c.tag ≡ tag)

-- what is found is the entry of the value, if there is one
abbrev pub GivesFound : List ℕ → Option Tree → Result (Option Entry) Fault → Type 0
GivesFound s None (Ok None) = Unit {0}
GivesFound s (Some v) (Ok (Some e)) = IsEntry s e v
GivesFound s _ _ = ⊥

-- what is found is the entry whose value has these bytes, if there are any
abbrev pub GivesBytes : List ℕ → Option (List ℕ) → Result (Option Entry) Fault → Type 0
GivesBytes s None (Ok None) = Unit {0}
GivesBytes s (Some w) (Ok (Some e)) = part s e.value ≡ w
GivesBytes s _ _ = ⊥

-- the entry of a pair with the key stands at the beginning of the span
abbrev pub StandsAtKey : List ℕ → List ℕ → Span → Entry → Type 0
StandsAtKey key s p e = (part s e.key ≡ key) × StandsKeyed s p e

-- an entry that is found: it has the type of its type tag, is that of the value if one is encoded there,
-- is inside s, and `Stands` at the beginning of the last n bytes of p, in which its value ends
pub record IsFoundIn (Stands : List ℕ → Span → Entry → Type 0) (s : List ℕ) (p : Span) (e : Entry) : Type 0 where
  pub typed : IsTagged (part s e.value) e
  pub faithful : IsTrueTo s e
  pub inside : EntryIsIn (length s) e
  pub stands : (n : ℕ) × (n ≤ p.length) × Stands s (last p n) e × EndsIn (last p n) e

-- a look-up in what a container with the type tag has left, whatever is in its values: the value whose
-- bytes it `Has` is found. What is left is cut exactly if it has no such bytes, nor none
pub record FindsIn (tag : ℕ) (Has : List ℕ → Option (List ℕ) → Type 0) (Stands : List ℕ → Span → Entry → Type 0) (s : List ℕ) (c : Cursor) (done : Result (Option Entry) Fault) : Type 0 where
  pub at : (w : Option (List ℕ)) → IsOf tag (length s) c → Has (part s c.left) w → GivesBytes s w done
  pub entry : IfOk done (λ o. IfSome o (IsFoundIn Stands s c.left))
  pub valid : IfOk done (λ _. IsOf tag (length s) c × (w : Option (List ℕ)) × Has (part s c.left) w)
  pub refused : IfErr done (RefusedBy (IsOf tag (length s) c) (IsOf tag (length s) c × ((w : Option (List ℕ)) → Has (part s c.left) w → ⊥)))

-- a look-up by a key: if pairs are encoded in what is left, the value at the key is found, of equal
-- keys the first or the last
pub record LooksUp (first : Bool) (s : List ℕ) (c : Cursor) (key : List ℕ) (done : Result (Option Entry) Fault) : Type 0 where
  pub found : (es : Entries) → IsOf table_tag (length s) c → HasEntriesBy first (part s c.left) es → GivesFound s (value_at key es) done
  pub finds : FindsIn table_tag (HasPair first key) (StandsAtKey key) s c done

-- a look-up by an index: if values are encoded there, the one at the index is found
pub record LooksUpNth (s : List ℕ) (c : Cursor) (index : ℕ) (done : Result (Option Entry) Fault) : Type 0 where
  pub found : (vs : Trees) → IsOf array_tag (length s) c → ArrayBody (part s c.left) vs → GivesFound s (tree_at index vs) done
  pub finds : FindsIn array_tag (HasNth index) StandsAlone s c done

-- ---- pairs and values as lists: the laws say which of them a look-up finds

-- the bytes are these pairs one after another, each a key and the bytes of a value
pub data ArePairEncodings : List ℕ → List (List ℕ × List ℕ) → Type 0 where
  no_pair_encodings : ArePairEncodings [] []
  pair_encoding : (k value : List ℕ) → (ps : List (List ℕ × List ℕ)) → IsHeaded value → ArePairEncodings (drop (extent value) value) ps
      → ArePairEncodings (short_field k ++ value) ((k, take (extent value) value) ∷ ps)

-- the bytes of the value of the last pair with the key, if a pair has it; and of the first
abbrev pub last_of_pairs : List ℕ → List (List ℕ × List ℕ) → Option (List ℕ)
last_of_pairs k [] = None
last_of_pairs k (p ∷ ps) = option_or (last_of_pairs k ps) (if same_bytes k p.0 then Some p.1 else None)

abbrev pub first_of_pairs : List ℕ → List (List ℕ × List ℕ) → Option (List ℕ)
first_of_pairs k [] = None
first_of_pairs k (p ∷ ps) = if same_bytes k p.0 then Some p.1 else first_of_pairs k ps

-- all of the bytes are pairs, and the last with the key has this value, or none has it
abbrev pub HasLast : List ℕ → List ℕ → Option (List ℕ) → Type 0
HasLast key s w = (ps : List (List ℕ × List ℕ)) × ArePairEncodings s ps × (w ≡ last_of_pairs key ps)

-- the bytes begin with pairs of other keys. After these is a pair with the key, whose value has the bytes w, and
-- whatever follows; or nothing is
pub data HasFirst (key : List ℕ) : List ℕ → Option (List ℕ) → Type 0 where
  never : HasFirst key [] None
  at_once : (value : List ℕ) → IsHeaded value → HasFirst key (short_field key ++ value) (Some (take (extent value) value))
  after_another : (k value : List ℕ) → (w : Option (List ℕ)) → (k ≡ key → ⊥) → IsHeaded value → HasFirst key (drop (extent value) value) w
      → HasFirst key (short_field k ++ value) w

-- the bytes are these encodings one after another
pub data AreEncodings : List ℕ → List (List ℕ) → Type 0 where
  no_encodings : AreEncodings [] []
  encoding : (s : List ℕ) → (ws : List (List ℕ)) → IsHeaded s → AreEncodings (drop (extent s) s) ws → AreEncodings s (take (extent s) s ∷ ws)
