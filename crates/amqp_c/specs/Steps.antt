-- `StepsToNext`: what `amqpv_next` returns, which steps a cursor through the body of a container.
use Rattle.std.specs.Prelude.{ℕ, ◌≡◌, ◌+◌, ◌<◌, ◌≤◌, List, ◌++◌, length, Option, Some, None, Result, Ok, ℤ, IfOk, IfErr}
use Rattle.amqp_value_core.specs.Values.{Tree, Trees, no_trees, tree, Entries, no_entries, entry}
use Rattle.amqp_value_core.specs.Grammar.{short_field, ArrayBody, TableBody}
use Rattle.amq_protocol_types.specs.parsing.Headers.{extent}
use Rattle.amqp_in_place.specs.Searches.{IsHeaded}
use Rattle.amqp_c.specs.declared.cursor.Cursor.{Cursor}
use Rattle.amqp_c.specs.declared.entry.Entry.{Entry}
use Rattle.amqp_c.specs.declared.fault.Fault.{Fault}
use Rattle.amqp_c.specs.declared.fault.Fault.TheVariants.{Cut, Invalid}
use Rattle.amqp_c.specs.declared.span.Span.{Span}
use Rattle.amqp_c.specs.Entries.{array_tag, table_tag, IsContainerTag, part, rest_after, SpanIsIn, IsEntry, IsTagged, IsTrueTo, EntryIsIn}
use Rattle.amqp_c.specs.CallResults.{return_code_if_any, entry_or_old, cursor_or_old}

-- the cursor before the first entry of a container
abbrev pub contents : Entry → Cursor
contents e = record { left = e.content; tag = e.tag }

-- the cursor is inside n bytes, and is of an array or a table
abbrev pub IsOfContainer : ℕ → Cursor → Type 0
IsOfContainer n c = SpanIsIn n c.left × IsContainerTag c.tag

-- the bytes begin with the key after its length in one byte
abbrev pub BeginsWithKey : List ℕ → List ℕ → Type 0
BeginsWithKey k s = (rest : List ℕ) × (s ≡ short_field k ++ rest)

-- no pair is at the start, by the key's length, the type tag and the value's length
abbrev pub HasNoPair : List ℕ → Type 0
HasNoPair s = (k value : List ℕ) → s ≡ short_field k ++ value → IsHeaded value → ⊥

-- at the start of the bytes that p spans is the entry of a value: it has no key, and as many
-- bytes as its type tag and its length count
abbrev pub StandsAlone : List ℕ → Span → Entry → Type 0
StandsAlone s p e = (e.key.length ≡ 0) × (e.value.offset ≡ p.offset) × (e.value.length ≡ extent (part s p))

-- the entry of a pair is there: its key after the key's length in one byte, and right after
-- the key the value, as many bytes as its type tag and its length count
abbrev pub StandsKeyed : List ℕ → Span → Entry → Type 0
StandsKeyed s p e =
    (e.key.offset ≡ p.offset + 1) × (e.value.offset ≡ e.key.offset + e.key.length)
    × BeginsWithKey (part s e.key) (part s p) × (e.value.length ≡ extent (part s (rest_after p e.key)))

-- the entry ends in the span, which it begins in or after its start
abbrev pub EndsIn : Span → Entry → Type 0
EndsIn p e = (p.offset ≤ e.value.offset) × (e.value.offset + e.value.length ≤ p.offset + p.length)

-- a step of the cursor c in s, whatever they hold: the entry is inside s and begins at the
-- cursor, with the type of its type tag, and is that of the value if one is encoded there; the
-- cursor becomes one of the same container that begins right after the entry's value, has c's end,
-- and has less left
pub record IsCursorStep (s : List ℕ) (c : Cursor) (e : Entry) (next : Cursor) : Type 0 where
  pub valid : IsOfContainer (length s) c
  pub inside : EntryIsIn (length s) e
  pub value : c.tag ≡ array_tag → StandsAlone s c.left e
  pub pair : c.tag ≡ table_tag → StandsKeyed s c.left e
  pub typed : IsTagged (part s e.value) e
  pub faithful : IsTrueTo s e
  pub in_bytes : SpanIsIn (length s) next.left
  pub same : next.tag ≡ c.tag
  pub begins : next.left.offset ≡ e.value.offset + e.value.length
  pub ends : next.left.offset + next.left.length ≡ c.left.offset + c.left.length
  pub less : next.left.length < c.left.length

-- a step returns such an entry and cursor, or nothing is left
abbrev pub StepsIn : List ℕ → Cursor → Option (Entry × Cursor) → Type 0
StepsIn s c None = IsOfContainer (length s) c × (c.left.length ≡ 0)
StepsIn s c (Some x) = IsCursorStep s c x.0 x.1

-- no entry is at the cursor, whose container has values or pairs
abbrev pub IsCutEntry : List ℕ → Cursor → Type 0
IsCutEntry s c = (c.tag ≡ array_tag → IsHeaded (part s c.left) → ⊥) × (c.tag ≡ table_tag → HasNoPair (part s c.left))

-- which faults are right: `Invalid` if `valid` doesn't hold, and `Cut` if `bad` does
abbrev pub RefusedBy : Type 0 → Type 0 → Fault → Type 0
RefusedBy valid bad Invalid = valid → ⊥
RefusedBy valid bad Cut = bad
RefusedBy valid bad _ = ⊥

-- a fault of a step is right: the cursor is of no container in s, or no entry is at it
abbrev pub RefusesStep : List ℕ → Cursor → Fault → Type 0
RefusesStep s c = RefusedBy (IsOfContainer (length s) c) (IsOfContainer (length s) c × IsCutEntry s c)

-- a step returns the first of the values, with no key, and leaves the others
abbrev pub GivesValue : List ℕ → Trees → Result (Option (Entry × Cursor)) Fault → Type 0
GivesValue s no_trees (Ok None) = Unit {0}
GivesValue s (tree v vs) (Ok (Some x)) = (x.0.key.length ≡ 0) × IsEntry s x.0 v × ArrayBody (part s x.1.left) vs
GivesValue s _ _ = ⊥

-- a step returns the first of the pairs, and leaves the others
abbrev pub GivesPair : List ℕ → Entries → Result (Option (Entry × Cursor)) Fault → Type 0
GivesPair s no_entries (Ok None) = Unit {0}
GivesPair s (entry k v ps) (Ok (Some x)) = (part s x.0.key ≡ k) × IsEntry s x.0 v × TableBody (part s x.1.left) ps
GivesPair s _ _ = ⊥

-- of an array that is left, the first of the values
abbrev pub GivesNextValue : List ℕ → Cursor → Result (Option (Entry × Cursor)) Fault → Type 0
GivesNextValue s c done = (vs : Trees) → SpanIsIn (length s) c.left → c.tag ≡ array_tag → ArrayBody (part s c.left) vs → GivesValue s vs done

-- of a table that is left, the first of the pairs
abbrev pub GivesNextPair : List ℕ → Cursor → Result (Option (Entry × Cursor)) Fault → Type 0
GivesNextPair s c done = (ps : Entries) → SpanIsIn (length s) c.left → c.tag ≡ table_tag → TableBody (part s c.left) ps → GivesPair s ps done

-- a step: the first of what is left is returned, if it is values or pairs, and whatever it is, what
-- goes out is inside s; what is left is cut only if no entry is at its start
pub record StepsToNext (s : List ℕ) (c : Cursor) (old : Entry) (code : ℤ) (new : Cursor) (e : Entry) : Type 0 where
  pub done : Result (Option (Entry × Cursor)) Fault
  pub returned : code ≡ return_code_if_any done
  pub cursor : new ≡ cursor_or_old c done
  pub entry : e ≡ entry_or_old old done
  pub values : GivesNextValue s c done
  pub pairs : GivesNextPair s c done
  pub inside : IfOk done (StepsIn s c)
  pub refused : IfErr done (RefusesStep s c)

-- ---- on the way

-- the entry of v with the key is given, and `rest` is after it in the span
abbrev pub IsFirstEntryIn : List ℕ → Span → Span → Tree → List ℕ → Option Entry → Type 0
IsFirstEntryIn s p key v rest None = ⊥
IsFirstEntryIn s p key v rest (Some e) = IsEntry s e v × (e.key ≡ key) × (part s (rest_after p e.value) ≡ rest)

-- the entry of the first value is given, with no key, and the others are after it in the span
abbrev pub IsValueIn : List ℕ → Span → Trees → Option Entry → Type 0
IsValueIn s p (tree v vs) (Some e) = (e.key.length ≡ 0) × IsEntry s e v × ArrayBody (part s (rest_after p e.value)) vs
IsValueIn s p _ _ = ⊥

-- the entry of the first pair is given, and the others are after it in the span
abbrev pub IsPairIn : List ℕ → Span → Entries → Option Entry → Type 0
IsPairIn s p (entry k v ps) (Some e) = (part s e.key ≡ k) × IsEntry s e v × TableBody (part s (rest_after p e.value)) ps
IsPairIn s p _ _ = ⊥
