-- For private clauses of reading JSON: `PutsEncodingOf`, an encoding is put after other bytes, and
-- `IsRefusal`, why none is.
use Rattle.std.specs.Prelude.{◌≡◌, ◌<◌, ◌≤◌, ◌==◌, ◌&&◌, ◌||◌, nat_le, Bool, true, false, List, ◌∷◌, ◌++◌, ℕ, drop, length, slice_index, Option, Some, None, option_map, option_and_then}
use Rattle.json.specs.Token.{Token, key, end_object}
use Rattle.json.specs.Json.{Json, Items, items, Members, members, value}
use Rattle.amqp_value_core.specs.declared.types.amqp_type.AMQPType.{AMQPType}
use Rattle.amqp_value_core.specs.Values.{Scalar, scalar, array, Tree, Trees, Entries}
use Rattle.amqp_value_core.specs.Grammar.{Wire, ArrayBody, TableBody}
use Rattle.amqp_value_core.specs.InMemory.{IsScalar}
use Rattle.amqp_value_core.specs.Texts.{text}
use Rattle.amqp_json.specs.declared.error.JsonError.{JsonError}
use Rattle.amqp_json.specs.declared.error.JsonError.TheVariants.{Syntax, TooDeep, NotAValue}
use Rattle.amqp_json.specs.declared.reading.keys.Key.{Key}
use Rattle.amqp_json.specs.declared.reading.keys.Key.TheVariants.{Entry, Name}
use Rattle.amqp_json.specs.Nesting.{fits}
use Rattle.amqp_json.specs.Meaning.{is_type_key, entry_key, meanings, object_of, pairs_of, value_as, meant_within}

-- what a key of an object says
abbrev pub IsKey : List ℕ → Key → Type 0
IsKey k (Entry s) = (is_type_key k ≡ false) × (s.now ≡ entry_key k)
IsKey k (Name s) = (is_type_key k ≡ true) × (s.now ≡ drop 1 k)

-- if no value has what was read, P holds; memory and size say nothing
abbrev pub OnMismatch : JsonError → Type 0 → Type 0
OnMismatch (Syntax at error) P = ⊥
OnMismatch (TooDeep at) P = ⊥
OnMismatch (NotAValue at mismatch) P = P
OnMismatch e P = Unit {0}

-- the text isn't JSON
abbrev pub IsSyntax : JsonError → Type 0
IsSyntax (Syntax at error) = Unit {0}
IsSyntax e = ⊥

-- an encoding of a value is put after the bytes that were there, and P holds of the value
abbrev pub PutsEncodingOf : (Tree → Type 0) → List ℕ → List ℕ → Type 0
PutsEncodingOf P old new = (w : List ℕ) × (v : Tree) × (new ≡ old ++ w) × Wire w v × P v

-- the values of an array's body are
abbrev pub PutsValues : (Trees → Type 0) → List ℕ → List ℕ → Type 0
PutsValues P old new = (w : List ℕ) × (vs : Trees) × (new ≡ old ++ w) × ArrayBody w vs × P vs

-- the pairs of a table's body are
abbrev pub PutsPairs : (Entries → Type 0) → List ℕ → List ℕ → Type 0
PutsPairs P old new = (w : List ℕ) × (ps : Entries) × (new ≡ old ++ w) × TableBody w ps × P ps

-- the value is a number or a decimal, and its canonical encoding is put
abbrev pub PutsScalar : Tree → List ℕ → List ℕ → Type 0
PutsScalar v old new = (x : Scalar) × (v ≡ scalar x) × IsScalar x × (new ≡ old ++ text v)

-- what is read at the start of some tokens, converted
abbrev pub converted : {A B : Type 0} → (A → Option B) → Option (A × List Token) → Option (B × List Token)
converted f read = option_and_then (λ p. option_map (λ b. (b, p.1)) (f p.0)) read

-- the items, and the members, at the start of some tokens
abbrev pub items_at : ℕ → List Token → Option (Items × List Token)
items_at depth ts = items (value depth) (length ts) ts

abbrev pub members_at : ℕ → List Token → Option (Members × List Token)
members_at depth ts = members (value depth) (length ts) ts

-- what an array of these items means, and an object of these members
abbrev pub array_of : Items → Option Tree
array_of js = option_map array (meanings js)

abbrev pub object_meant : Members → Option Tree
object_meant ms = object_of ms (pairs_of ms)

-- at this depth, and at any greater one, what is read at the start of some tokens is converted to b, and `rest` is after it
abbrev pub IsRead : {A B : Type 0} → ℕ → (A → Option B) → (ℕ → Option (A × List Token)) → B → List Token → Type 0
IsRead depth f read b rest = (d : ℕ) → depth ≤ d → converted f (read d) ≡ Some (b, rest)

-- some of the tokens, from the first on, open more than `depth` at once, and could go on to what f converts if more were
-- allowed, whatever is after it
pub record GoesTooDeep {A B : Type 0} (depth : ℕ) (f : A → Option B) (read : ℕ → List Token → Option (A × List Token)) (ts : List Token) : Type 0 where
  pub front : List Token
  pub rest : List Token
  pub more : List Token
  pub meant : B
  pub split : ts ≡ front ++ rest
  pub deep : fits depth front ≡ false
  pub goes_on : (d : ℕ) (after : List Token) → depth < d → converted f (read d (front ++ (more ++ after))) ≡ Some (meant, after)

-- as soon as they open more than `depth` at once, nothing is converted, however they go on
abbrev pub IsWrongBefore : {A B : Type 0} → ℕ → (A → Option B) → (ℕ → List Token → Option (A × List Token)) → List Token → Type 0
IsWrongBefore depth f read ts = (front rest more : List Token) (d : ℕ) → ts ≡ front ++ rest → fits depth front ≡ false → depth ≤ d → converted f (read d (front ++ more)) ≡ None

-- if the tokens are why no encoding is put: nothing is read at this depth and any greater one; nothing is converted at this
-- depth; or at any greater one neither. And whether that is because they go too deep
abbrev pub IsRefusal : {A B : Type 0} → ℕ → JsonError → (A → Option B) → (ℕ → List Token → Option (A × List Token)) → List Token → Type 0
IsRefusal depth (Syntax at error) f read ts = ((d : ℕ) → depth ≤ d → read d ts ≡ None) × IsWrongBefore depth f read ts
IsRefusal depth (TooDeep at) f read ts = (converted f (read depth ts) ≡ None) × GoesTooDeep depth f read ts
IsRefusal depth (NotAValue at mismatch) f read ts = ((d : ℕ) → depth ≤ d → converted f (read d ts) ≡ None) × IsWrongBefore depth f read ts
IsRefusal depth e f read ts = Unit {0}

-- the token of a key, or of the closing brace
abbrev pub next_token : Option (List ℕ) → Token
next_token None = end_object
next_token (Some k) = key k

-- P holds, at each depth, of these tokens with a key before them that is `$` and the name
abbrev pub IsNamed : List ℕ → List Token → (ℕ → List Token → Type 0) → Type 0
IsNamed name ts P = (k : List ℕ) (depth : ℕ) → is_type_key k ≡ true → name ≡ drop 1 k → P depth (key k ∷ ts)

-- there is such a number, and its canonical encoding is put
abbrev pub PutsInteger : Option Tree → List ℕ → List ℕ → Type 0
PutsInteger (Some (scalar x)) old new = (new ≡ old ++ text (scalar x)) × IsScalar x
PutsInteger v old new = ⊥

-- a token is a value of the type, or none
abbrev pub IsLeaf : AMQPType → Token → Tree → Type 0
IsLeaf type t v = (j : Json) × ((depth : ℕ) (ts : List Token) → value depth (t ∷ ts) ≡ Some (j, ts)) × (value_as type j ≡ Some v)

abbrev pub IsNoLeaf : AMQPType → Token → Type 0
IsNoLeaf type t = (depth : ℕ) (ts r : List Token) (j : Json) → value depth (t ∷ ts) ≡ Some (j, r) → value_as type j ≡ None

-- why a token is no value of the type: it begins no JSON value, or none that the type takes
abbrev pub IsLeafRefusal : JsonError → AMQPType → Token → Type 0
IsLeafRefusal (Syntax at error) type t = (depth : ℕ) (ts : List Token) → value depth (t ∷ ts) ≡ None
IsLeafRefusal (TooDeep at) type t = ⊥
IsLeafRefusal (NotAValue at mismatch) type t = IsNoLeaf type t
IsLeafRefusal e type t = Unit {0}

-- the bytes are an encoding of the value that the text means
abbrev pub IsEncodedAsItComes : ℕ → List ℕ → List ℕ → Type 0
IsEncodedAsItComes most t bytes = (v : Tree) × (meant_within most t ≡ Some v) × Wire bytes v

abbrev pub is_first_digit : ℕ → Bool
is_first_digit c = nat_le 49 c && nat_le c 57

-- the text begins as decimal text does: not with a plus, a needless zero or `-0`
abbrev pub is_plain : List ℕ → Bool
is_plain s =
    (length s == 1 && slice_index s 0 == 48) || is_first_digit (slice_index s 0)
    || (slice_index s 0 == 45 && is_first_digit (slice_index s 1))
