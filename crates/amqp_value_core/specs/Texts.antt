-- `text`: what is written for a value. It is the canonical encoding (*Canonical*), if the value is
-- readable and fits.
use Rattle.std.specs.Prelude.{ℕ, ◌^◌, ◌<◌, List, [], ◌∷◌, ◌++◌, length}
use Rattle.amqp_value_core.specs.Values.{Tree, scalar, short, long, octets, array, table, Trees, no_trees, tree, Entries, no_entries, entry, type_of}
use Rattle.amqp_value_core.specs.Ids.{id_of}
use Rattle.amqp_value_core.specs.Layouts.{spelled}
use Rattle.amqp_value_core.specs.Grammar.{short_field, long_field}

-- a type tag of the value's type, and then these bytes
abbrev pub after_id : Tree → List ℕ → List ℕ
after_id v b = id_of (type_of v) ∷ b

-- what is written after the type tag; of a container the length of its body, and then what is written
-- for its values, in an array's order, or for its entries, each key before its value
abbrev mutual
  pub payload : Tree → List ℕ
  payload (scalar x) = spelled x
  payload (short s) = short_field s
  payload (long s) = long_field s
  payload (octets s) = long_field s
  payload (array vs) = long_field (body vs)
  payload (table es) = long_field (pairs es)

  pub body : Trees → List ℕ
  body no_trees = []
  body (tree v vs) = after_id v (payload v) ++ body vs

  pub pairs : Entries → List ℕ
  pairs no_entries = []
  pairs (entry k v es) = short_field k ++ (after_id v (payload v) ++ pairs es)

-- all that is written: a type tag and the payload
abbrev pub text : Tree → List ℕ
text v = after_id v (payload v)

-- how many bytes those are; the law `sizes` gives it as a sum
abbrev pub size : Tree → ℕ
size v = length (text v)

-- how many bytes an array's values have, and a table's entries with their keys
abbrev pub body_size : Trees → ℕ
body_size vs = length (body vs)

abbrev pub pairs_size : Entries → ℕ
pairs_size es = length (pairs es)

-- each length in four bytes fits its field: that of the value, and of each in it
abbrev mutual
  pub Fits : Tree → Type 0
  Fits (long s) = length s < 2 ^ 32
  Fits (octets s) = length s < 2 ^ 32
  Fits (array vs) = (length (body vs) < 2 ^ 32) × AllFit vs
  Fits (table es) = (length (pairs es) < 2 ^ 32) × EntriesFit es
  Fits _ = Unit {0}

  pub AllFit : Trees → Type 0
  AllFit no_trees = Unit {0}
  AllFit (tree v vs) = Fits v × AllFit vs

  pub EntriesFit : Entries → Type 0
  EntriesFit no_entries = Unit {0}
  EntriesFit (entry k v es) = Fits v × EntriesFit es
