-- What the steps of reading a container return (`parse_length_prefixed`, `parse_array_body`,
-- `parse_table_body`), and what the pairs in a `TableBuilder` mean.
use Rattle.std.specs.Prelude.{ℕ, ◌<◌, ◌^◌, ◌≡◌, List, ◌++◌, length}
use Rattle.std.specs.Int.{w32}
use Rattle.amqp_value_core.specs.Values.{Trees, Entries, no_entries}
use Rattle.amqp_value_core.specs.Grammar.{long_field}
use Rattle.amqp_value_core.specs.Maps.{Mean, insert_all}
use Rattle.amqp_value_core.specs.Nesting.{BodyWithin, PairsWithin}
use Rattle.amqp_value_core.specs.Outcomes.{Reading, more, malformed, frame_lack}
use Rattle.amqp_value_core.specs.Containers.{entries, table_view}
use Rattle.amq_protocol_types.specs.declared.parsing.pairs.TableBuilder.{TableBuilder}
use Rattle.amq_protocol_types.specs.declared.parsing.pairs.TableBuilder.TheVariants.{Few, Many}

-- bytes after their length in four bytes are read from s, and `rest` is left
pub record IsLengthPrefixed (s body rest : List ℕ) : Type 0 where
  pub framed : s ≡ long_field body ++ rest
  pub fits : length body < 2 ^ 32

-- The length-prefixed field isn't all there, and that many more bytes are needed.
-- They are bytes of its length, or of what the length counts.
abbrev pub IsCutLengthPrefixed : List ℕ → Reading → Type 0
IsCutLengthPrefixed s o = (0 < frame_lack w32 s) × (o ≡ more (frame_lack w32 s))

-- the bytes are no values one after another, with containers at most `depth` deep in each
abbrev pub IsNoBody : ℕ → List ℕ → Reading → Type 0
IsNoBody depth s malformed = (vs : Trees) → BodyWithin depth s vs → ⊥
IsNoBody depth s _ = ⊥

-- the bytes are pairs one after another, and mean the entries
abbrev pub IsTable : ℕ → List ℕ → Entries → Type 0
IsTable depth s es = (ps : Entries) × PairsWithin depth s ps × Mean ps es

-- the bytes are no pairs one after another
abbrev pub IsNoTable : ℕ → List ℕ → Reading → Type 0
IsNoTable depth s malformed = (ps : Entries) → PairsWithin depth s ps → ⊥
IsNoTable depth s _ = ⊥

-- what the pairs so far result in: those that are in the table, or those that were gathered
abbrev pub kept : TableBuilder → Entries
kept (Few table) = table_view table
kept (Many pairs) = insert_all no_entries (entries pairs.items)
