-- What the bytes of a container's body are: values (`HasValues`), pairs (`HasPairs`), or pairs that
-- mean some entries (`HasEntries`).
use Rattle.std.specs.Prelude.{ℕ, List}
use Rattle.amqp_value_core.specs.Values.{Trees, Entries}
use Rattle.amqp_value_core.specs.Grammar.{ArrayBody, TableBody}
use Rattle.amqp_value_core.specs.Maps.{Mean}

-- the bytes are values one after another
abbrev pub HasValues : List ℕ → Type 0
HasValues s = (vs : Trees) × ArrayBody s vs

-- the bytes are pairs one after another
abbrev pub HasPairs : List ℕ → Type 0
HasPairs s = (ps : Entries) × TableBody s ps

-- the bytes are pairs that mean these entries
abbrev pub HasEntries : List ℕ → Entries → Type 0
HasEntries s es = (ps : Entries) × TableBody s ps × Mean ps es
