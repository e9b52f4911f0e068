-- The `Container` of an array or a table that is being built in a buffer, and where an entry can be
-- put (`IsPlace`).
use Rattle.std.specs.Prelude.{ℕ, ◌≡◌, ◌+◌, ◌-◌, ◌<◌, ◌≤◌, List, [], ◌++◌, ◌==◌, if◌then◌else◌, length, ◌⊎◌}
use Rattle.amqp_value_core.specs.Bytes.{IsShort}
use Rattle.amqp_value_core.specs.Grammar.{short_field}
use Rattle.amqp_c.specs.Entries.{array_tag, table_tag, IsContainerTag, SpanIsIn}
use Rattle.amqp_c.specs.declared.container.Container.{Container}

-- no entry is open in the container, and one is; it has another number only if that was written from outside
abbrev pub HasNoneOpen : Container → Type 0
HasNoneOpen c = c.inner ≡ 0

abbrev pub HasOneOpen : Container → Type 0
HasOneOpen c = c.inner ≡ 1

-- the container is inside n bytes, is of an array or a table, and nothing is open in it
abbrev pub IsContainerIn : ℕ → Container → Type 0
IsContainerIn n c = SpanIsIn n c.written × IsContainerTag c.tag × HasNoneOpen c

-- the end of what is written of a container
abbrev pub end_of : Container → ℕ
end_of c = c.written.offset + c.written.length

-- keys that are put may be any bytes, in it and in what is opened there
abbrev pub HasAnyKeys : Container → Type 0
HasAnyKeys c = 0 < c.any_keys

-- an entry of the container may have this key: in an array no key, in a table each short string, and if keys
-- may be any bytes, each of at most 255
abbrev pub IsKeyOf : Container → List ℕ → Type 0
IsKeyOf c k =
    ((c.tag ≡ array_tag) × (k ≡ []))
    ⊎ ((c.tag ≡ table_tag) × (IsShort k ⊎ (HasAnyKeys c × (length k ≤ 255))))

-- in a buffer of n bytes an entry with this key can be put after what is written
abbrev pub IsPlace : ℕ → Container → List ℕ → Type 0
IsPlace n c k = SpanIsIn n c.written × IsKeyOf c k × HasNoneOpen c

-- what is before the value of an entry: in a table the key, after its length in one byte
abbrev pub named : ℕ → List ℕ → List ℕ
named tag k = if tag == table_tag then short_field k else []

-- the bytes of an entry: what is before its value, and an encoding of the value
abbrev pub entry_of : Container → List ℕ → List ℕ → List ℕ
entry_of c k w = named c.tag k ++ w

-- the end of an entry that is put after what is written
abbrev pub end_with : Container → List ℕ → List ℕ → ℕ
end_with c k w = end_of c + length (entry_of c k w)

-- a container of which nothing is written yet
abbrev pub empty_at : ℕ → ℕ → ℕ → Container
empty_at at tag any_keys = record { written = record { offset = at; length = 0 }; tag = tag; inner = 0; any_keys = any_keys; needed = 0 }

-- the container, if what is written ends there, and nothing is open in it
abbrev pub up_to : ℕ → Container → Container
up_to at c = record { written = record { offset = c.written.offset; length = at - c.written.offset }; tag = c.tag; inner = 0; any_keys = c.any_keys; needed = c.needed }
