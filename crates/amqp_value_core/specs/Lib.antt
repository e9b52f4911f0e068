-- What has to be believed in order to believe the headline, in reading order, with the number of lines
-- without comments and imports. The contracts of `parse_value` and `gen_value` are stated by these
-- definitions, and by *Refusals*, *ParseResults*, *Outputs*, *Contexts* and *Written* of
-- amq_protocol_types.

-- which byte denotes which type (44 lines)
pub mod Ids
-- which lists are bytes and short strings, and what an input has (13 lines)
pub mod Bytes
-- what a value is, without its place in memory (74 lines)
pub mod Values
-- payloads of fixed width (35 lines)
pub mod Layouts
-- a table as a finite map: what is found at a key, what pairs mean, and what an insertion changes
-- (23 lines)
pub mod Maps
-- which bytes are an encoding of which value (20 lines)
pub mod Grammar
-- what reading any bytes results in: a value, more bytes that are needed, or an error; also if more
-- bytes follow, and of what was written (64 lines)
pub mod Outcomes
-- what a value is written as (37 lines)
pub mod Texts
-- which encoding is the canonical one, determined by its bytes alone (19 lines)
pub mod Canonical
-- which trees are values in memory (29 lines)
pub mod InMemory
-- the words of the headline about sizes and about what is written (12 lines)
pub mod Headline
-- the tree that a value in memory denotes (33 lines)
pub mod View
-- ---- what other contracts cite

-- what types are called
pub mod Names
-- the errors for a string that is too long
pub mod Short
-- encodings in which containers nest at most that deep
pub mod Nesting
-- arrays and tables in memory, and values that are stored without an allocation
pub mod Containers
-- a table that is lent: what becomes of it if a call fails
pub mod Lending
-- when two values are equal
pub mod Equality
-- the laws of `PartialEq`
pub mod Decided
-- what a value of a given type has inside
pub mod Getters
-- which value a JSON value is
pub mod Json
-- ---- what only amqp_wire, laws, proofs and worked examples use

-- the outcomes as a function; law `outcome_computes`
pub mod Decode
