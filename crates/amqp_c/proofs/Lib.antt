-- Lemmas on the definitions of specs/. A folder is for a module of src/, and has the proofs of its functions.

-- what is read: why it isn't, the bytes of spans, the first entry, and what else is told of it
mod ReadErrors
mod Parts
mod FirstEntry
mod Reading
-- stepping through a container, and looking up
mod Steps
mod LookUps
mod PairLists
mod Paths
-- building a container: keys, values, bytes in a buffer, and what is written then
mod Ascii
mod Scalars
mod Buffers
mod EncodingsByRules
mod Growth
mod PutEntries
