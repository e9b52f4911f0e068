-- Lemmas on the grammar. A folder is for a module of src/, and has the proofs of its functions.

-- for proofs of other crates to cite
pub mod Ids
pub mod Bytes
pub mod GrammarLaws
-- one encoding at the start of a list, with one meaning
mod Headers
mod Unique
mod Tables
-- what is written: its size, and that it is an encoding
mod Spelling
-- what an insertion changes
mod Insertions
-- what reading results in: of a payload and of the value, of what was written, and with more bytes
mod Outcomes
mod Reading
mod MoreBytes
-- what an encoding bounds, and that the canonical one is a shortest
mod Bounds
mod Shortest
-- the canonical encoding, by its bytes
mod Canons
mod TextCanon
mod TextBytes
-- reading as a function, and containers that nest at most so deep
mod Found
mod Nests
mod Limited
mod TextDepth
mod Sound
mod Agreement
-- the words of the headline
mod Headlines
-- copies, and pairs that are gathered
mod Copies
mod Gathered
