-- Lemmas on reading and writing. A folder is for a module of src/, and has the proofs of its functions.

-- for proofs of other crates to cite
pub mod ParsingLaws
pub mod Lengths
pub mod SourceReads
-- reading
mod Refusals
mod Payloads
mod Frames
mod ArrayBodies
mod TableBodies
mod TaggedValues
mod Extents
mod MissingBytes
mod LimitLaws
mod UntaggedContainers
-- writing
mod Capacities
mod Steps
mod FlagPuts
mod Slices
mod Arrays
mod Tables
mod ReadBack
pub mod Vectors
-- flags
mod FlagBits
-- streams
mod ReaderOutcomes
mod StreamLaws
