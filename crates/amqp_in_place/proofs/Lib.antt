-- Lemmas on values in place. A folder is for a module of src/, and has the proofs of its functions.

-- reading: errors, heads, bodies, places, and tables without their type tag
pub mod Refusals
pub mod HeadLemmas
pub mod Reading
pub mod Skipping
mod Places
mod Untagged
-- steps through bodies, views of what is there, and look-ups
mod Stepping
mod Views
pub mod Searches
pub mod Lookups
mod Paths
mod RepeatedKeys
mod Measuring
-- canonical encodings
pub mod Canonicals
-- what isn't allowed, and what a peer may reject
pub mod FirstProblems
pub mod ProblemReadings
pub mod AnyKeys
mod KeyFaults
