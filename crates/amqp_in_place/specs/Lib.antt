-- The definitions by which contracts of this crate are stated, in reading order.

-- values in place: what they denote, what is written, and where it is
pub mod Bodies
pub mod Refs
pub mod Heads
pub mod Written
pub mod Places
pub mod Encoded
-- steps through bodies, and what reading and look-ups return
pub mod Walks
pub mod Suffix
pub mod InPlaceResults
pub mod Lookups
pub mod Searches
-- canonical encodings
pub mod Canonicals
-- what isn't allowed, and what a peer may reject
pub mod Problems
pub mod ProblemResults
pub mod RabbitmqWarnings
