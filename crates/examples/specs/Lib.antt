-- The definitions by which contracts of these examples are stated.

-- headers with a count of retries
pub mod Retries
-- values that are counted
pub mod Counts
