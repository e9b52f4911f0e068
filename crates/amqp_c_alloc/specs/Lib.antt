-- The definitions by which contracts of this crate are stated.

-- writing the canonical encoding
pub mod CanonicalCalls
-- from JSON to an encoding
pub mod JsonCalls
-- what a client or a stream queue may not accept
pub mod WarningCalls
