pub mod Puts
pub mod Scans
pub mod Continuations
