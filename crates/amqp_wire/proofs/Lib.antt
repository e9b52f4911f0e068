-- Lemmas on lines and streams. A folder is for a module of src/, and has the proofs of its functions.

mod Faults
mod Outcomes
mod Output
mod Streams
