-- Lemmas on the definitions of specs/. A folder has the proofs of a module of src/, or of a
-- function of src/lib.rt.
mod CanonicalWritten
mod JsonWritten
