-- Lemmas that the worked examples cite. A folder has the proofs of a module of src/.
mod OnLiterals
