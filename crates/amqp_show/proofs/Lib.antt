-- The lemmas that proofs of functions cite.
mod Screens
mod Adding
mod Covering
mod Printing
mod WritingPlain
