-- What a JSON text means, and what is written for a value.
pub mod Meaning
pub mod Decimals
pub mod Written
-- What the calls' clauses say.
pub mod Nesting
pub mod Conversions
-- For private clauses. A folder is for a module of src/.
pub mod reading
pub mod printing
-- Of values that were read in place.
pub mod Views
