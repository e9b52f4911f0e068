-- What the contracts of the calls say, in reading order.

-- bytes to read, and the entry of a value in them
pub mod Inputs
pub mod CallResults
pub mod Scalars
pub mod Entries
-- reading, stepping through a container, and looking up
pub mod Reads
pub mod Steps
pub mod LookUps
pub mod Paths
-- building a container in a buffer
pub mod Containers
pub mod Items
pub mod Growth
pub mod BuildCalls
-- JSON
pub mod JsonTexts
