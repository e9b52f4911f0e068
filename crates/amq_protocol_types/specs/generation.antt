-- What writing does to an output, and what is promised of a value that was written.

-- what an output is viewed as, and what each call does to that (33 lines)
pub mod Outputs
-- what a `WriteContext` is viewed as (10 lines)
pub mod Contexts
-- what is promised of a value that was read, and of one that was written (18 lines)
pub mod Written
-- what a buffer's calls do to it
pub mod BufferOutput
-- what a slice, a vector and a device are viewed as
pub mod OutputViews
-- lengths of what is written
pub mod Lengths
-- why a new vector isn't returned
pub mod NewVectors
