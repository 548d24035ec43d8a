-- The lemmas of this crate's proofs: courses of a superstep, what the search has found so far, and the pairs of calls that it meets.
pub mod Courses
pub mod Grown
pub mod Sides
