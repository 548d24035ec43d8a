-- The lemmas of this crate's proofs: refusals, runs of a row, landings, phases, work on nodes.
pub mod Refusals
pub mod Runs
pub mod Landings
pub mod Phases
pub mod Works
