-- The lemmas of this crate's proofs: limits, last entries, sequences that agree, soundness.
pub mod Limits
pub mod Positions
pub mod Shapes
pub mod Soundness
