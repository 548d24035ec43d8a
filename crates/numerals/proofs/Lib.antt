-- The lemmas of this crate's proofs: numbers and their bounds.
pub mod Values
