-- The lemmas of this crate's proofs: padded digits, and the next of the lines that are left.
pub mod Hexadecimal
pub mod NextLine
