-- The lemmas of this crate's proofs: checks, fields, the table and its segments, spellings and how they are read back.
pub mod Checks
pub mod Fields
pub mod Loads
pub mod Pieces
pub mod Readback
pub mod Spelled
pub mod Start
pub mod Table
