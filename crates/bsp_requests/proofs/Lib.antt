-- The lemmas of this crate's proofs: the limits, and the bytes of a queue's payloads.
pub mod Limits
pub mod Payloads
