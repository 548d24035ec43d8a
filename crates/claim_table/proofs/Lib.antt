-- The lemmas of this crate's proofs: which steps are allowed, what each keeps of the table, and what holds at its end.
pub mod Allowed
pub mod ClaimLists
pub mod Ends
pub mod Keeping
pub mod Keeps
pub mod Serving
