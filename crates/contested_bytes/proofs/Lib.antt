-- The lemmas of this crate's proofs: requests and their landings, orders, and ranges that are sorted, found and merged.
pub mod Added
pub mod Compared
pub mod Inside
pub mod Merged
pub mod Orders
pub mod Requested
pub mod Shared
pub mod Sorting
pub mod Swept
