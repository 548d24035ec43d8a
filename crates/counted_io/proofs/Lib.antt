-- The lemmas of this crate's proofs: the ends of lines, one read, transfers.
pub mod LineLemmas
pub mod ReadMore
pub mod TransfersLemmas
