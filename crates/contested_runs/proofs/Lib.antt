pub mod Differing
pub mod Rest
pub mod Settled
pub mod Turns
