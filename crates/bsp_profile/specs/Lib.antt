pub mod Moves
pub mod Lines
pub mod Tally
