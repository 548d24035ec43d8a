pub mod Effects
pub mod NoNewFlags
pub mod State
pub mod Values
pub mod Whole
