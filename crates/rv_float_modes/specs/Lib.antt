pub mod Enclosed
pub mod Modes
pub mod Operations
