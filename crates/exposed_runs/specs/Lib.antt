pub mod Calls
pub mod Lines
pub mod Notes
pub mod Parts
pub mod Runs
