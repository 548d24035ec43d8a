pub mod Contested
pub mod Examples
pub mod Gathered
pub mod Places
pub mod Ranges
