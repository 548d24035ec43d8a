pub mod Addresses
pub mod Counting
pub mod Lines
pub mod Parting
pub mod Rest
pub mod Sums
pub mod Tables
pub mod Words
