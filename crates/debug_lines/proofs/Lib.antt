pub mod FirstWords
pub mod Groups
pub mod Rows
