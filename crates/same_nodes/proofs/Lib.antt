pub mod Lists
pub mod Records
pub mod Rows
