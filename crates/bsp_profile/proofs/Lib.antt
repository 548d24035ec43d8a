pub mod Added
pub mod Told
pub mod Others
pub mod Machines
pub mod Rows
pub mod Texts
pub mod Ledgers
pub mod Rest
