pub mod Access
pub mod Bytes
pub mod Image
pub mod Pages
pub mod Table
