pub mod Faults
pub mod Headers
pub mod Presents
pub mod Spelling
