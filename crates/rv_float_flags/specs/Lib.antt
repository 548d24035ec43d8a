pub mod Conversions
pub mod Exact
pub mod Flags
pub mod NoNewFlags
pub mod Operations
pub mod Scaled
