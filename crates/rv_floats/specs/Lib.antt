pub mod Classes
pub mod Comparisons
pub mod Conversions
pub mod Fused
pub mod Nan
pub mod Signs
