pub mod Classes
pub mod Extremes
pub mod FromWords
pub mod Narrowing
pub mod Patterns
pub mod Quiet
pub mod Words
