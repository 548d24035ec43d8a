pub mod Lookup
pub mod Masks
pub mod Names
pub mod OneTable
pub mod OnlyWords
pub mod RowReads
pub mod RowValues
pub mod Spelling
