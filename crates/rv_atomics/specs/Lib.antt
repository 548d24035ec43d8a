pub mod Codes
pub mod Mnemonics
pub mod Operands
pub mod Rows
pub mod Values
pub mod Words
