pub mod Counted
pub mod Framed
pub mod Lines
pub mod Streams
pub mod Transfers
