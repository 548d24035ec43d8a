pub mod Inside
pub mod Noting
pub mod Parting
pub mod Rest
pub mod Told
pub mod Turns
