pub mod Answering
pub mod Costs
pub mod Errors
pub mod Manners
pub mod Scripts
pub mod Talking
pub mod Theres
