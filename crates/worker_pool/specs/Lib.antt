pub mod Answers
pub mod Landings
pub mod Numbers
pub mod Phases
pub mod Work
