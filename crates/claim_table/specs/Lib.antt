pub mod Claims
pub mod ClaimSteps
pub mod Start
