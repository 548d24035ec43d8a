pub mod Area
pub mod Change
pub mod Registrations
pub mod Slots
