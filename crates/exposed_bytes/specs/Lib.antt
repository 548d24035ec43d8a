pub mod Courses
pub mod Examples
pub mod Exposed
pub mod Found
pub mod Search
