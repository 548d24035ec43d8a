pub mod Numbers
pub mod Signs
pub mod Words
