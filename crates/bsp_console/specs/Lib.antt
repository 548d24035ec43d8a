pub mod Console
pub mod Dialogue
pub mod Script
pub mod Talk
