pub mod Inbox
pub mod Message
pub mod Outgoing
pub mod Put
pub mod Request
pub mod Requests
