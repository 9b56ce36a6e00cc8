pub mod Fill
pub mod Joined
pub mod Operations
