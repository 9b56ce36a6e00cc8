pub mod Expected
pub mod Stored
