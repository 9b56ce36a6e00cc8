pub mod Ends
pub mod Some
