pub mod Arrange
pub mod Chunks
pub mod Ends
pub mod Halves
pub mod Passes
pub mod Steps
pub mod Turned
