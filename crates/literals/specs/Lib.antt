pub mod Answer
pub mod Capped
