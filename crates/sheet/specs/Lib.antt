pub mod Answer
pub mod Judging
pub mod Place
