pub mod Behind
pub mod Tail
