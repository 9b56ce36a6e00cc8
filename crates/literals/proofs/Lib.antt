pub mod Literals
pub mod Within
