pub mod Numbered
pub mod Tallied
