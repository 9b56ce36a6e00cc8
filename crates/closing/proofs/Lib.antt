pub mod Bridge
pub mod Fronts
pub mod Least
pub mod Search
pub mod Thin
