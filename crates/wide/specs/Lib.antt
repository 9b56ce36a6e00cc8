pub mod Exact
pub mod Range
