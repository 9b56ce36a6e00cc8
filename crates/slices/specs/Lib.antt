pub mod Adds
pub mod Wrote
