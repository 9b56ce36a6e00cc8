pub mod Chain
pub mod Partly
pub mod Pairs
