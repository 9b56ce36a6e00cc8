pub mod Answer
pub mod Checked
pub mod Demand3
