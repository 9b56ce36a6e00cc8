pub mod Marks
pub mod Showing
