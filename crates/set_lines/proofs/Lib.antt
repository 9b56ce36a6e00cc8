-- Laws of one line. Assumes nothing.
pub mod Bounds
pub mod Lines
