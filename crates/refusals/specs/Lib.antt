pub mod Numbers
pub mod Endings
