pub mod Halves
pub mod Quotients
pub mod Signed
