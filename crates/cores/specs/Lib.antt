pub mod Cored
pub mod Operation
