pub mod Narrow
pub mod Thousandths
