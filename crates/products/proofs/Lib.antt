pub mod SmallProducts
pub mod Thousandths
