pub mod Extremes
pub mod Words
pub mod Middle
pub mod Order
pub mod Spreads
