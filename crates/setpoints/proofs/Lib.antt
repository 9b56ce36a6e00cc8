pub mod Windows
pub mod Picks
mod Filled
pub mod Giving
pub mod Answered
