pub mod Feeds
pub mod Judging
mod Places
pub mod Walk
