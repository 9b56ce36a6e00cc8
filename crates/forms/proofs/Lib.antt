pub mod Forms
pub mod Within
pub mod Words
