pub mod Rounds
pub mod Began
pub mod Reach
pub mod Rows
