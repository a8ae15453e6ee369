pub mod Entering
pub mod Reach
pub mod Rows
pub mod Began
