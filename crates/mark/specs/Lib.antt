pub mod Finds
pub mod Marks
