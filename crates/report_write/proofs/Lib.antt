pub mod Tagged
pub mod Whole
