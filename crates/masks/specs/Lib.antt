pub mod Mask
pub mod Names
