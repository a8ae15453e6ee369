pub mod Stored
pub mod Front
