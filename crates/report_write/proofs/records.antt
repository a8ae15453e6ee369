pub mod Guards
pub mod Values
pub mod Writes
