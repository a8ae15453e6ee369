pub mod Writes
pub mod Values
