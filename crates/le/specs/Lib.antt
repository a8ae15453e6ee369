pub mod Le
pub mod Wrote
