pub mod Walk
pub mod Faults
