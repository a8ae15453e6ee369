pub mod Fits
pub mod Refilled
pub mod model
