pub mod Most
pub mod Walk
pub mod Sizes
