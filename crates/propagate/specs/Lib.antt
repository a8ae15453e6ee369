pub mod Passing
pub mod Steps
