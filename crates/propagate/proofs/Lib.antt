pub mod Cuts
pub mod Meets
pub mod Turns
pub mod Twice
