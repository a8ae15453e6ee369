pub mod Decides
pub mod Room
