pub mod Guard
pub mod Told
