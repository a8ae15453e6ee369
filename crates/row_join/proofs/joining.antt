pub mod Left
pub mod Joined
