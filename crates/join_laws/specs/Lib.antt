pub mod Join
pub mod Marked
