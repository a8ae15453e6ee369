pub mod Both
pub mod Single
pub mod Counted
