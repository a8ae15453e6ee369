pub mod Replies
pub mod Inputs
pub mod Settled
pub mod Refusing
