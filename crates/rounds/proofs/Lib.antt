pub mod Ends
pub mod Settles
