pub mod Putting
pub mod Sums
pub mod Theorem
