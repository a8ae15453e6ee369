pub mod Named
pub mod Entries
pub mod Shown
pub mod Theorem
pub mod Own
pub mod Cases
