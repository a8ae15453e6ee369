pub mod Forms
pub mod Runs
pub mod Theorem
