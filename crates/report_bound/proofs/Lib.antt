pub mod Cases
pub mod Sums
pub mod Few
pub mod States
pub mod Heights
pub mod Totals
pub mod Theorem
pub mod Lends
