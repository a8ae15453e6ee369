pub mod Args
pub mod Visits
