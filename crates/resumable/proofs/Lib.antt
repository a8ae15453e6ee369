pub mod Decides
pub mod Low
pub mod Entries
pub mod GoOn
