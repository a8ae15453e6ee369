pub mod Entries
pub mod Looked
