pub mod Layout
pub mod Indexed
pub mod Read
pub mod Kept
