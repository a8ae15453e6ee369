pub mod Index
pub mod entries
