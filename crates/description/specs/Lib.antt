pub mod Fields
pub mod reader
