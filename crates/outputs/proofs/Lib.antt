pub mod Parts
pub mod First
