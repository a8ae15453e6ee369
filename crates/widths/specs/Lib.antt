pub mod Width
pub mod Shape
