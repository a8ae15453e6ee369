pub mod Turns
pub mod Laid
pub mod Long
