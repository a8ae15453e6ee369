pub mod Left
pub mod Measure
pub mod Enough
pub mod Full
