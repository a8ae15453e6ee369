pub mod Four
pub mod Same
