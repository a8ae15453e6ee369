pub mod BodyIndex
pub mod Same
