pub mod All
pub mod Takings
pub mod Full
