pub mod Alike
mod Cases
pub mod Laid
pub mod Match
pub mod Wrote
