pub mod Paused
pub mod Turned
pub mod Resumed
pub mod reaching
pub mod closing
