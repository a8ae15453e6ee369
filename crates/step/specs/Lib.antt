pub mod Alike
pub mod Taking
pub mod Took
