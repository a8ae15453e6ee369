pub mod Frames
pub mod Taken
pub mod Faults
pub mod Steps
pub mod Alike
pub mod Taking
