pub mod Settling
pub mod Ends
pub mod entering
pub mod inspecting
