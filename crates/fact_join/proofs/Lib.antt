pub mod Lists
pub mod Frames
pub mod Cells
pub mod Slots
pub mod Gifts
