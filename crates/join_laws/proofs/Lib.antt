pub mod Flat
pub mod Lists
pub mod Masks
pub mod Extents
pub mod Flows
pub mod Cells
pub mod Join
