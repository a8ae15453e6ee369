pub mod Within
pub mod Walk
