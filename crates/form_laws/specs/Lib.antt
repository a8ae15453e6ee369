pub mod Order
pub mod Good
pub mod Places
pub mod Admitted
