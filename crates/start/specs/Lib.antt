pub mod Starting
pub mod Inputs
pub mod Settled
pub mod admitting
pub mod suspending
