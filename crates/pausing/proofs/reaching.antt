pub mod Storing
pub mod Staging
pub mod Going
pub mod Functions
