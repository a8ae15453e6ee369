pub mod Decides
pub mod Resumable
pub mod faultless
