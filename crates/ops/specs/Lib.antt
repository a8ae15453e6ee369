pub mod Numbers
pub mod Ops
