pub mod refusals
pub mod asked
