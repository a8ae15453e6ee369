pub mod Guards
pub mod Next
