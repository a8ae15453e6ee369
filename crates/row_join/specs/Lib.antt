pub mod places
pub mod joining
