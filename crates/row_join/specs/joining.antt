pub mod Leave
pub mod Left
pub mod Met
