pub mod Rising
pub mod Consistent
pub mod Examples
pub mod OneReport
pub mod Calls
pub mod Left
