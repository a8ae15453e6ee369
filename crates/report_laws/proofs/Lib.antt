pub mod Has
pub mod Cells
pub mod Walk
pub mod Back
pub mod Kept
pub mod Carried
pub mod Runs
pub mod Reports
