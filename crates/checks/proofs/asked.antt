pub mod Fine
pub mod Wanted
pub mod Checked
pub mod Found
