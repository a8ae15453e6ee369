pub mod Checked
pub mod CheckedIndexed
pub mod analyzing
pub mod delivering
