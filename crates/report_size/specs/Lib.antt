pub mod Reporting
pub mod Span
pub mod Adds
pub mod Here
pub mod Measured
pub mod recorded
pub mod counting
