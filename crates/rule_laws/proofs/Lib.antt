pub mod Table
pub mod Tests
pub mod Told
pub mod Faults
