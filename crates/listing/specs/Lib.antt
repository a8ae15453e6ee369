pub mod Decimal
pub mod Listing
pub mod Laid
pub mod Worked
