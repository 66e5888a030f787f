pub mod Found
pub mod Known
pub mod Stamps
pub mod Things
