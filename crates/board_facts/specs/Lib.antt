pub mod Places
pub mod Stamps
pub mod Laws
