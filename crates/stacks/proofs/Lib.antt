pub mod Plain
pub mod Reached
pub mod Beyond
pub mod Unions
pub mod Lists
pub mod Places
