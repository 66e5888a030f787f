pub mod Sides
pub mod Products
pub mod Lists
