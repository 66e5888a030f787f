pub mod Lists
pub mod Fields
pub mod Numbers
pub mod Layers
pub mod Items
pub mod Things
pub mod Codes
