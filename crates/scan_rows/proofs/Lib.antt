pub mod Replaced
pub mod Lists
pub mod Pieces
pub mod Grid
pub mod Steps
pub mod Closed
mod Portions
