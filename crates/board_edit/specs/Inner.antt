pub mod Words
pub mod Reading
pub mod Things
pub mod Boards
