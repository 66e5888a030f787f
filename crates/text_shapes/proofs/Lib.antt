pub mod Layouts
pub mod Numbers
pub mod Spellings
pub mod Spelled
pub mod Utf8
pub mod Seen
pub mod Root
