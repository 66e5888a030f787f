pub mod Lines
pub mod Numbers
pub mod Alike
pub mod Nets
pub mod Reading
