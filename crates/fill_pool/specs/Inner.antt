pub mod Slots
pub mod Tables
pub mod Fields
pub mod Workers
