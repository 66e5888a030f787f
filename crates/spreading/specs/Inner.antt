pub mod Flood
