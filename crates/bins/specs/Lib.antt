pub mod Meeting
pub mod Inner
