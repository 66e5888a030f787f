pub mod Labels
pub mod Inner
