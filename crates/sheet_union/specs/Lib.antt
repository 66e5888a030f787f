pub mod Near
pub mod Laws
pub mod Inner
