pub mod Edges
pub mod Next
pub mod Laws
pub mod Inner
