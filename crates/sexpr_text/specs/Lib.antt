pub mod Grammar
pub mod Items
pub mod Flat
pub mod Trees
pub mod Parts
pub mod Faults
pub mod Inner
