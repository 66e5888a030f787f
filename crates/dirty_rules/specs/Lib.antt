pub mod Dirty
pub mod Laws
