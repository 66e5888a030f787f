pub mod Splice
pub mod Laws
