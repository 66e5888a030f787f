pub mod Contents
pub mod Alike
pub mod Laws
