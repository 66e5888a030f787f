pub mod Walls
pub mod Needs
pub mod Centres
pub mod Laws
