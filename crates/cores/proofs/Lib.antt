pub mod Makers
pub mod Plain
pub mod LineTests
pub mod CornerPlaces
pub mod AreaTests
pub mod Cases
