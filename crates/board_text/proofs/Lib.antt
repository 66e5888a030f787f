pub mod AtPart
pub mod Walks
pub mod Wholes
pub mod Lengths
pub mod Areas
pub mod Solid
