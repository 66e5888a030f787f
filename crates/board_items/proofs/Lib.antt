pub mod Before
pub mod Faults
pub mod Bits
pub mod Kept
pub mod Picks
pub mod Doubles
pub mod LayersOf
pub mod StampTables
