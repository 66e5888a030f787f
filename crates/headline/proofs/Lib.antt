pub mod Copper
pub mod Places
pub mod Counts
pub mod Ends
pub mod Nets
pub mod Named
pub mod Trees
pub mod Headline
