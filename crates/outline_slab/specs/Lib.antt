pub mod Rules
pub mod Faults
pub mod Places
pub mod Cuts
pub mod Filled
pub mod Inner
