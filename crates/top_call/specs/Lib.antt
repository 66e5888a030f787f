pub mod Today
pub mod Settled
pub mod Rows
pub mod Refusals
pub mod Opened
pub mod Passed
pub mod Steps
pub mod Laws
