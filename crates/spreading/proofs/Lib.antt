pub mod Members
pub mod Flooding
pub mod Quotients
