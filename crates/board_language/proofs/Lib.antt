pub mod FirstKind
pub mod NoneOffends
pub mod Places
pub mod OneOffence
pub mod Few
pub mod Members
pub mod Centres
