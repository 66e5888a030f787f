pub mod Said
pub mod Zone
pub mod FillLists
pub mod Refused
pub mod ReadLaws
pub mod Inner
