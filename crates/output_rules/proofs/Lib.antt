pub mod Joined
pub mod Replacing
pub mod Reporting
pub mod Reports
pub mod Placing
pub mod Bare
