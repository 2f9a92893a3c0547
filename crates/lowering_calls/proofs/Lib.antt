pub mod Joins
pub mod Ready
pub mod Steps
pub mod Same
pub mod Entries
