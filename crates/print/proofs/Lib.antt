pub mod Each
pub mod Outcomes
pub mod Identifiers
pub mod Rooms
