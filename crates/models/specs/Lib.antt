pub mod Places
pub mod Counters
pub mod Kinds
pub mod Model
pub mod Code
