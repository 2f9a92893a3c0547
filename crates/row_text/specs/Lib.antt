pub mod Pairs
pub mod Row
