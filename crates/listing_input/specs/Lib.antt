pub mod Gather
pub mod Text
pub mod Kinds
pub mod Line
