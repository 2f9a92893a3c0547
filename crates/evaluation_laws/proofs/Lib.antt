pub mod Law
pub mod Comes
