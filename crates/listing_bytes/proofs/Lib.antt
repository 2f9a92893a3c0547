pub mod Core
pub mod Room
pub mod Text
pub mod Whole
