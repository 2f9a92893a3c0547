pub mod Broken
pub mod Marks
