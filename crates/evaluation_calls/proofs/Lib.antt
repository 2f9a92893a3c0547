pub mod Records
pub mod Walked
pub mod Parts
pub mod Entered
pub mod Visited
pub mod Steps
pub mod Words
pub mod Answer
