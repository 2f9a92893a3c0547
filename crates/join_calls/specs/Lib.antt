pub mod Records
pub mod Steps
pub mod Room
pub mod Entry
pub mod Answer
