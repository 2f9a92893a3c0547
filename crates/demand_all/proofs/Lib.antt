pub mod Many
pub mod Chain
pub mod Bench
