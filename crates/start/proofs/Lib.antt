pub mod Accepted
pub mod ByList
