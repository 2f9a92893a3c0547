pub mod Accepted
pub mod Refusals
