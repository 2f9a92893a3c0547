pub mod Ends
pub mod Chains
pub mod Steps
pub mod Names
mod Examples
pub mod Laws
