pub mod Step
pub mod Storage
pub mod Listing
pub mod Pieces
pub mod Laws
