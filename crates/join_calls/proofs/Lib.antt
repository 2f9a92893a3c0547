pub mod InChunks
pub mod Exceeding
pub mod Grown
pub mod Entry
pub mod Going
pub mod Settled
