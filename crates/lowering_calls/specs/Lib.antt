pub mod Bounds
pub mod Apart
pub mod Known
