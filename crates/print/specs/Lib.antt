pub mod Printing
pub mod Room
