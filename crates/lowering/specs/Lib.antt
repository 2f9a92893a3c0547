pub mod Lowering
pub mod Words
pub mod All
pub mod Lines
