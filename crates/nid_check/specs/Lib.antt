pub mod Identifiers
pub mod Inside
