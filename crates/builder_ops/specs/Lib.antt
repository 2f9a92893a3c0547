pub mod Composed
pub mod Operator
