pub mod Access
pub mod Division
pub mod Condition
pub mod Lines
