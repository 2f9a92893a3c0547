pub mod Scan
pub mod Record
pub mod State
pub mod Instruction
