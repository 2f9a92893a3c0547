pub mod Lines
pub mod Formed
pub mod Operand
pub mod Scan
pub mod Broken
pub mod OperandsOut
