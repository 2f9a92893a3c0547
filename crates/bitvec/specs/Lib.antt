pub mod Smtlib
pub mod TwosComplement
pub mod Bytes
