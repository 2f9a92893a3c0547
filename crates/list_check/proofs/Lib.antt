pub mod Some
pub mod Formed
pub mod Scan
pub mod ByKind
pub mod Plain
pub mod Lines
