pub mod Turn
pub mod Lister
