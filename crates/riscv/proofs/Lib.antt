pub mod First
pub mod Numbered
pub mod InOneCell
mod Examples
mod Boundaries
pub mod EachKind
pub mod Most
