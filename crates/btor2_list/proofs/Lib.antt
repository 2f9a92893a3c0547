pub mod NoKind
pub mod Carried
pub mod Stored
pub mod View
pub mod Fitting
pub mod Seen
pub mod Records
pub mod Got
pub mod Addressed
mod Words
mod Marked
mod Init
mod Sorted
