pub mod Listed
pub mod Runs
mod Examples
pub mod KnownKinds
mod RecordExamples
