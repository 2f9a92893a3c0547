pub mod Tests
pub mod Accepted
