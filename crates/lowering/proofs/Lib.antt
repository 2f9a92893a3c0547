pub mod Refused
pub mod Words
pub mod SameLists
