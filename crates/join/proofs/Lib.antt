pub mod Laws
pub mod Numbers
mod Examples
pub mod Lists
pub mod FlagName
