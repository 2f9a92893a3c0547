pub mod Words
pub mod Stored
pub mod Put
pub mod Within
pub mod Fit
pub mod Sorts
pub mod RoleSorts
