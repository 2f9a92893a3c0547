pub mod Walk
pub mod Roles
pub mod KindSorts
pub mod Words
pub mod Agrees
pub mod Division
pub mod KindValues
pub mod Behind
