pub mod Words
pub mod Put
pub mod Room
pub mod Roles
pub mod RolesFit
