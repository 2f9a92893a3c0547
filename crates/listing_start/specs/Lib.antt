pub mod Start
pub mod Table
