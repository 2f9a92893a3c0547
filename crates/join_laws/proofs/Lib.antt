pub mod Sound
pub mod Pushed
pub mod Step
pub mod Edges
pub mod Fit
pub mod Sequentials
pub mod Sorts
pub mod Accepted
