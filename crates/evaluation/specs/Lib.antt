pub mod Answer
pub mod Evaluation
pub mod Given
