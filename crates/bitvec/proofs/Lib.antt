pub mod Composed
pub mod Base
pub mod Truth
pub mod Below
pub mod LastArm
pub mod Logic
pub mod Shift
pub mod Sext
pub mod Memory
pub mod Divide
pub mod Bounds
pub mod Word
mod Examples
