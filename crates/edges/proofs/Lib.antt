pub mod InEdges
pub mod Copied
pub mod Origins
