pub mod Edges
pub mod InEdges
pub mod Origins
