mod Silent
mod Late
mod Ways
mod Slices
mod Statements
mod Longer
mod Apart
mod Walks
mod ApartPrograms
mod Samples
mod Pieces
pub mod Outer
mod Placed
mod Slim
mod Slimmed
mod Moved
mod Groups
mod Nodes
pub mod NodesPrograms
