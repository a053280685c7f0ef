pub mod SurfaceTrees
mod Rows
