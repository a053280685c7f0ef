pub mod BodyLines
