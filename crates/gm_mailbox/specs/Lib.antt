pub mod Known
pub mod Post
pub mod Rule
pub mod Sender
pub use Rattle.gm_base.specs.Merge
