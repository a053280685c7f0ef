pub mod Even
pub mod Laws
