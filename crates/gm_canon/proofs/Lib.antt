mod Items
mod Leasts
mod Parts
mod Trees
mod Phases
mod Ones
