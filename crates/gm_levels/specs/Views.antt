-- The levels of a search as contracts see them.
use Rattle.std.specs.Prelude.{ℕ, nat_lt, List, Option, Some, None, if◌then◌else◌}

-- the levels of a search: of each node, by its index, with None where it has none; and the nodes of each level, from level 0
pub record NodeLevels : Type 0 where
  pub level : List (Option ℕ)
  pub lists : List (List ℕ)

-- the level that a cell holds, or none in a cell of the greatest number
abbrev pub level_in : ℕ → Option ℕ
level_in cell = if nat_lt cell 4294967295 then Some cell else None
