-- The rows in which levels are kept.
use Rattle.std.specs.Prelude.{◌<◌, ◌≤◌, ◌+◌, ◌-◌, ℕ, List, map, length, slice_index, slice_range}
use Rattle.gm_semantics.specs.Levels.{numbers_from}
use Rattle.gm_levels.specs.Views.{NodeLevels, level_in}
use Rattle.gm_levels.specs.declared.levels.Levels.TheInside.{Inside}

-- the part of a row that belongs to a level: each level's part begins at its start and ends at the next one's
abbrev pub part_of : List ℕ → List ℕ → ℕ → List ℕ
part_of order starts level = slice_range order (slice_index starts level) (slice_index starts (level + 1))

-- the parts of all levels
abbrev pub parts_of : List ℕ → List ℕ → List (List ℕ)
parts_of order starts = map (part_of order starts) (numbers_from 0 (length starts - 1))

-- the levels that the rows hold
abbrev pub levels_in : Inside → NodeLevels
levels_in rows = record {
  level = map level_in rows.cells.items;
  lists = parts_of rows.order.items rows.starts.items;
}

-- what is true of the rows of all levels
pub record IsHeld (rows : Inside) : Type 0 where
  pub some : 0 < length rows.starts.items
  pub ascending : (k : ℕ) → k + 1 < length rows.starts.items → slice_index rows.starts.items k ≤ slice_index rows.starts.items (k + 1)
  pub within : (k : ℕ) → k < length rows.starts.items → slice_index rows.starts.items k ≤ length rows.order.items
