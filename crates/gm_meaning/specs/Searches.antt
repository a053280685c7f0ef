-- The levels of a search, as a run goes over them.
use Rattle.std.specs.Prelude.{◌≡◌, ◌<◌, ℕ, All, List, Some}
use Rattle.gm_model.specs.Graphs.{NumberedGraph, node_count}
use Rattle.gm_levels.specs.Views.{NodeLevels}
use Rattle.gm_semantics.specs.Levels.{level_of, levels}
use Rattle.gm_loops.specs.Sights.{level_in}

-- nodes of a graph
abbrev pub AreNodes : NumberedGraph → List ℕ → Type 0
AreNodes g ns = All (λ n. n < node_count g) ns

-- the levels of the search from a root
pub record AreLevels (g : NumberedGraph) (root : ℕ) (found : NodeLevels) : Type 0 where
  pub level : level_in (Some found) ≡ level_of g root
  pub lists : found.lists ≡ levels g root
  pub known : All (AreNodes g) found.lists
