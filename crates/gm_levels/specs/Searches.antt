-- The rounds of a search: which nodes get a level.
use Rattle.std.specs.Prelude.{◌≡◌, ◌<◌, ◌≤◌, ◌+◌, ◌⊎◌, ◌&&◌, ◌||◌, ℕ, Bool, nat_eq, List, [], ◌∷◌, ◌++◌, length, All, slice_index_or, if◌then◌else◌, count_by}
use Rattle.gm_model.specs.Graphs.{NumberedGraph, node_count, nodes_of, out_steps}
use Rattle.gm_semantics.specs.Levels.{is_among, level_of}
use Rattle.gm_levels.specs.Views.{level_in}
use Rattle.gm_levels.specs.declared.searches.Search.{Search}
use Rattle.gm_levels.specs.declared.searches.Reached.{Reached}

-- the cell of a node, which holds 4294967295 where the node has no level
abbrev pub cell_at : List ℕ → ℕ → ℕ
cell_at cells n = slice_index_or cells n 4294967295

-- whether a node has no level yet
abbrev pub is_open : List ℕ → ℕ → Bool
is_open cells n = nat_eq (cell_at cells n) 4294967295

-- how many nodes have no level yet
abbrev pub open_count : List ℕ → ℕ
open_count cells = count_by (λ cell. nat_eq cell 4294967295) cells

-- the nodes to which the edges from some nodes lead
abbrev pub targets_of : NumberedGraph → List ℕ → List ℕ
targets_of g [] = []
targets_of g (n ∷ ns) = nodes_of (out_steps g n) ++ targets_of g ns

-- the open ones of some targets have got a level, and stand among the found ones
pub record AreMarked (targets : List ℕ) (level : ℕ) (old new : Search) : Type 0 where
  pub long : length new.cells.items ≡ length old.cells.items
  pub cells : (n : ℕ) → cell_at new.cells.items n ≡ (if is_open old.cells.items n && is_among targets n then level else cell_at old.cells.items n)
  pub found : (n : ℕ) → is_among new.found.items n ≡ (is_among old.found.items n || (is_open old.cells.items n && is_among targets n))
  pub count : open_count new.cells.items + length new.found.items ≡ open_count old.cells.items + length old.found.items

-- what a search has reached: each node's cell holds its level, each level below the count is some node's
pub record AreReached (g : NumberedGraph) (root : ℕ) (reached : Reached) : Type 0 where
  pub long : length reached.cells.items ≡ node_count g
  pub levels : (n : ℕ) → level_in (cell_at reached.cells.items n) ≡ level_of g root n
  pub below : All (λ cell. (cell ≡ 4294967295) ⊎ (cell < reached.count)) reached.cells.items
  pub some : (k : ℕ) → k < reached.count → (n : ℕ) × (n < length reached.cells.items) × (cell_at reached.cells.items n ≡ k)
  pub few : reached.count ≤ node_count g
  pub few_nodes : node_count g ≤ 2147483647
