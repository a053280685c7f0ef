-- Walks from a root, and what levels are in their words.
use Rattle.std.specs.Prelude.{◌≡◌, ◌<◌, ℕ, zero, suc, Some, None}
use Rattle.gm_value.specs.Bag.{IsIn}
use Rattle.gm_model.specs.Graphs.{NumberedGraph, Edge, IsGraph, HasNode}
use Rattle.gm_semantics.specs.Levels.{level_of}

-- an edge by its ends
abbrev pub edge : ℕ → ℕ → Edge
edge n m = record { from = n; to = m }

-- a walk from the root along edges, by its length and its end
pub data Walk (g : NumberedGraph) (root : ℕ) : ℕ → ℕ → Type 0 where
  start : Walk g root zero root
  onward : {k n : ℕ} (m : ℕ) → Walk g root k n → IsIn (edge n m) g.edges → Walk g root (suc k) m

-- a node's level is the length of a walk from the root to it
abbrev pub LevelIsAWalk : Type 0
LevelIsAWalk = (g : NumberedGraph) (root n k : ℕ) → level_of g root n ≡ Some k → Walk g root k n

-- no walk to a node is shorter than its level
abbrev pub LevelIsLeast : Type 0
LevelIsLeast = (g : NumberedGraph) (root n k j : ℕ) → IsGraph g → level_of g root n ≡ Some k → j < k → Walk g root j n → ⊥

-- to a node without a level there is no walk at all
abbrev pub NoLevelNoWalk : Type 0
NoLevelNoWalk = (g : NumberedGraph) (root n j : ℕ) → IsGraph g → HasNode g root → level_of g root n ≡ None → Walk g root j n → ⊥
