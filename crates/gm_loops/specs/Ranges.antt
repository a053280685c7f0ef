-- The steps of a loop or a reduction, as the code goes over them.
use Rattle.std.specs.Prelude.{◌≡◌, ◌<◌, ℕ, ⊤, Bool, true, List, [], ◌∷◌, filter, drop, Option, Some, None, option_map}
use Rattle.gm_model.specs.Graphs.{NumberedGraph, Step, node_count, out_steps, in_steps}
use Rattle.gm_graph.specs.Walks.{edge_at}
use Rattle.gm_semantics.specs.Levels.{node_steps, is_next}
use Rattle.gm_loops.specs.declared.ranges.Edges.{Edges}
use Rattle.gm_loops.specs.declared.ranges.Edges.TheVariants.{NoStep, AllNodes, From, To}
use Rattle.gm_loops.specs.declared.ranges.Course.{Course}
use Rattle.gm_loops.specs.declared.ranges.Course.TheVariants.{Any, Above, Below}
use Rattle.gm_loops.specs.declared.ranges.Range.{Range}
use Rattle.gm_loops.specs.declared.ranges.Hop.{Hop}
use Rattle.gm_loops.specs.Sights.{level_in}

-- a step
abbrev pub step_of : NumberedGraph → Hop → Step
step_of g hop = record { node = hop.node; edge = edge_at g hop.row }

-- the steps along some edges
abbrev pub steps_along : NumberedGraph → Edges → List Step
steps_along g NoStep = []
steps_along g AllNodes = node_steps g
steps_along g (From n) = out_steps g n
steps_along g (To rows n) = in_steps g n

-- whether a course takes a step to a node
abbrev pub takes : (ℕ → Option ℕ) → Course → ℕ → Bool
takes levels Any node = true
takes levels (Above level) node = is_next (levels node) level
takes levels (Below level) node = is_next level (levels node)

-- the steps that a course takes
abbrev pub taken_by : (ℕ → Option ℕ) → Course → List Step → List Step
taken_by levels Any steps = steps
taken_by levels (Above level) steps = filter (λ s. is_next (levels s.node) level) steps
taken_by levels (Below level) steps = filter (λ s. is_next level (levels s.node)) steps

-- edges that lead from or to a node of the graph, whose rows are the graph's
abbrev pub HasStart : NumberedGraph → Edges → Type 0
HasStart g (From n) = n < node_count g
HasStart g (To rows n) = (rows.now ≡ g) × (n < node_count g)
HasStart g edges = ⊤

-- the levels that a range asks
abbrev pub levels_by : Range → ℕ → Option ℕ
levels_by r = level_in (option_map (λ l. l.now) r.levels)

-- all steps along the edges of a range
abbrev pub all_steps : Range → List Step
all_steps r = steps_along r.graph.now r.edges

-- the steps of a range from the k-th on
abbrev pub steps_at : Range → ℕ → List Step
steps_at r k = taken_by (levels_by r) r.course (drop k (all_steps r))

-- a step, if it is taken, before others
abbrev pub with_hop : NumberedGraph → Option Hop → List Step → List Step
with_hop g None steps = steps
with_hop g (Some hop) steps = step_of g hop ∷ steps
