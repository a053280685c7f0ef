-- The nodes of a graph, and the levels of a breadth-first search.
use Rattle.std.specs.Prelude.{ℕ, zero, suc, nat_eq, nat_lt, Bool, true, false, if◌then◌else◌, List, [], ◌∷◌, map, filter, find, Option, Some, None}
use Rattle.std.specs.List.{list_any}
use Rattle.gm_value.specs.declared.values.Value.{Value}
use Rattle.gm_value.specs.declared.values.Value.TheVariants.{At}
use Rattle.gm_model.specs.Graphs.{NumberedGraph, Step, node_count, in_steps}

-- n numbers from k on
abbrev pub numbers_from : ℕ → ℕ → List ℕ
numbers_from k zero = []
numbers_from k (suc n) = k ∷ numbers_from (suc k) n

-- the nodes of a graph by their indices, in the order of their numbers
abbrev pub nodes : NumberedGraph → List ℕ
nodes g = numbers_from 0 (node_count g)

-- a step to each node, along no edge
abbrev pub node_steps : NumberedGraph → List Step
node_steps g = map (λ n. record { node = n; edge = 0 }) (nodes g)

-- the node of the graph that a value is, if it is one: NIL is none
abbrev pub node_in : NumberedGraph → Value → Option ℕ
node_in g (At (Some n)) = if nat_lt n (node_count g) then Some n else None
node_in g _ = None

-- whether a node is among some
abbrev pub is_among : List ℕ → ℕ → Bool
is_among ns n = list_any (nat_eq n) ns

-- the nodes at which a walk of k edges from a root ends
abbrev pub walk_ends : NumberedGraph → ℕ → ℕ → List ℕ
walk_ends g root zero = root ∷ []
walk_ends g root (suc k) =
    let before = walk_ends g root k in
    filter (λ n. list_any (λ s. is_among before s.node) (in_steps g n)) (nodes g)

-- a node's level: the least length of a walk from the root to it. A least walk passes no node twice, so it is below the number of nodes
abbrev pub level_of : NumberedGraph → ℕ → ℕ → Option ℕ
level_of g root n = find (λ k. is_among (walk_ends g root k) n) (nodes g)

-- no node has a level where no search is
abbrev pub no_levels : ℕ → Option ℕ
no_levels n = None

-- whether the second level is one farther than the first
abbrev pub is_next : Option ℕ → Option ℕ → Bool
is_next (Some j) (Some k) = nat_eq (suc j) k
is_next _ _ = false

-- whether a level is k
abbrev pub is_level : Option ℕ → ℕ → Bool
is_level (Some j) k = nat_eq j k
is_level None k = false

-- whether there is a node among some
abbrev pub is_some_node : List ℕ → Bool
is_some_node [] = false
is_some_node (n ∷ ns) = true

-- the nodes of each level from 0 upwards. A level behind an empty one is empty
abbrev pub levels : NumberedGraph → ℕ → List (List ℕ)
levels g root = filter is_some_node (map (λ k. filter (λ n. is_level (level_of g root n) k) (nodes g)) (nodes g))
