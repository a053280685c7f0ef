-- No edge leads from what is no node.
use Rattle.std.proofs.Common.{◌≡◌, ◌∙◌, ◌≤◌, ◌<◌, ◌+◌, ◌≢◌, ℕ, suc, pos, List, [], ◌∷◌, length, map, get_or, refl, ap, arith}
use Rattle.std.specs.Prelude.{All, nat_eq, cond, filter}
use Rattle.std.specs.List.{enumerate_from}
use Rattle.std.proofs.lemmas.Bool.{ne_eqb}
use Rattle.gm_value.specs.declared.values.Value.TheVariants.{I32}
use Rattle.gm_model.specs.Graphs.{NumberedGraph, Edge, Step, IsWithin, IsGraph, node_count}
use Rattle.gm_batches.specs.Degrees.{degree}

abbrev from-node : ℕ → ℕ → List Edge → List (ℕ × Edge)
from-node n k edges = filter (λ e. nat_eq e.1.from n) (enumerate_from k edges)

none-from : (nodes n k : ℕ) (edges : List Edge) → nodes ≤ n → All (IsWithin nodes) edges → from-node n k edges ≡ []
none-from nodes n k [] past within = refl
none-from nodes n k (e ∷ edges) past within =
    ap (λ b. cond b ((k, e) ∷ from-node n (k + 1) edges) (from-node n (k + 1) edges)) (ne_eqb e.from n other)
    ∙ none-from nodes n (k + 1) edges past (λ i d lt. within (suc i) d (omega (arith, lt)))
  where
    below : e.from < nodes
    below = (within 0 e (omega arith)).from_node

    other : e.from ≢ n
    other is = absurd (omega (arith, below, past, is))

pub no-degree : (g : NumberedGraph) (n : ℕ) → IsGraph g → node_count g ≤ n → degree g n ≡ pos 0
no-degree g n known past =
    ap (λ es. pos (length (map (λ (e : ℕ × Edge). let s : Step = record { node = e.1.to; edge = e.0 } in s) es)))
    (none-from (node_count g) n 0 g.edges past known.within)

-- the degrees of the nodes of rows
pub degree-rows : (g : NumberedGraph) (nodes rs : List ℕ) → map (λ z. I32 z) (map (degree g) (map (λ row. get_or nodes row 0) rs)) ≡ map (λ row. I32 (degree g (get_or nodes row 0))) rs
degree-rows g nodes [] = refl
degree-rows g nodes (row ∷ rs) = ap (λ vs. I32 (degree g (get_or nodes row 0)) ∷ vs) (degree-rows g nodes rs)
