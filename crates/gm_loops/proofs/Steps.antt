-- The nodes by their numbers, and steps one by one.
use Rattle.std.proofs.Common.{◌≡◌, ◌∙◌, ◌<◌, ◌+◌, ℕ, zero, suc, true, false, List, [], ◌∷◌, length, map, drop, slice_get, Some, Option, refl, ap, sym, arith}
use Rattle.std.specs.Prelude.{slice_index_or, unwrap_or}
use Rattle.std.proofs.lemmas.List.{length-map}
use Rattle.std.proofs.lemmas.Option.{unwrap_or-slice_get}
use Rattle.gm_value.specs.declared.values.Value.{Value}
use Rattle.gm_columns.specs.Columns.{cell_at}
use Rattle.gm_model.specs.Graphs.{NumberedGraph, Step, nodes_of, edges_of, node_count}
use Rattle.gm_semantics.specs.Levels.{numbers_from, nodes, node_steps}
use Rattle.gm_loops.specs.declared.ranges.Course.{Course}
use Rattle.gm_loops.specs.declared.ranges.Course.TheVariants.{Any, Above, Below}
use Rattle.gm_loops.specs.Ranges.{takes, taken_by}

pub length-numbers : (k n : ℕ) → length (numbers_from k n) ≡ n
length-numbers k zero = refl
length-numbers k (suc n) = ap suc (length-numbers (suc k) n)

pub length-node_steps : (g : NumberedGraph) → length (node_steps g) ≡ node_count g
length-node_steps g = length-map (nodes g) _ ∙ length-numbers 0 (node_count g)

-- the k-th of some numbers, as a step
numbered_step : ℕ → Step
numbered_step n = record { node = n; edge = 0 }

step-numbers : (k n i j : ℕ) → i < n → j ≡ k + i → slice_get (map numbered_step (numbers_from k n)) i ≡ Some (numbered_step j)
step-numbers k zero i j lt e = absurd (omega arith)
step-numbers k (suc n) zero j lt e = let same : k ≡ j = omega arith in ap (λ (m : ℕ). Some (numbered_step m)) same
step-numbers k (suc n) (suc i) j lt e = step-numbers (suc k) n i j (omega arith) (omega arith)

pub step-node_steps : (g : NumberedGraph) (k : ℕ) → k < node_count g → slice_get (node_steps g) k ≡ Some (record { node = k; edge = 0 })
unfolding numbered_step
step-node_steps g k lt = step-numbers 0 (node_count g) k k lt (omega arith)

-- a step from its node and its edge
pub step-parts : (steps : List Step) (k node edge : ℕ) → slice_get (nodes_of steps) k ≡ Some node → slice_get (edges_of steps) k ≡ Some edge → slice_get steps k ≡ Some (record { node = node; edge = edge })
step-parts [] k node edge p q = cc
step-parts (s ∷ steps) zero node edge p q =
    let n : s.node ≡ node = cc in
    let e : s.edge ≡ edge = cc in
    ap (λ (m : ℕ). Some (let t : Step = record { node = m; edge = s.edge } in t)) n ∙ ap (λ (m : ℕ). Some (let t : Step = record { node = node; edge = m } in t)) e
step-parts (s ∷ steps) (suc k) node edge p q = step-parts steps k node edge p q

-- what is left from a place on begins with what stands there
pub drop-got : {A : Type 0} (xs : List A) (k : ℕ) (x : A) → slice_get xs k ≡ Some x → drop k xs ≡ x ∷ drop (k + 1) xs
drop-got [] k x e = cc
drop-got (y ∷ ys) zero x e = let same : y ≡ x = cc in ap (λ z. z ∷ ys) same
drop-got (y ∷ ys) (suc k) x e =
    let next : suc k + 1 ≡ suc (k + 1) = omega arith in
    drop-got ys k x e ∙ ap (λ (m : ℕ). x ∷ drop m (y ∷ ys)) (sym next)

-- a course over a step and others
pub taken-step : (levels : ℕ → Option ℕ) (c : Course) (s : Step) (steps : List Step) → takes levels c s.node ≡ true → taken_by levels c (s ∷ steps) ≡ s ∷ taken_by levels c steps
taken-step levels Any s steps e = refl
taken-step levels (Above level) s steps e = rw e refl
taken-step levels (Below level) s steps e = rw e refl

pub left-step : (levels : ℕ → Option ℕ) (c : Course) (s : Step) (steps : List Step) → takes levels c s.node ≡ false → taken_by levels c (s ∷ steps) ≡ taken_by levels c steps
left-step levels Any s steps e = cc
left-step levels (Above level) s steps e = rw e refl
left-step levels (Below level) s steps e = rw e refl

-- the value of a cell, or another where there is none, is that of the cell's list of values
pub cell-or : (columns : List (List Value)) (column row : ℕ) (d : Value) → unwrap_or (cell_at columns column row) d ≡ slice_index_or (slice_index_or columns column []) row d
cell-or [] column row d = refl
cell-or (values ∷ columns) zero row d = unwrap_or-slice_get values row d
cell-or (values ∷ columns) (suc column) row d = cell-or columns column row d
