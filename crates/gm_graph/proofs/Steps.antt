-- The steps of a node, found by the places of its edges among the grouped ones.
use Rattle.std.proofs.Common.{◌≡◌, ◌≢◌, ◌<◌, ◌+◌, inl, inr, ℕ, zero, suc, nat_eq, List, [], ◌∷◌, map, filter, length, take, get_or, Option, Some, refl, sym, ◌∙◌, ap, arith}
use Rattle.std.specs.Prelude.{slice_index, slice_get}
use Rattle.std.specs.List.{enumerate_from}
use Rattle.std.specs.Option.{option_map}
use Rattle.std.proofs.lemmas.Bool.{cases_eq, eq-eqb, ne_eqb}
use Rattle.std.proofs.lemmas.Option.{slice_get-map}
use Rattle.std.proofs.lemmas.List.FromFn.{get_or-range_with_len}
use Rattle.std.proofs.lemmas.List.Sums.{sum_by-cons}
use Rattle.gm_columns.specs.Columns.{cell_at}
use Rattle.gm_model.specs.Graphs.{Edge, NumberedGraph, Step, nodes_of, edges_of, value_along}
use Rattle.gm_graph.specs.declared.groups.Groups.{Groups}
use Rattle.gm_graph.specs.Rows.{edge_list, count_of, count_below, place_of, lines_of, AreStarts, IsGroupedWith}
use Rattle.gm_graph.proofs.Grouping.{same, same-self, same-other, place_of-within, count_below-step}

-- steps along the edges from a node, and against the edges to it, with the edges numbered from a base
abbrev pub steps_out : ℕ → ℕ → List Edge → List Step
steps_out base n edges = map (λ e. record { node = e.1.to; edge = e.0 }) (filter (λ e. nat_eq e.1.from n) (enumerate_from base edges))

abbrev pub steps_in : ℕ → ℕ → List Edge → List Step
steps_in base n edges = map (λ e. record { node = e.1.from; edge = e.0 }) (filter (λ e. nat_eq e.1.to n) (enumerate_from base edges))

-- the steps against the edges are those along the turned edges
pub steps-turned : (base n : ℕ) (ss ts : List ℕ) → steps_in base n (edge_list ss ts) ≡ steps_out base n (edge_list ts ss)
steps-turned base n [] [] = refl
steps-turned base n [] (t ∷ ts) = refl
steps-turned base n (s ∷ ss) [] = refl
steps-turned base n (s ∷ ss) (t ∷ ts) =
    elim (cases_eq t n) [
      | inl is ↦ rw (eq-eqb t n is) (ap (λ l. record { node = s; edge = base } ∷ l) (steps-turned (base + 1) n ss ts))
      | inr differs ↦ rw (ne_eqb t n differs) (steps-turned (base + 1) n ss ts)
    ]

-- the first edge gives a step where its key is the node
steps-first : (base n s t : ℕ) (ss ts : List ℕ) → s ≡ n → steps_out base n (edge_list (s ∷ ss) (t ∷ ts)) ≡ record { node = t; edge = base } ∷ steps_out (base + 1) n (edge_list ss ts)
steps-first base n s t ss ts is = rw (eq-eqb s n is)

steps-other : (base n s t : ℕ) (ss ts : List ℕ) → s ≢ n → steps_out base n (edge_list (s ∷ ss) (t ∷ ts)) ≡ steps_out (base + 1) n (edge_list ss ts)
steps-other base n s t ss ts differs = rw (ne_eqb s n differs)

-- there is a step for each key that is the node
pub length-steps : (base n : ℕ) (ss ts : List ℕ) → length ss ≡ length ts → length (steps_out base n (edge_list ss ts)) ≡ count_of n ss
length-steps base n [] ts long = refl
length-steps base n (s ∷ ss) [] long = absurd (omega arith)
length-steps base n (s ∷ ss) (t ∷ ts) long =
    let rest : length (steps_out (base + 1) n (edge_list ss ts)) ≡ count_of n ss = length-steps (base + 1) n ss ts (omega arith) in
    elim (cases_eq s n) [
      | inl is ↦
          (let steps = ap length (steps-first base n s t ss ts is) in
          let more : length (steps_out (base + 1) n (edge_list ss ts)) + 1 ≡ same n s + count_of n ss = omega (arith, same-self n s is) in
          steps ∙ (omega arith ∙ (more ∙ sym (sum_by-cons (same n) s ss))))
      | inr differs ↦
          (let steps = ap length (steps-other base n s t ss ts differs) in
          let more : length (steps_out (base + 1) n (edge_list ss ts)) ≡ same n s + count_of n ss = omega (arith, same-other n s differs) in
          steps ∙ (more ∙ sym (sum_by-cons (same n) s ss)))
    ]

-- the k-th step of a node, and the place of its edge
pub record IsStepAt (base n k : ℕ) (ss ts : List ℕ) (steps : List Step) : Type 0 where
  pub place : ℕ
  pub within : place < length ss
  pub key : get_or ss place 0 ≡ n
  pub rank : count_of n (take place ss) ≡ k
  pub step : slice_get steps k ≡ Some (record { node = get_or ts place 0; edge = base + place })

abbrev step_to : ℕ → ℕ → Option Step
step_to n e = Some (record { node = n; edge = e })

later : (base n k s t : ℕ) (ss ts : List ℕ) (steps : List Step) (more : List Step) (m : ℕ) → same n s + k ≡ m → slice_get more m ≡ slice_get steps k → IsStepAt (base + 1) n k ss ts steps → IsStepAt base n m (s ∷ ss) (t ∷ ts) more
later base n k s t ss ts steps more m count found at = record {
  place = suc at.place;
  within = omega (arith, at.within);
  key = at.key;
  rank = sum_by-cons (same n) s (take at.place ss) ∙ omega (arith, at.rank);
  step = found ∙ (at.step ∙ ap (step_to (get_or ts at.place 0)) (omega arith));
}

pub step-at : (base n k : ℕ) (ss ts : List ℕ) → length ss ≡ length ts → k < count_of n ss → IsStepAt base n k ss ts (steps_out base n (edge_list ss ts))
step-at base n k [] ts long some = absurd (omega arith)
step-at base n k (s ∷ ss) [] long some = absurd (omega arith)
step-at base n zero (s ∷ ss) (t ∷ ts) long some =
    elim (cases_eq s n) [
      | inl is ↦ rw (eq-eqb s n is) (record {
        place = 0;
        within = omega arith;
        key = is;
        rank = refl;
        step = ap (step_to t) (omega arith);
      })
      | inr differs ↦
          (let none = same-other n s differs in
          let cons = sum_by-cons (same n) s ss in
          rw (ne_eqb s n differs) (later base n 0 s t ss ts _ _ 0 (omega arith) refl (step-at (base + 1) n 0 ss ts (omega arith) (omega arith))))
    ]
step-at base n (suc k) (s ∷ ss) (t ∷ ts) long some =
    elim (cases_eq s n) [
      | inl is ↦
          (let one = same-self n s is in
          let cons = sum_by-cons (same n) s ss in
          rw (eq-eqb s n is) (later base n k s t ss ts _ _ (suc k) (omega arith) refl (step-at (base + 1) n k ss ts (omega arith) (omega arith))))
      | inr differs ↦
          (let none = same-other n s differs in
          let cons = sum_by-cons (same n) s ss in
          rw (ne_eqb s n differs) (later base n (suc k) s t ss ts _ _ (suc k) (omega arith) refl (step-at (base + 1) n (suc k) ss ts (omega arith) (omega arith))))
    ]

-- a group's size, and its k-th edge
pub group-size : (nodes n : ℕ) (keys : List ℕ) (groups : Groups) → AreStarts nodes keys groups.starts.items → n < nodes → slice_index groups.starts.items (n + 1) ≡ slice_index groups.starts.items n + count_of n keys
group-size nodes n keys groups held within =
    omega (arith, held.at n (omega arith), held.at (n + 1) (omega arith), count_below-step n keys)

-- each line is its own number
pub line-at : (count e : ℕ) → e < count → slice_index (lines_of count) e ≡ e
line-at count e h =
    let none_more : 0 + e ≡ e = omega arith in
    get_or-range_with_len 0 count e 0 h ∙ none_more

-- where the k-th step of a node has its edge, and the node at the other end
pub record IsEdgeAt (n k : ℕ) (ss ts numbers : List ℕ) (groups : Groups) (steps : List Step) : Type 0 where
  pub placed : slice_index groups.starts.items n + k < length ss
  pub edge : ℕ
  pub here : place_of ss edge ≡ slice_index groups.starts.items n + k
  pub is : slice_index groups.edges.items (slice_index groups.starts.items n + k) ≡ slice_index numbers edge
  pub other : slice_index groups.nodes.items (slice_index groups.starts.items n + k) ≡ get_or ts edge 0
  pub within : edge < length ss
  pub step : slice_get steps k ≡ Some (record { node = get_or ts edge 0; edge = edge })

pub edge-at : (nodes n k : ℕ) (ss ts numbers : List ℕ) (groups : Groups) → IsGroupedWith nodes ss ts numbers groups → length ss ≡ length ts → n < nodes → k < length (steps_out 0 n (edge_list ss ts)) → IsEdgeAt n k ss ts numbers groups (steps_out 0 n (edge_list ss ts))
edge-at nodes n k ss ts numbers groups held long within some =
    let at : IsStepAt 0 n k ss ts (steps_out 0 n (edge_list ss ts)) = step-at 0 n k ss ts long (omega (arith, length-steps 0 n ss ts long)) in
    let start = held.starts.at n (omega arith) in
    let moved : place_of ss at.place ≡ count_below n ss + count_of n (take at.place ss) = ap (λ m. count_below m ss + count_of m (take at.place ss)) at.key in
    let here : place_of ss at.place ≡ slice_index groups.starts.items n + k = moved ∙ omega (arith, at.rank) in
    record {
      placed = omega (arith, place_of-within ss at.place at.within);
      edge = at.place;
      here = here;
      is = ap (λ p. slice_index groups.edges.items p) (sym here) ∙ held.edges_row.at at.place at.within;
      other = ap (λ p. slice_index groups.nodes.items p) (sym here) ∙ held.nodes_row.at at.place at.within;
      within = at.within;
      step = at.step ∙ ap (step_to (get_or ts at.place 0)) (omega arith);
    }

-- the edge and the node of a step
pub edge-of : (steps : List Step) (k n e : ℕ) → slice_get steps k ≡ Some (record { node = n; edge = e }) → slice_get (edges_of steps) k ≡ Some e
edge-of steps k n e is = slice_get-map (λ s. s.edge) steps k ∙ ap (option_map (λ s. s.edge)) is

pub node-of : (steps : List Step) (k n e : ℕ) → slice_get steps k ≡ Some (record { node = n; edge = e }) → slice_get (nodes_of steps) k ≡ Some n
node-of steps k n e is = slice_get-map (λ s. s.node) steps k ∙ ap (option_map (λ s. s.node)) is

-- the value along a step is that of its edge
pub along-edge : (g : NumberedGraph) (steps : List Step) (k column e : ℕ) → slice_get (edges_of steps) k ≡ Some e → value_along g steps k column ≡ cell_at g.edge_columns column e
along-edge g [] k column e is = cc
along-edge g (s ∷ steps) zero column e is = let same : s.edge ≡ e = cc in ap (cell_at g.edge_columns column) same
along-edge g (s ∷ steps) (suc k) column e is = along-edge g steps k column e is
