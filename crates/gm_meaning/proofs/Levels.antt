-- Nodes of a graph by their numbers, and the levels of a search.
use Rattle.std.proofs.Common.{◌≡◌, ◌∙◌, ◌<◌, ◌≤◌, ◌+◌, ℕ, zero, suc, List, [], ◌∷◌, ◌++◌, get_or, take, map, Some, None, Result, Ok, Err, ap, sym, subst, arith}
use Rattle.std.specs.Prelude.{All, IfOk, slice_get, slice_index_or, reverse, filter}
use Rattle.std.proofs.Math.Path.{fun_ext}
use Rattle.std.proofs.lemmas.List.{reverse-append, take_more}
use Rattle.std.proofs.lemmas.List.Elements.{All-filter, All-map}
use Rattle.std.proofs.lemmas.Option.{slice_get_within, get_or_from_slice_get}
use Rattle.gm_model.specs.Graphs.{NumberedGraph, node_count}
use Rattle.gm_semantics.specs.Levels.{numbers_from, nodes, level_of, levels, is_level, is_some_node}
use Rattle.gm_levels.specs.Views.{NodeLevels}
use Rattle.gm_meaning.specs.Searches.{AreNodes, AreLevels}

pub numbers-below : (k n bound : ℕ) → k + n ≤ bound → All (λ m. m < bound) (numbers_from k n)
numbers-below k zero bound le i d lt = absurd (omega arith)
numbers-below k (suc n) bound le zero d lt = omega arith
numbers-below k (suc n) bound le (suc i) d lt = numbers-below (suc k) n bound (omega arith) i d (omega arith)

pub nodes-known : (g : NumberedGraph) → AreNodes g (nodes g)
nodes-known g = numbers-below 0 (node_count g) (node_count g) (omega arith)

pub levels-known : (g : NumberedGraph) (root : ℕ) → All (AreNodes g) (levels g root)
levels-known g root =
    let row : ℕ → List ℕ = λ k. filter (λ n. is_level (level_of g root n) k) (nodes g) in
    All-filter is_some_node (AreNodes g) (map row (nodes g))
    (All-map (AreNodes g) row (nodes g) (λ i d lt. All-filter (λ n. is_level (level_of g root n) (get_or (nodes g) i d)) (λ n. n < node_count g) (nodes g) (nodes-known g)))

-- one more of a list's first elements, from the last one down
pub reverse-more : {A : Type 0} (xs : List A) (k : ℕ) (x : A) → slice_get xs k ≡ Some x → reverse (take (k + 1) xs) ≡ x ∷ reverse (take k xs)
reverse-more xs k x e =
    ap reverse (take_more xs k x (slice_get_within xs k x e) ∙ ap (λ y. take k xs ++ y ∷ []) (get_or_from_slice_get xs k x x e))
    ∙ reverse-append (take k xs) (x ∷ [])

-- the levels of a search, as they were found
pub are-levels : {E : Type 0} (g : NumberedGraph) (root : ℕ) (r : Result NodeLevels E) → IfOk r (λ found. (n : ℕ) → slice_index_or found.level n None ≡ level_of g root n) → IfOk r (λ found. found.lists ≡ levels g root) → IfOk r (AreLevels g root)
are-levels g root (Ok found) level lists = record {
  level = fun_ext (λ n. level n);
  lists = lists;
  known = subst (λ (ls : List (List ℕ)). All (AreNodes g) ls) (sym lists) (levels-known g root);
}
are-levels g root (Err e) level lists = tt
