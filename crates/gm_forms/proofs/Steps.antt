-- Steps lead to nodes of the graph.
use Rattle.std.proofs.Common.{◌≡◌, ◌<◌, ◌+◌, arith, ℕ, zero, suc, Bool, true, false, cond, List, [], ◌∷◌, map, filter, length, refl, sym, subst, Option, Some, None, ⊎_elim, inl, inr}
use Rattle.std.specs.Prelude.{nat_eq, All}
use Rattle.std.specs.List.{enumerate_from}
use Rattle.gm_value.specs.Bag.{IsIn}
use Rattle.gm_model.specs.Graphs.{NumberedGraph, Edge, Step, IsWithin, IsGraph, node_count, out_steps, in_steps}
use Rattle.gm_ast.specs.declared.tree.Domain.{Domain}
use Rattle.gm_ast.specs.declared.tree.Domain.TheVariants as D
use Rattle.gm_semantics.specs.Levels.{numbers_from, nodes}
use Rattle.gm_semantics.specs.Expressions.{View, steps_of}

-- the nodes of a graph are below their count
numbers-below : (x k n : ℕ) → IsIn x (numbers_from k n) → x < n + k
numbers-below x k zero i = absurd i
numbers-below x k (suc n) i =
    ⊎_elim (λ (e : x ≡ k). omega arith) (λ r. let b = numbers-below x (suc k) n r in omega arith) i

pub nodes-below : (g : NumberedGraph) (x : ℕ) → IsIn x (nodes g) → x < node_count g
nodes-below g x i = let b = numbers-below x 0 (node_count g) i in omega arith

-- edges of a graph are between its nodes
pub all-within : (m j : ℕ) (es : List Edge) → All (IsWithin m) es → (e : ℕ × Edge) → IsIn e (enumerate_from j es) → IsWithin m e.1
all-within m j [] h e i = absurd i
all-within m j (x ∷ es) h e i =
    ⊎_elim
    (λ (is : e ≡ (j, x)). let first : 0 < length (x ∷ es) = omega arith in subst (λ (z : ℕ × Edge). IsWithin m z.1) (sym is) (h 0 x first))
    (λ r. all-within m (j + 1) es (λ k d less. let more : suc k < length (x ∷ es) = omega (arith, less) in h (suc k) d more) e r) i

-- members of a map and of a filter
in-map : {A B : Type 0} (f : A → B) (y : B) (xs : List A) → IsIn y (map f xs) → (x : A) × IsIn x xs × (y ≡ f x)
in-map f y [] i = absurd i
in-map {A} {B} f y (x ∷ xs) i =
    ⊎_elim
    (λ (e : y ≡ f x). let r : (z : A) × IsIn z (x ∷ xs) × (y ≡ f z) = (x, inl refl, e) in r)
    (λ j. let r = in-map f y xs j in (r.0, inr r.1, r.2)) i

in-filter : {A : Type 0} (p : A → Bool) (y : A) (xs : List A) → IsIn y (filter p xs) → IsIn y xs
in-filter p y [] i = absurd i
in-filter p y (x ∷ xs) i = by (p x) (in-filter p y xs) i
  where
    by : (b : Bool) → (IsIn y (filter p xs) → IsIn y xs) → IsIn y (cond b (x ∷ filter p xs) (filter p xs)) → IsIn y (x ∷ xs)
    by true h i = ⊎_elim (λ (e : y ≡ x). inl e) (λ r. inr (h r)) i
    by false h i = inr (h i)

-- steps lead to nodes of the graph
out-within : (g : NumberedGraph) → IsGraph g → (n : ℕ) (e : Step) → IsIn e (out_steps g n) → e.node < node_count g
out-within g is n e i =
    let r = in-map (λ (d : ℕ × Edge). let s : Step = record { node = d.1.to; edge = d.0 } in s) e (filter (λ (d : ℕ × Edge). nat_eq d.1.from n) (enumerate_from 0 g.edges)) i in
    let w = all-within (node_count g) 0 g.edges is.within r.0 (in-filter (λ (d : ℕ × Edge). nat_eq d.1.from n) r.0 (enumerate_from 0 g.edges) r.1) in
    subst (λ (s : Step). s.node < node_count g) (sym r.2) w.to_node

in-within : (g : NumberedGraph) → IsGraph g → (n : ℕ) (e : Step) → IsIn e (in_steps g n) → e.node < node_count g
in-within g is n e i =
    let r = in-map (λ (d : ℕ × Edge). let s : Step = record { node = d.1.from; edge = d.0 } in s) e (filter (λ (d : ℕ × Edge). nat_eq d.1.to n) (enumerate_from 0 g.edges)) i in
    let w = all-within (node_count g) 0 g.edges is.within r.0 (in-filter (λ (d : ℕ × Edge). nat_eq d.1.to n) r.0 (enumerate_from 0 g.edges) r.1) in
    subst (λ (s : Step). s.node < node_count g) (sym r.2) w.from_node

pub step-within : (w : View) → IsGraph w.graph → (d : Domain) (o : Option ℕ) (e : Step) → IsIn e (steps_of w d o) → e.node < node_count w.graph
step-within w is D.Nodes o e i =
    let r = in-map (λ (n : ℕ). let s : Step = record { node = n; edge = 0 } in s) e (nodes w.graph) i in
    subst (λ (s : Step). s.node < node_count w.graph) (sym r.2) (nodes-below w.graph r.0 r.1)
step-within w is D.OutNbrs None e i = absurd i
step-within w is D.OutNbrs (Some n) e i = out-within w.graph is n e i
step-within w is D.InNbrs None e i = absurd i
step-within w is D.InNbrs (Some n) e i = in-within w.graph is n e i
step-within w is D.UpNbrs None e i = absurd i
step-within w is D.UpNbrs (Some n) e i = in-within w.graph is n e (in-filter _ e (in_steps w.graph n) i)
step-within w is D.DownNbrs None e i = absurd i
step-within w is D.DownNbrs (Some n) e i = out-within w.graph is n e (in-filter _ e (out_steps w.graph n) i)
