-- Stores keep their types under writes, and what leads to nodes leads to nodes of the graph.
use Rattle.std.proofs.Common.{◌≡◌, ◌<◌, ◌≤◌, ◌+◌, ℕ, zero, suc, Bool, true, false, cond, List, [], ◌∷◌, length, map, refl, sym, ap, subst, ◌∙◌, arith, pos, Option, Some, None, IfOk}
use Rattle.std.specs.Prelude.{◌&&◌, ◌||◌, filter, nat_eq, nat_lt, nat_le, IfSome, IsTrue, if◌then◌else◌}
use Rattle.std.specs.List.{enumerate_from}
use Rattle.std.proofs.lemmas.Bool.{both_ways, eqb-true, eqb-false, ne_eqb, ltb-true}
use Rattle.gm_base.specs.declared.places.Place.{Place}
use Rattle.gm_value.specs.declared.values.VType.{VType}
use Rattle.gm_value.specs.declared.values.VType.TheVariants as V
use Rattle.gm_value.specs.declared.values.Value.{Value}
use Rattle.gm_value.specs.declared.values.Value.TheVariants.{I32, I64, Flag, At}
use Rattle.gm_value.specs.Numbers.{fits}
use Rattle.gm_model.specs.Graphs.{NumberedGraph, Edge, Step, IsWithin, IsGraph, node_count, edge_count, out_steps, in_steps}
use Rattle.gm_ast.specs.declared.tree.Domain.{Domain}
use Rattle.gm_ast.specs.declared.tree.Domain.TheVariants.{Nodes, OutNbrs, InNbrs, UpNbrs, DownNbrs}
use Rattle.gm_ast.specs.declared.tree.Head.{Head}
use Rattle.gm_ast.specs.declared.tree.Sort.TheVariants as Sorts
use Rattle.gm_ast.specs.Ways.{is_in}
use Rattle.gm_semantics.specs.declared.slots.Slot.{Slot}
use Rattle.gm_semantics.specs.declared.slots.Slot.TheVariants.{Scalar, Node}
use Rattle.gm_semantics.specs.declared.slots.Write.{Write}
use Rattle.gm_semantics.specs.Levels.{numbers_from, nodes, node_steps, node_in, is_next}
use Rattle.gm_semantics.specs.Stores.{Store, write, write_all, fill, overlaid}
use Rattle.gm_semantics.specs.Expressions.{View, node_held, node_of, steps_of, steps_in}
use Rattle.gm_semantics.specs.Outcomes.{is_of}
use Rattle.gm_forms.specs.Typing.{type_at}
use Rattle.gm_typed_stores.specs.Values.{IsValue, AreValues, Each}
use Rattle.gm_typed_stores.specs.Tells.{TypeTable, holds, takes_nodes}
use Rattle.gm_typed_stores.specs.Stores.{IsTypedStore, IsGraphBelow, slot_type, IsTypedWrite}
use Rattle.gm_typed_stores.proofs.Eaches.{each-map, each-weaker, each-kept, each-all, each-numbered, if-value}
use Rattle.gm_typed_stores.proofs.Values.{same_type-true}

-- ---- nodes of a graph

numbers-below : (k n top : ℕ) → k + n ≤ top → Each (λ i. i < top) (numbers_from k n)
numbers-below k zero top h = tt
numbers-below k (suc n) top h = (omega arith, numbers-below (suc k) n top (omega arith))

pub nodes-within : (g : NumberedGraph) → Each (λ k. k < node_count g) (nodes g)
nodes-within g = numbers-below 0 (node_count g) (node_count g) (omega arith)

abbrev pub StepsWithin : NumberedGraph → List Step → Type 0
StepsWithin g steps = Each (λ s. s.node < node_count g) steps

node_steps-within : (g : NumberedGraph) → StepsWithin g (node_steps g)
node_steps-within g = each-map (λ (s : Step). s.node < node_count g) (λ (n : ℕ). record { node = n; edge = 0 }) (nodes g) (nodes-within g)

edges-within : (g : NumberedGraph) → IsGraph g → Each (λ (e : ℕ × Edge). IsWithin (node_count g) e.1) (enumerate_from 0 g.edges)
edges-within g is = each-numbered (IsWithin (node_count g)) 0 g.edges (each-all (IsWithin (node_count g)) g.edges is.within)

out-within : (g : NumberedGraph) (n : ℕ) → IsGraph g → StepsWithin g (out_steps g n)
out-within g n is =
    let P = λ (e : ℕ × Edge). IsWithin (node_count g) e.1 in
    let kept = each-kept P (λ (e : ℕ × Edge). nat_eq e.1.from n) (enumerate_from 0 g.edges) (edges-within g is) in
    each-map (λ (s : Step). s.node < node_count g) (λ (e : ℕ × Edge). record { node = e.1.to; edge = e.0 }) (filter (λ (e : ℕ × Edge). nat_eq e.1.from n) (enumerate_from 0 g.edges))
    (each-weaker P (λ (e : ℕ × Edge). e.1.to < node_count g) (filter (λ (e : ℕ × Edge). nat_eq e.1.from n) (enumerate_from 0 g.edges)) (λ e h. h.to_node) kept)

in-within : (g : NumberedGraph) (n : ℕ) → IsGraph g → StepsWithin g (in_steps g n)
in-within g n is =
    let P = λ (e : ℕ × Edge). IsWithin (node_count g) e.1 in
    let kept = each-kept P (λ (e : ℕ × Edge). nat_eq e.1.to n) (enumerate_from 0 g.edges) (edges-within g is) in
    each-map (λ (s : Step). s.node < node_count g) (λ (e : ℕ × Edge). record { node = e.1.from; edge = e.0 }) (filter (λ (e : ℕ × Edge). nat_eq e.1.to n) (enumerate_from 0 g.edges))
    (each-weaker P (λ (e : ℕ × Edge). e.1.from < node_count g) (filter (λ (e : ℕ × Edge). nat_eq e.1.to n) (enumerate_from 0 g.edges)) (λ e h. h.from_node) kept)

steps_of-within : (w : View) (d : Domain) (owner : Option ℕ) → IsGraph w.graph → StepsWithin w.graph (steps_of w d owner)
steps_of-within w Nodes owner is = node_steps-within w.graph
steps_of-within w OutNbrs None is = tt
steps_of-within w OutNbrs (Some n) is = out-within w.graph n is
steps_of-within w InNbrs None is = tt
steps_of-within w InNbrs (Some n) is = in-within w.graph n is
steps_of-within w UpNbrs None is = tt
steps_of-within w UpNbrs (Some n) is =
    each-kept (λ (s : Step). s.node < node_count w.graph) (λ (s : Step). is_next (w.levels s.node) (w.levels n)) (in_steps w.graph n) (in-within w.graph n is)
steps_of-within w DownNbrs None is = tt
steps_of-within w DownNbrs (Some n) is =
    each-kept (λ (s : Step). s.node < node_count w.graph) (λ (s : Step). is_next (w.levels n) (w.levels s.node)) (out_steps w.graph n) (out-within w.graph n is)

pub steps-within : (w : View) (head : Head) → IsGraph w.graph → StepsWithin w.graph (steps_in w head)
steps-within w head is = steps_of-within w head.domain (node_in w.graph (w.store.scalar head.owner)) is

node_in-within : (g : NumberedGraph) (v : Value) → IfSome (node_in g v) (λ n. n < node_count g)
node_in-within g (I32 z) = tt
node_in-within g (I64 z) = tt
node_in-within g (Flag b) = tt
node_in-within g (At None) = tt
node_in-within g (At (Some k)) = by (nat_lt k (node_count g)) refl
  where
    by : (b : Bool) → nat_lt k (node_count g) ≡ b → IfSome (if b then Some k else None) (λ n. n < node_count g)
    by true e = ltb-true k (node_count g) e
    by false e = tt

held-within : (w : View) (at : Place) (o : Option ℕ) → IfSome o (λ n. n < node_count w.graph) → IfOk (node_held w at o) (λ n. n < node_count w.graph)
held-within w at (Some n) h = h
held-within w at None h = tt

-- a variable through which something is read is at a node of the graph
pub node_of-within : (w : View) (x : ℕ) (at : Place) → IfOk (node_of w x at) (λ n. n < node_count w.graph)
node_of-within w x at = held-within w at (node_in w.graph (w.store.scalar x)) (node_in-within w.graph (w.store.scalar x))

length-kept : {A : Type 0} (f : A → Bool) (xs : List A) → length (filter f xs) ≤ length xs
length-kept f [] = omega arith
length-kept {A = A} f (x ∷ xs) = by (f x) (length-kept f xs)
  where
    by : (b : Bool) → length (filter f xs) ≤ length xs → length (cond b (x ∷ filter f xs) (filter f xs)) ≤ suc (length xs)
    by true h = omega arith
    by false h = omega arith

length-mapped : {A B : Type 0} (f : A → B) (xs : List A) → length (map f xs) ≡ length xs
length-mapped f [] = refl
length-mapped f (x ∷ xs) = ap suc (length-mapped f xs)

length-numbered : {A : Type 0} (n : ℕ) (xs : List A) → length (enumerate_from n xs) ≡ length xs
length-numbered n [] = refl
length-numbered n (x ∷ xs) = ap suc (length-numbered (n + 1) xs)

pub out-few : (g : NumberedGraph) (n : ℕ) → length (out_steps g n) ≤ edge_count g
out-few g n =
    let test = λ (e : ℕ × Edge). nat_eq e.1.from n in
    let step = λ (e : ℕ × Edge). (let s : Step = record { node = e.1.to; edge = e.0 } in s) in
    let kept = filter test (enumerate_from 0 g.edges) in
    let a : length (map step kept) ≡ length kept = length-mapped step kept in
    let b : length kept ≤ length (enumerate_from 0 g.edges) = length-kept test (enumerate_from 0 g.edges) in
    let c : length (enumerate_from 0 g.edges) ≡ length g.edges = length-numbered 0 g.edges in
    omega (arith, a, b, c)

pub in-few : (g : NumberedGraph) (n : ℕ) → length (in_steps g n) ≤ edge_count g
in-few g n =
    let test = λ (e : ℕ × Edge). nat_eq e.1.to n in
    let step = λ (e : ℕ × Edge). (let s : Step = record { node = e.1.from; edge = e.0 } in s) in
    let kept = filter test (enumerate_from 0 g.edges) in
    let a : length (map step kept) ≡ length kept = length-mapped step kept in
    let b : length kept ≤ length (enumerate_from 0 g.edges) = length-kept test (enumerate_from 0 g.edges) in
    let c : length (enumerate_from 0 g.edges) ≡ length g.edges = length-numbered 0 g.edges in
    omega (arith, a, b, c)

pub fits-int : (n : ℕ) → n ≤ 2147483647 → IsTrue (fits V.I32 (pos n))
fits-int n h = grind arith

fits-node : (n : ℕ) → n < 2147483647 → IsTrue (fits V.Node (pos n))
fits-node n h = grind arith

-- a node of a graph is a value
pub node-value : (limit : ℕ) (g : NumberedGraph) (n : ℕ) → IsGraphBelow limit g → n < node_count g → IsValue limit V.Node (At (Some n))
node-value limit g n is h =
    let few : node_count g ≤ 2147483647 = is.graph.few_nodes in
    let low : node_count g ≤ limit = is.nodes in
    record { of_type = (refl, fits-node n (omega arith)); below = omega arith }

pub count-value : (limit : ℕ) (n : ℕ) → n ≤ 2147483647 → IsValue limit V.I32 (I32 (pos n))
count-value limit n h = record { of_type = (refl, fits-int n h); below = tt }

-- ---- stores

module _ (table : TypeTable) where
  -- what holds a value inside some iterators does so inside one more, which does too
  pub holds-more : (its : List ℕ) (i x : ℕ) → holds table its x ≡ true → holds table (i ∷ its) x ≡ true
  holds-more its i x h = by (is_of table.declarations Sorts.Scalar x) (nat_le table.inputs x) (nat_eq x i) (is_in its x) h
    where
      by : (a b c d : Bool) → a || (b || d) ≡ true → a || (b || (c || d)) ≡ true
      by true b c d h = refl
      by false true c d h = refl
      by false false true d h = refl
      by false false false d h = h

  holds-fewer : (its : List ℕ) (i x : ℕ) → nat_eq x i ≡ false → holds table (i ∷ its) x ≡ true → holds table its x ≡ true
  holds-fewer its i x e h = by (is_of table.declarations Sorts.Scalar x) (nat_le table.inputs x) (nat_eq x i) (is_in its x) e h
    where
      by : (a b c d : Bool) → c ≡ false → a || (b || (c || d)) ≡ true → a || (b || d) ≡ true
      by true b c d e h = refl
      by false true c d e h = refl
      by false false true d e h = absurd (both_ways true e refl)
      by false false false d e h = h

  pub holds-scalar : (its : List ℕ) (x : ℕ) → is_of table.declarations Sorts.Scalar x ≡ true → holds table its x ≡ true
  holds-scalar its x h = ap (λ b. b || (nat_le table.inputs x || is_in its x)) h

  pub weaken : (its : List ℕ) (i : ℕ) (s : Store) → IsTypedStore table (i ∷ its) s → IsTypedStore table its s
  weaken its i s h = record { scalar = λ x e. h.scalar x (holds-more its i x e); node = h.node; edge = h.edge }

  -- a store in which an iterator is at a node
  pub enter : (its : List ℕ) (i n : ℕ) (g : NumberedGraph) (s : Store) → IsGraphBelow table.limit g → takes_nodes table i ≡ true → n < node_count g → IsTypedStore table its s → IsTypedStore table (i ∷ its) (write s (Scalar i) (At (Some n)))
  enter its i n g s is takes low h = record { scalar = at; node = h.node; edge = h.edge }
    where
      at : (x : ℕ) → holds table (i ∷ its) x ≡ true → IsValue table.limit (type_at table.declarations x) (if nat_eq i x then At (Some n) else s.scalar x)
      at x e =
          if-value (IsValue table.limit (type_at table.declarations x)) (nat_eq i x) (At (Some n)) (s.scalar x)
          (λ same. subst (λ (t : VType). IsValue table.limit t (At (Some n))) (same_type-true V.Node (type_at table.declarations i) takes ∙ ap (type_at table.declarations) (eqb-true i x same)) (node-value table.limit g n is low))
          (λ other. h.scalar x (holds-fewer its i x (ne_eqb x i (λ q. eqb-false i x other (sym q))) e))

  -- a store after a write of a value of the slot's type
  pub write-value : (its : List ℕ) (s : Store) (slot : Slot) (v : Value) → IsValue table.limit (slot_type table slot) v → IsTypedStore table its s → IsTypedStore table its (write s slot v)
  write-value its s (Scalar x) v is h = record { scalar = at; node = h.node; edge = h.edge }
    where
      at : (y : ℕ) → holds table its y ≡ true → IsValue table.limit (type_at table.declarations y) (if nat_eq x y then v else s.scalar y)
      at y e =
          if-value (IsValue table.limit (type_at table.declarations y)) (nat_eq x y) v (s.scalar y)
          (λ same. subst (λ (z : ℕ). IsValue table.limit (type_at table.declarations z) v) (eqb-true x y same) is) (λ other. h.scalar y e)
  write-value its s (Node p n) v is h = record { scalar = h.scalar; node = at; edge = h.edge }
    where
      same-property : (q m : ℕ) (b : Bool) → nat_eq p q ≡ b → b && nat_eq n m ≡ true → p ≡ q
      same-property q m true e same = eqb-true p q e
      same-property q m false e same = absurd (both_ways false refl same)

      at : (q m : ℕ) → is_of table.declarations Sorts.NodeProperty q ≡ true → IsValue table.limit (type_at table.declarations q) (if nat_eq p q && nat_eq n m then v else s.node q m)
      at q m e =
          if-value (IsValue table.limit (type_at table.declarations q)) (nat_eq p q && nat_eq n m) v (s.node q m)
          (λ same. subst (λ (z : ℕ). IsValue table.limit (type_at table.declarations z) v) (same-property q m (nat_eq p q) refl same) is) (λ other. h.node q m e)

  pub write_all-values : (its : List ℕ) (s : Store) (slots : List Slot) (vs : List Value) → AreValues table.limit (map (slot_type table) slots) vs → IsTypedStore table its s → IsTypedStore table its (write_all s slots vs)
  write_all-values its s [] [] is h = h
  write_all-values its s [] (v ∷ vs) is h = absurd is
  write_all-values its s (x ∷ slots) [] is h = absurd is
  write_all-values its s (x ∷ slots) (v ∷ vs) is h = write_all-values its (write s x v) slots vs is.1 (write-value its s x v is.0 h)

  pub fill-value : (its : List ℕ) (s : Store) (p : ℕ) (v : Value) → IsValue table.limit (type_at table.declarations p) v → IsTypedStore table its s → IsTypedStore table its (fill s p v)
  fill-value its s p v is h = record { scalar = h.scalar; node = at; edge = h.edge }
    where
      at : (q m : ℕ) → is_of table.declarations Sorts.NodeProperty q ≡ true → IsValue table.limit (type_at table.declarations q) (if nat_eq p q then v else s.node q m)
      at q m e =
          if-value (IsValue table.limit (type_at table.declarations q)) (nat_eq p q) v (s.node q m)
          (λ same. subst (λ (z : ℕ). IsValue table.limit (type_at table.declarations z) v) (eqb-true p q same) is) (λ other. h.node q m e)

  pub overlaid-values : (its : List ℕ) (s : Store) (ws : List Write) → Each (IsTypedWrite table) ws → IsTypedStore table its s → IsTypedStore table its (overlaid s ws)
  overlaid-values its s [] each h = h
  overlaid-values its s (w ∷ ws) each h = overlaid-values its (write s w.slot w.value) ws each.1 (write-value its s w.slot w.value each.0 h)
