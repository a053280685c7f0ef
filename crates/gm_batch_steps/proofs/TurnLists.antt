-- Turns as rows of numbers, and the values of expressions in each.
use Rattle.std.proofs.Common.{◌≡◌, ◌∙◌, ◌<◌, ◌≤◌, ◌+◌, ℕ, zero, suc, Bool, true, false, List, [], ◌∷◌, ◌++◌, Option, Some, None, refl, ap, sym, subst, map, length, replicate, take, get_or, arith, append_assoc, length-append, if◌then◌else◌, ◌&&◌}
use Rattle.std.specs.Prelude.{Result, Ok, Err, All, IfOk, IfSome, nat_lt, slice_get}
use Rattle.std.specs.Option.{option_map}
use Rattle.std.specs.List.{AllZip}
use Rattle.std.proofs.lemmas.Bool.{and_parts, false≢true, lt-ltb, ltb-false}
use Rattle.std.proofs.lemmas.Grind.{flat_map-append, replicate_next}
use Rattle.std.proofs.lemmas.List.{append-nil, length-map, length-replicate, map-append, take_all, take_more}
use Rattle.std.proofs.lemmas.Option.{same_Some}
use Rattle.std.proofs.lemmas.List.Elements.{All-append, All-cons, All-head, All-nil, All-tail}
use Rattle.gm_value.specs.declared.values.Value.{Value}
use Rattle.gm_value.specs.declared.values.Value.TheVariants.{At}
use Rattle.gm_value.specs.Operations.{is_true}
use Rattle.gm_columns.specs.Cells.{node_in}
use Rattle.gm_columns.specs.Columns.{IsStorable, TypedRow}
use Rattle.gm_model.specs.Graphs.{NumberedGraph, Step, edges_of, nodes_of, out_steps}
use Rattle.gm_graph.specs.Walks.{edge_at}
use Rattle.gm_image.specs.Term as T
use Rattle.gm_image.specs.Term.{Term}
use Rattle.gm_kernels.specs.Pointwise.{before, held}
use Rattle.gm_machine.specs.Expressions.{View, value, edge_value_at, node_with, live, unary_value, binary_value, place_of}
use Rattle.gm_value.specs.Numbers.{number_of}
use Rattle.gm_machine.specs.Faults.{then_go}
use Rattle.gm_batches.specs.ValuesIn.{unless_fault, values_in}
use Rattle.gm_batches.proofs.OperandLaws.{rows_of_values}
use Rattle.gm_batch_steps.specs.declared.batch_states.BatchContext.{BatchContext}
use Rattle.gm_batch_steps.specs.declared.batch_states.BatchState.{BatchState}
use Rattle.gm_batch_steps.specs.declared.turns.Turns.{Turns}
use Rattle.gm_batch_steps.specs.BatchStates.{AreDistinct, view_in}
use Rattle.gm_batch_steps.specs.Turns.{AreTurns, Turn, edges_at, has_edges, sees_own, turn_list, turn_view, turns_in, turns_of}
use Rattle.gm_batch_steps.proofs.BatchLaws.{map-map}
use Rattle.gm_batch_steps.proofs.RowLemmas.{row-values, zip-at}

-- turns put one behind another
turns-append : (rows ks ks' ns ns' es es' : List ℕ) → length ns ≡ length ks → length es ≡ length ks
    → turn_list rows (ks ++ ks') (ns ++ ns') (es ++ es') ≡ turn_list rows ks ns es ++ turn_list rows ks' ns' es'
turns-append rows [] ks' [] ns' [] es' e f = refl
turns-append rows [] ks' (n ∷ ns) ns' es es' e f = absurd (omega (arith, e))
turns-append rows [] ks' [] ns' (d ∷ es) es' e f = absurd (omega (arith, f))
turns-append rows (k ∷ ks) ks' [] ns' es es' e f = absurd (omega (arith, e))
turns-append rows (k ∷ ks) ks' (n ∷ ns) ns' [] es' e f = absurd (omega (arith, f))
turns-append rows (k ∷ ks) ks' (n ∷ ns) ns' (d ∷ es) es' e f =
    ap (λ l. record { row = get_or rows k 0; step = record { node = n; edge = d } } ∷ l) (turns-append rows ks ks' ns ns' es es' (omega (arith, e)) (omega (arith, f)))

-- the turns of one row
turns-along : (rows : List ℕ) (k : ℕ) (es : List Step) → turn_list rows (replicate (length es) k) (nodes_of es) (edges_of es) ≡ map (λ e. record { row = get_or rows k 0; step = e }) es
turns-along rows k [] = refl
turns-along rows k (e ∷ es) = ap (λ l. record { row = get_or rows k 0; step = e } ∷ l) (turns-along rows k es)

-- the turns of one more row
pub turns-more : (c : BatchContext) (rows ks ks' ns ns' es es' : List ℕ) (k : ℕ) → k < length rows → length ns ≡ length ks → length es ≡ length ks
    → ks' ≡ ks ++ replicate (length (out_steps c.graph.now (get_or c.nodes.now (get_or rows k 0) 0))) k
    → ns' ≡ ns ++ nodes_of (out_steps c.graph.now (get_or c.nodes.now (get_or rows k 0) 0))
    → es' ≡ es ++ edges_of (out_steps c.graph.now (get_or c.nodes.now (get_or rows k 0) 0))
    → turn_list rows ks ns es ≡ turns_of c (take k rows)
    → turn_list rows ks' ns' es' ≡ turns_of c (take (k + 1) rows)
turns-more c rows ks ks' ns ns' es es' k lt e f a b d is =
    let steps : List Step = out_steps c.graph.now (get_or c.nodes.now (get_or rows k 0) 0) in
    (λ i. turn_list rows (a i) (b i) (d i))
    ∙ turns-append rows ks (replicate (length steps) k) ns (nodes_of steps) es (edges_of steps) e f
    ∙ (λ i. is i ++ turns-along rows k steps i)
    ∙ ap (λ l. turns_of c (take k rows) ++ l) (sym (append-nil (map (λ e. record { row = get_or rows k 0; step = e }) steps)))
    ∙ sym (flat_map-append (λ row. map (λ e. let t : Turn = record { row = row; step = e } in t) (out_steps c.graph.now (get_or c.nodes.now row 0))) (take k rows) (get_or rows k 0 ∷ []))
    ∙ ap (turns_of c) (sym (take_more rows k 0 lt))

-- rows of which no edges lead away have no turns
none-there : {A : Type 0} (xs : List A) → nat_lt 0 (length xs) ≡ false → xs ≡ []
none-there [] e = refl
none-there (x ∷ xs) e = absurd (omega (arith, ltb-false 0 (length (x ∷ xs)) e))

held-row : (c : BatchContext) (r : ℕ) (rows : List ℕ) → turns_of c (held (map (has_edges c) rows) rows) ≡ turns_of c rows → (b : Bool) → has_edges c r ≡ b
    → turns_of c (held (b ∷ map (has_edges c) rows) (r ∷ rows)) ≡ turns_of c (r ∷ rows)
held-row c r rows rest true e = ap (λ l. map (λ e. let t : Turn = record { row = r; step = e } in t) (out_steps c.graph.now (get_or c.nodes.now r 0)) ++ l) rest
held-row c r rows rest false e =
    rest
    ∙ ap (λ l. map (λ e. let t : Turn = record { row = r; step = e } in t) l ++ turns_of c rows) (sym (none-there (out_steps c.graph.now (get_or c.nodes.now r 0)) e))

pub turns-held-rows : (c : BatchContext) (rows : List ℕ) → turns_of c (held (map (has_edges c) rows) rows) ≡ turns_of c rows
turns-held-rows c [] = refl
turns-held-rows c (r ∷ rows) = held-row c r rows (turns-held-rows c rows) (has_edges c r) refl

-- turns whose flag holds
pub held-map : {A B : Type 0} (f : A → B) (flags : List Bool) (xs : List A) → map f (held flags xs) ≡ held flags (map f xs)
held-map f [] xs = refl
held-map f (true ∷ flags) [] = refl
held-map f (false ∷ flags) [] = refl
held-map f (true ∷ flags) (x ∷ xs) = ap (λ l. f x ∷ l) (held-map f flags xs)
held-map f (false ∷ flags) (x ∷ xs) = held-map f flags xs

pub turns-held : (rows ks ns es : List ℕ) (flags : List Bool) → length ns ≡ length ks → length es ≡ length ks
    → turn_list rows (held flags ks) (held flags ns) (held flags es) ≡ held flags (turn_list rows ks ns es)
turns-held rows ks ns es [] e f = refl
turns-held rows [] [] [] (true ∷ flags) e f = refl
turns-held rows [] [] [] (false ∷ flags) e f = refl
turns-held rows [] (n ∷ ns) es (b ∷ flags) e f = absurd (omega (arith, e))
turns-held rows [] [] (d ∷ es) (b ∷ flags) e f = absurd (omega (arith, f))
turns-held rows (k ∷ ks) [] es (b ∷ flags) e f = absurd (omega (arith, e))
turns-held rows (k ∷ ks) (n ∷ ns) [] (b ∷ flags) e f = absurd (omega (arith, f))
turns-held rows (k ∷ ks) (n ∷ ns) (d ∷ es) (true ∷ flags) e f =
    ap (λ l. record { row = get_or rows k 0; step = record { node = n; edge = d } } ∷ l) (turns-held rows ks ns es flags (omega (arith, e)) (omega (arith, f)))
turns-held rows (k ∷ ks) (n ∷ ns) (d ∷ es) (false ∷ flags) e f = turns-held rows ks ns es flags (omega (arith, e)) (omega (arith, f))

pub all-held : {A : Type 0} (P : A → Type 0) (flags : List Bool) (xs : List A) → All P xs → All P (held flags xs)
all-held P [] xs h = All-nil P
all-held P (true ∷ flags) [] h = All-nil P
all-held P (false ∷ flags) [] h = All-nil P
all-held P (true ∷ flags) (x ∷ xs) h = All-cons P x (held flags xs) (All-head P x xs h) (all-held P flags xs (All-tail P x xs h))
all-held P (false ∷ flags) (x ∷ xs) h = all-held P flags xs (All-tail P x xs h)

pub length-held : {A B : Type 0} (flags : List Bool) (xs : List A) (ys : List B) → length ys ≡ length xs → length (held flags ys) ≡ length (held flags xs)
length-held [] xs ys e = refl
length-held (true ∷ flags) [] [] e = refl
length-held (false ∷ flags) [] [] e = refl
length-held (b ∷ flags) [] (y ∷ ys) e = absurd (omega (arith, e))
length-held (b ∷ flags) (x ∷ xs) [] e = absurd (omega (arith, e))
length-held (true ∷ flags) (x ∷ xs) (y ∷ ys) e = ap suc (length-held flags xs ys (omega (arith, e)))
length-held (false ∷ flags) (x ∷ xs) (y ∷ ys) e = length-held flags xs ys (omega (arith, e))

-- how many turns there are, and where they lead
pub turns-long : (rows ks ns es : List ℕ) → length ns ≡ length ks → length es ≡ length ks → length (turn_list rows ks ns es) ≡ length ks
turns-long rows [] ns es e f = refl
turns-long rows (k ∷ ks) [] es e f = absurd (omega (arith, e))
turns-long rows (k ∷ ks) (n ∷ ns) [] e f = absurd (omega (arith, f))
turns-long rows (k ∷ ks) (n ∷ ns) (d ∷ es) e f = ap suc (turns-long rows ks ns es (omega (arith, e)) (omega (arith, f)))

pub turns-lead : (rows ks ns es : List ℕ) → length ns ≡ length ks → length es ≡ length ks → ns ≡ map (λ t. t.step.node) (turn_list rows ks ns es)
turns-lead rows [] [] es e f = refl
turns-lead rows [] (n ∷ ns) es e f = absurd (omega (arith, e))
turns-lead rows (k ∷ ks) [] es e f = absurd (omega (arith, e))
turns-lead rows (k ∷ ks) (n ∷ ns) [] e f = absurd (omega (arith, f))
turns-lead rows (k ∷ ks) (n ∷ ns) (d ∷ es) e f = ap (λ l. n ∷ l) (turns-lead rows ks ns es (omega (arith, e)) (omega (arith, f)))

-- what does not see the edge has one value in all turns of a row
pub own-value : (w : View) (e : Step) (t : Term) → sees_own t ≡ true → value (record w { near = e }) t ≡ value w t
own-value w e (T.Const v) h = refl
own-value w e (T.Global g) h = refl
own-value w e T.NodeCount h = refl
own-value w e T.EdgeCount h = refl
own-value w e (T.Field f) h = refl
own-value w e T.Self h = refl
own-value w e T.OutDegree h = refl
own-value w e T.InDegree h = refl
own-value w e (T.Register r) h = refl
own-value w e (T.Message i) h = refl
own-value w e T.Neighbour h = absurd (false≢true h)
own-value w e (T.Column c) h = absurd (false≢true h)
own-value w e (T.NodeAt a) h = ap (λ r. then_go r (λ x. Ok (node_with w.graph (number_of x)))) (own-value w e a h)
own-value w e (T.Live place a) h = ap (λ r. then_go r (live place)) (own-value w e a h)
own-value w e (T.Unary op place a) h = ap (unary_value op (place_of place)) (own-value w e a h)
own-value w e (T.Binary op place a b) h =
    let parts = and_parts (sees_own a) (sees_own b) h in
    λ i. binary_value op (place_of place) (own-value w e a parts.0 i) (own-value w e b parts.1 i)
own-value w e (T.And a b) h =
    let parts = and_parts (sees_own a) (sees_own b) h in
    λ i. then_go (own-value w e a parts.0 i) (λ x. if is_true x then own-value w e b parts.1 i else Ok x)
own-value w e (T.Or a b) h =
    let parts = and_parts (sees_own a) (sees_own b) h in
    λ i. then_go (own-value w e a parts.0 i) (λ x. if is_true x then Ok x else own-value w e b parts.1 i)
own-value w e (T.Choose c a b) h =
    let parts = and_parts (sees_own c && sees_own a) (sees_own b) h in
    let more = and_parts (sees_own c) (sees_own a) parts.0 in
    λ i. then_go (own-value w e c more.0 i) (λ x. if is_true x then own-value w e a more.1 i else own-value w e b parts.1 i)

-- the values of such a term, from those in the rows
pub own-values : (c : BatchContext) (s : BatchState) (a : Term) (rows ks ns es : List ℕ) (ys : List Value) (d : Value) → sees_own a ≡ true
    → values_in (map (view_in c s) rows) a ≡ Some ys → All (λ k. k < length rows) ks → length ns ≡ length ks → length es ≡ length ks
    → values_in (map (turn_view c s) (turn_list rows ks ns es)) a ≡ Some (map (λ k. get_or ys k d) ks)
own-values c s a rows [] ns es ys d own is within e f = refl
own-values c s a rows (k ∷ ks) [] es ys d own is within e f = absurd (omega (arith, e))
own-values c s a rows (k ∷ ks) (n ∷ ns) [] ys d own is within e f = absurd (omega (arith, f))
own-values c s a rows (k ∷ ks) (n ∷ ns) (x ∷ es) ys d own is within e f =
    let P : ℕ → Type 0 = λ k. k < length rows in
    let here : value (turn_view c s (record { row = get_or rows k 0; step = record { node = n; edge = x } })) a ≡ Ok (get_or ys k d) =
    own-value (view_in c s (get_or rows k 0)) (record { node = n; edge = x }) a own
    ∙ zip-at _ rows ys k 0 d (row-values (view_in c s) a rows ys is) (All-head P k ks within) in
    λ i. before (unless_fault (here i)) (own-values c s a rows ks ns es ys d own is (All-tail P k ks within) (omega (arith, e)) (omega (arith, f)) i)

-- the neighbours, and the values of edges
node-cell : (k : ℕ) → k < 4294967295 → node_in k ≡ At (Some k)
node-cell k below = rw (lt-ltb k 4294967295 below) refl

pub neighbour-values : (c : BatchContext) (s : BatchState) (rows ks ns es : List ℕ) → All (λ node. IsStorable (At (Some node))) ns → length ns ≡ length ks → length es ≡ length ks
    → values_in (map (turn_view c s) (turn_list rows ks ns es)) T.Neighbour ≡ Some (map node_in ns)
neighbour-values c s rows [] [] es storable e f = refl
neighbour-values c s rows [] (n ∷ ns) es storable e f = absurd (omega (arith, e))
neighbour-values c s rows (k ∷ ks) [] es storable e f = absurd (omega (arith, e))
neighbour-values c s rows (k ∷ ks) (n ∷ ns) [] storable e f = absurd (omega (arith, f))
neighbour-values c s rows (k ∷ ks) (n ∷ ns) (x ∷ es) storable e f =
    let P : ℕ → Type 0 = λ node. IsStorable (At (Some node)) in
    λ i. before (Some (sym (node-cell n (All-head P n ns storable)) i)) (neighbour-values c s rows ks ns es (All-tail P n ns storable) (omega (arith, e)) (omega (arith, f)) i)

pub edge-values : (c : BatchContext) (s : BatchState) (w : ℕ) (rows ks ns es : List ℕ) → length ns ≡ length ks → length es ≡ length ks
    → values_in (map (turn_view c s) (turn_list rows ks ns es)) (T.Column w) ≡ Some (map (λ e. edge_value_at c.graph.now w e) es)
edge-values c s w rows [] ns [] e f = refl
edge-values c s w rows [] ns (x ∷ es) e f = absurd (omega (arith, f))
edge-values c s w rows (k ∷ ks) [] es e f = absurd (omega (arith, e))
edge-values c s w rows (k ∷ ks) (n ∷ ns) [] e f = absurd (omega (arith, f))
edge-values c s w rows (k ∷ ks) (n ∷ ns) (x ∷ es) e f =
    λ i. before (Some (edge_value_at c.graph.now w x)) (edge-values c s w rows ks ns es (omega (arith, e)) (omega (arith, f)) i)

-- the turns whose flag holds, as numbers
pub held-are : (c : BatchContext) (t u : Turns) (flags : List Bool) → AreTurns c t → u.rows.items ≡ t.rows.items → u.sources.items ≡ held flags t.sources.items
    → u.targets.items ≡ held flags t.targets.items → u.edges.items ≡ held flags t.edges.items → AreTurns c u
held-are c t u flags are rows sources targets edges = record {
  rows_within = subst (λ l. All (λ row. row < length c.nodes.now) l) (sym rows) are.rows_within;
  distinct = subst (λ l. AreDistinct l) (sym rows) are.distinct;
  sources = subst (λ l. All (λ k. k < length u.rows.items) l) (sym sources)
      (subst (λ l. All (λ k. k < length l) (held flags t.sources.items)) (sym rows) (all-held (λ k. k < length t.rows.items) flags t.sources.items are.sources));
  targets = ap length targets ∙ length-held flags t.sources.items t.targets.items are.targets ∙ sym (ap length sources);
  edges = ap length edges ∙ length-held flags t.sources.items t.edges.items are.edges ∙ sym (ap length sources);
  storable = subst (λ l. All (λ node. IsStorable (At (Some node))) l) (sym targets) (all-held (λ node. IsStorable (At (Some node))) flags t.targets.items are.storable);
}

pub held-in : (c : BatchContext) (t u : Turns) (flags : List Bool) → AreTurns c t → u.rows.items ≡ t.rows.items → u.sources.items ≡ held flags t.sources.items
    → u.targets.items ≡ held flags t.targets.items → u.edges.items ≡ held flags t.edges.items → turns_in c u ≡ held flags (turns_in c t)
held-in c t u flags are rows sources targets edges =
    (λ i. turn_list (rows i) (sources i) (targets i) ((ap (edges_at c.graph.now) edges ∙ held-map (λ e. edge_at c.graph.now (Some e)) flags t.edges.items) i))
    ∙ turns-held t.rows.items t.sources.items t.targets.items (edges_at c.graph.now t.edges.items) flags are.targets
    (length-map t.edges.items (λ e. edge_at c.graph.now (Some e)) ∙ are.edges)

pub held-shorter : {A : Type 0} (flags : List Bool) (xs : List A) → length (held flags xs) ≤ length xs
held-shorter [] xs = omega arith
held-shorter (true ∷ flags) [] = omega arith
held-shorter (false ∷ flags) [] = omega arith
held-shorter (true ∷ flags) (x ∷ xs) = omega (arith, held-shorter flags xs)
held-shorter (false ∷ flags) (x ∷ xs) = omega (arith, held-shorter flags xs)

-- one more of several
pub map-more : {B : Type 0} (f : ℕ → B) (xs : List ℕ) (i : ℕ) (ys ys' : List B) → i < length xs → ys ≡ map f (take i xs) → ys' ≡ ys ++ f (get_or xs i 0) ∷ [] → ys' ≡ map f (take (i + 1) xs)
map-more f xs i ys ys' lt is more =
    more ∙ ap (λ l. l ++ f (get_or xs i 0) ∷ []) is ∙ sym (map-append f (take i xs) (get_or xs i 0 ∷ [])) ∙ ap (map f) (sym (take_more xs i 0 lt))

pub all-more : (P : ℕ → Type 0) (xs : List ℕ) (i : ℕ) → i < length xs → All P (take i xs) → P (get_or xs i 0) → All P (take (i + 1) xs)
all-more P xs i lt all one = subst (λ l. All P l) (sym (take_more xs i 0 lt)) (All-append P (take i xs) (get_or xs i 0 ∷ []) all (All-cons P (get_or xs i 0) [] one (All-nil P)))

-- the turns of a row so far
pub record Pushed (g : NumberedGraph) (node source k : ℕ) (old new : Turns) : Type 0 where
  pub rows : new.rows.items ≡ old.rows.items
  pub sources : new.sources.items ≡ old.sources.items ++ replicate k source
  pub targets : new.targets.items ≡ old.targets.items ++ take k (nodes_of (out_steps g node))
  pub edges : edges_at g new.edges.items ≡ edges_at g old.edges.items ++ take k (edges_of (out_steps g node))
  pub storable : All (λ node. IsStorable (At (Some node))) new.targets.items

one-more : {A : Type 0} (old new mid xs : List A) (k : ℕ) (x : A) → k < length xs → get_or xs k x ≡ x → mid ≡ old ++ take k xs → new ≡ mid ++ x ∷ [] → new ≡ old ++ take (k + 1) xs
one-more old new mid xs k x lt at is more =
    more ∙ ap (λ l. l ++ x ∷ []) is ∙ append_assoc old (take k xs) (x ∷ []) ∙ ap (λ y. old ++ (take k xs ++ y ∷ [])) (sym at) ∙ ap (λ l. old ++ l) (sym (take_more xs k x lt))

pub pushed-start : (g : NumberedGraph) (node source : ℕ) (t : Turns) → All (λ node. IsStorable (At (Some node))) t.targets.items → Pushed g node source 0 t t
pushed-start g node source t storable = record {
  rows = refl;
  sources = sym (append-nil t.sources.items);
  targets = sym (append-nil t.targets.items);
  edges = sym (append-nil (edges_at g t.edges.items));
  storable = storable;
}

pub pushed-more : (g : NumberedGraph) (node source k target edge : ℕ) (old mid new : Turns) → Pushed g node source k old mid → k < length (out_steps g node)
    → new.rows.items ≡ mid.rows.items → new.sources.items ≡ mid.sources.items ++ source ∷ [] → new.targets.items ≡ mid.targets.items ++ target ∷ []
    → new.edges.items ≡ mid.edges.items ++ edge ∷ [] → slice_get (nodes_of (out_steps g node)) k ≡ Some target → slice_get (edges_of (out_steps g node)) k ≡ Some (edge_at g (Some edge))
    → target < 4294967295 → Pushed g node source (k + 1) old new
pushed-more g node source k target edge old mid new is lt rows sources targets edges there along small = record {
  rows = rows ∙ is.rows;
  sources = sources ∙ ap (λ l. l ++ source ∷ []) is.sources ∙ append_assoc old.sources.items (replicate k source) (source ∷ []) ∙ ap (λ l. old.sources.items ++ l) (sym (replicate_next k source));
  targets = one-more old.targets.items new.targets.items mid.targets.items (nodes_of steps) k target (omega (arith, lt, length-map steps (λ s. s.node))) (got-at (nodes_of steps) k target there) is.targets targets;
  edges = one-more (edges_at g old.edges.items) (edges_at g new.edges.items) (edges_at g mid.edges.items) (edges_of steps) k (edge_at g (Some edge)) (omega (arith, lt, length-map steps (λ s. s.edge)))
      (got-at (edges_of steps) k (edge_at g (Some edge)) along) is.edges (ap (edges_at g) edges ∙ map-append (λ e. edge_at g (Some e)) mid.edges.items (edge ∷ []));
  storable = subst (λ l. All (λ node. IsStorable (At (Some node))) l) (sym targets)
      (All-append (λ node. IsStorable (At (Some node))) mid.targets.items (target ∷ []) is.storable (All-cons (λ node. IsStorable (At (Some node))) target [] small (All-nil (λ node. IsStorable (At (Some node))))));
} where
  steps : List Step
  steps = out_steps g node

  got-at : (xs : List ℕ) (k x : ℕ) → slice_get xs k ≡ Some x → get_or xs k x ≡ x
  got-at [] k x e = refl
  got-at (y ∷ xs) zero x e = same_Some y x e
  got-at (y ∷ xs) (suc k) x e = got-at xs k x e

-- all turns of a row
pub pushed-all : (g : NumberedGraph) (node source k : ℕ) (old new : Turns) → Pushed g node source k old new → length (out_steps g node) ≤ k → k ≤ length (out_steps g node)
    → (new.sources.items ≡ old.sources.items ++ replicate (length (out_steps g node)) source)
    × (new.targets.items ≡ old.targets.items ++ nodes_of (out_steps g node))
    × (edges_at g new.edges.items ≡ edges_at g old.edges.items ++ edges_of (out_steps g node))
pushed-all g node source k old new is low high =
    let steps : List Step = out_steps g node in
    let all : k ≡ length steps = omega (arith, low, high) in (
      is.sources ∙ ap (λ n. old.sources.items ++ replicate n source) all,
      is.targets ∙ ap (λ l. old.targets.items ++ l) (take_all k (nodes_of steps) (omega (arith, low, length-map steps (λ s. s.node)))),
      is.edges ∙ ap (λ l. edges_at g old.edges.items ++ l) (take_all k (edges_of steps) (omega (arith, low, length-map steps (λ s. s.edge)))),
    )

-- the turns of the rows so far
pub record Made (c : BatchContext) (rows : List ℕ) (i : ℕ) (t : Turns) : Type 0 where
  pub rows_are : t.rows.items ≡ rows
  pub sources : All (λ k. k < length rows) t.sources.items
  pub targets : length t.targets.items ≡ length t.sources.items
  pub edges : length t.edges.items ≡ length t.sources.items
  pub storable : All (λ node. IsStorable (At (Some node))) t.targets.items
  pub are : turns_in c t ≡ turns_of c (take i rows)

all-replicate : (P : ℕ → Type 0) (n k : ℕ) → P k → All P (replicate n k)
all-replicate P zero k h = All-nil P
all-replicate P (suc n) k h = All-cons P k (replicate n k) h (all-replicate P n k h)

pub made-more : (c : BatchContext) (rows : List ℕ) (i : ℕ) (t u : Turns) → Made c rows i t → i < length rows
    → u.rows.items ≡ t.rows.items
    → u.sources.items ≡ t.sources.items ++ replicate (length (out_steps c.graph.now (get_or c.nodes.now (get_or rows i 0) 0))) i
    → u.targets.items ≡ t.targets.items ++ nodes_of (out_steps c.graph.now (get_or c.nodes.now (get_or rows i 0) 0))
    → edges_at c.graph.now u.edges.items ≡ edges_at c.graph.now t.edges.items ++ edges_of (out_steps c.graph.now (get_or c.nodes.now (get_or rows i 0) 0))
    → All (λ node. IsStorable (At (Some node))) u.targets.items → Made c rows (i + 1) u
made-more c rows i t u is lt same sources targets edges storable = record {
  rows_are = same ∙ is.rows_are;
  sources = subst (λ l. All (λ k. k < length rows) l) (sym sources) (All-append (λ k. k < length rows) t.sources.items (replicate (length steps) i) is.sources (all-replicate (λ k. k < length rows) (length steps) i lt));
  targets = omega (
    arith,
    ap length targets,
    ap length sources,
    is.targets,
    length-append t.targets.items (nodes_of steps),
    length-append t.sources.items (replicate (length steps) i),
    length-map steps (λ s. s.node),
    length-replicate (length steps) i,
  );
  edges = omega (
    arith,
    ap length edges,
    ap length sources,
    is.edges,
    length-append (edges_at c.graph.now t.edges.items) (edges_of steps),
    length-append t.sources.items (replicate (length steps) i),
    length-map steps (λ s. s.edge),
    length-replicate (length steps) i,
    length-map t.edges.items (λ e. edge_at c.graph.now (Some e)),
    length-map u.edges.items (λ e. edge_at c.graph.now (Some e)),
  );
  storable = storable;
  are = ap (λ l. turn_list l u.sources.items u.targets.items (edges_at c.graph.now u.edges.items)) (same ∙ is.rows_are)
      ∙ turns-more c rows t.sources.items u.sources.items t.targets.items u.targets.items (edges_at c.graph.now t.edges.items) (edges_at c.graph.now u.edges.items) i lt
      is.targets (length-map t.edges.items (λ e. edge_at c.graph.now (Some e)) ∙ is.edges) sources targets edges
      (ap (λ l. turn_list l t.sources.items t.targets.items (edges_at c.graph.now t.edges.items)) (sym is.rows_are) ∙ is.are);
} where
  steps : List Step
  steps = out_steps c.graph.now (get_or c.nodes.now (get_or rows i 0) 0)

pub made-all : (c : BatchContext) (rows : List ℕ) (i : ℕ) (t : Turns) → Made c rows i t → length rows ≤ i → All (λ row. row < length c.nodes.now) rows → AreDistinct rows
    → AreTurns c t × (turns_in c t ≡ turns_of c rows)
made-all c rows i t is all within distinct = (
  record {
    rows_within = subst (λ l. All (λ row. row < length c.nodes.now) l) (sym is.rows_are) within;
    distinct = subst (λ l. AreDistinct l) (sym is.rows_are) distinct;
    sources = subst (λ l. All (λ k. k < length l) t.sources.items) (sym is.rows_are) is.sources;
    targets = is.targets;
    edges = is.edges;
    storable = is.storable;
  },
  is.are ∙ ap (turns_of c) (take_all i rows all),
)

pub made-start : (c : BatchContext) (rows : List ℕ) (t : Turns) → t.rows.items ≡ rows → t.sources.items ≡ [] → t.targets.items ≡ [] → t.edges.items ≡ [] → Made c rows 0 t
made-start c rows t same sources targets edges = record {
  rows_are = same;
  sources = subst (λ l. All (λ k. k < length rows) l) (sym sources) (All-nil (λ k. k < length rows));
  targets = ap length targets ∙ sym (ap length sources);
  edges = ap length edges ∙ sym (ap length sources);
  storable = subst (λ l. All (λ node. IsStorable (At (Some node))) l) (sym targets) (All-nil (λ node. IsStorable (At (Some node))));
  are = λ i. turn_list t.rows.items (sources i) (targets i) (edges_at c.graph.now (edges i));
}

-- what holds of something that is there
pub some-is : {A : Type 0} (P : A → Type 0) (o : Option A) (x : A) → o ≡ Some x → IfSome o P → P x
some-is P o x is h = subst (λ o. IfSome o P) is h

pub found-values : {E : Type 0} (found : Result (Option TypedRow) E) (vs : Option (List Value)) → IfOk found (λ given. option_map (λ (column : TypedRow). column.values) given ≡ vs)
    → IfOk found (λ got. IfSome got (λ column. vs ≡ Some column.values))
found-values (Ok (Some column)) vs h = sym h
found-values (Ok None) vs h = tt
found-values (Err e) vs h = tt

-- one more element beside one more
pub zip-more : {A B C : Type 0} (P : B → C → Type 0) (f : A → B) (xs : List A) (ys ys' : List C) (i : ℕ) (x : A) (y : C) → i < length xs → x ≡ get_or xs i x
    → AllZip P (map f (take i xs)) ys → P (f x) y → ys' ≡ ys ++ y ∷ [] → AllZip P (map f (take (i + 1) xs)) ys'
zip-more P f xs ys ys' i x y lt at all one more =
    subst (λ l. AllZip P (map f (take (i + 1) xs)) l) (sym more)
    (subst (λ l. AllZip P l (ys ++ y ∷ [])) (sym (ap (map f) (take_more xs i x lt ∙ ap (λ z. take i xs ++ z ∷ []) (sym at)) ∙ map-append f (take i xs) (x ∷ [])))
    (zip-behind P (map f (take i xs)) ys (f x) y all one))
  where
    zip-behind : {B C : Type 0} (P : B → C → Type 0) (bs : List B) (cs : List C) (b : B) (c : C) → AllZip P bs cs → P b c → AllZip P (bs ++ b ∷ []) (cs ++ c ∷ [])
    zip-behind P [] [] b c all one = (one, tt)
    zip-behind P [] (d ∷ cs) b c all one = absurd all
    zip-behind P (a ∷ bs) [] b c all one = absurd all
    zip-behind P (a ∷ bs) (d ∷ cs) b c all one = (all.0, zip-behind P bs cs b c all.1 one)

-- the values of edges so far
pub edge-more : (g : NumberedGraph) (w : ℕ) (edges : List ℕ) (i : ℕ) (v : Value) (vs vs' : List Value) → i < length edges → vs ≡ map (λ e. edge_value_at g w e) (edges_at g (take i edges))
    → v ≡ edge_value_at g w (edge_at g (Some (get_or edges i 0))) → vs' ≡ vs ++ v ∷ [] → vs' ≡ map (λ e. edge_value_at g w e) (edges_at g (take (i + 1) edges))
edge-more g w edges i v vs vs' lt is at more =
    let value-of : ℕ → Value = λ e. edge_value_at g w (edge_at g (Some e)) in
    map-more value-of edges i vs vs' lt (is ∙ map-map (λ e. edge_value_at g w e) (λ e. edge_at g (Some e)) (take i edges)) (more ∙ ap (λ x. vs ++ x ∷ []) at)
    ∙ sym (map-map (λ e. edge_value_at g w e) (λ e. edge_at g (Some e)) (take (i + 1) edges))

-- columns of the values in all turns have a value for each
pub turns-rows : (views : List View) (n : ℕ) (ts : List Term) (columns : List TypedRow) → length views ≡ n → AllZip (λ a column. values_in views a ≡ Some column.values) ts columns
    → All (λ column. length column.values ≡ n) columns
turns-rows views n [] [] long all = All-nil (λ column. length column.values ≡ n)
turns-rows views n [] (x ∷ columns) long all = absurd all
turns-rows views n (a ∷ ts) [] long all = absurd all
turns-rows views n (a ∷ ts) (x ∷ columns) long all =
    All-cons (λ column. length column.values ≡ n) x columns (rows_of_values a views x.values all.0 ∙ long) (turns-rows views n ts columns long all.1)
