-- The store with which a run begins.
use Rattle.std.proofs.Common.{◌≡◌, ◌∙◌, ◌<◌, ◌≤◌, ◌+◌, ℕ, zero, suc, pos, Bool, true, false, if◌then◌else◌, List, [], ◌∷◌, ◌++◌, length, get_or, Option, Some, None, refl, ap, sym, arith, ⊎_elim}
use Rattle.std.specs.Prelude.{All, slice_index_or, nat_lt, nat_eq, option_map}
use Rattle.std.proofs.Math.Path.{fun_ext}
use Rattle.std.proofs.lemmas.Bool.{lt-ltb, le-ltb, cases_lt, ltb-true}
use Rattle.std.proofs.lemmas.List.{get_or_past}
use Rattle.std.proofs.lemmas.List.Elements.{All-map}
use Rattle.std.proofs.lemmas.Option.{slice_get_past, get_or_from_slice_get}
use Rattle.gm_value.specs.declared.values.Value.{Value}
use Rattle.gm_value.specs.declared.values.Value.TheVariants.{I32}
use Rattle.gm_value.specs.Numbers.{zero_of}
use Rattle.gm_model.specs.Graphs.{NumberedGraph}
use Rattle.gm_ast.specs.declared.tree.Declaration.{Declaration}
use Rattle.gm_ast.specs.declared.tree.Sort.{Sort}
use Rattle.gm_ast.specs.declared.tree.Sort.TheVariants as Sorts
use Rattle.gm_ast.specs.Program.{Program}
use Rattle.gm_semantics.specs.Levels.{numbers_from}
use Rattle.gm_semantics.specs.Stores.{Store}
use Rattle.gm_semantics.specs.Statements.{variable_at, variable_or}
use Rattle.gm_semantics.specs.Outcomes.{is_of, count_before, input_value, column_value, first_store}
use Rattle.gm_store.specs.Held.{Held, Shape, shape_of, scalar_of, node_of, value_in, no_row, store_of}
use Rattle.gm_loops.specs.Sights.{edges_of, edge_value, values_in, HasColumn}
use Rattle.gm_meaning.specs.Inputs.{first_scalars, first_columns, edge_column, column_in, IsRoomFor}
use Rattle.gm_meaning.proofs.Numbers.{get-below, length-map-numbers, count-below-more, tally, map-below-more}

-- one variable more
pub count-next : (ds : List Declaration) (sort : Sort) (x : ℕ) → count_before ds sort (x + 1) ≡ count_before ds sort x + tally (is_of ds sort x)
count-next ds sort x = count-below-more (is_of ds sort) x

pub count-within : (ds : List Declaration) (sort : Sort) (x : ℕ) → count_before ds sort x ≤ x
count-within ds sort zero = omega arith
count-within ds sort (suc x) =
    let e : x + 1 ≡ suc x = omega arith in
    let one : tally (is_of ds sort x) ≤ 1 = elim (is_of ds sort x) as (λ b. tally b ≤ 1) [ true ↦ omega arith | false ↦ omega arith ] in
    let before = count-within ds sort x in
    let next = count-next ds sort x in
    let same : count_before ds sort (suc x) ≡ count_before ds sort (x + 1) = ap (count_before ds sort) (sym e) in
    omega (arith, one, before, next, same)

-- beyond all declarations a variable is what stands for one that is not declared
first-beyond : (ds : List Declaration) (x : ℕ) → length ds ≤ x → zero_of (variable_at ds x).vtype ≡ I32 (pos 0)
first-beyond ds x le = ap (λ (o : Option Declaration). zero_of (variable_or (option_map (λ d. d.variable) o)).vtype) (slice_get_past ds x le)

pub input-beyond : (p : Program) (sort : Sort) (values : List Value) (x : ℕ) → length p.declarations ≤ x → p.inputs ≤ x → input_value p sort values x ≡ I32 (pos 0)
input-beyond p sort values x declared inputs =
    let first = zero_of (variable_at p.declarations x).vtype in
    ap (λ b. if b then slice_index_or values (count_before p.declarations sort x) first else first) (le-ltb x p.inputs inputs)
    ∙ first-beyond p.declarations x declared

pub column-beyond : (p : Program) (sort : Sort) (columns : List (List Value)) (x row : ℕ) → length p.declarations ≤ x → p.inputs ≤ x → column_value p sort columns x row ≡ I32 (pos 0)
column-beyond p sort columns x row declared inputs =
    let first = zero_of (variable_at p.declarations x).vtype in
    ap (λ b. if b then slice_index_or (slice_index_or columns (count_before p.declarations sort x) []) row first else first) (le-ltb x p.inputs inputs)
    ∙ first-beyond p.declarations x declared

-- the scalars
scalar-first : (p : Program) (args : List Value) (n : ℕ) → length p.declarations ≤ n → p.inputs ≤ n
    → (x : ℕ) → slice_index_or (first_scalars p args n) x (I32 (pos 0)) ≡ input_value p Sorts.Scalar args x
scalar-first p args n declared inputs x =
    ⊎_elim
    (λ (lt : x < n). get_or_from_slice_get (first_scalars p args n) x (input_value p Sorts.Scalar args x) (I32 (pos 0)) (get-below (input_value p Sorts.Scalar args) n x lt))
    (λ (le : n ≤ x).
    get_or_past (first_scalars p args n) x (I32 (pos 0)) (omega (arith, length-map-numbers (input_value p Sorts.Scalar args) 0 n))
    ∙ sym (input-beyond p Sorts.Scalar args x (omega arith) (omega arith)))
    (cases_lt x n)

-- the properties
node-first : (p : Program) (g : NumberedGraph) (h : Held) (n : ℕ) → length p.declarations ≤ n → p.inputs ≤ n → length h.rows ≡ n
    → ((q m : ℕ) → q < n → node_of h q m ≡ column_value p Sorts.NodeProperty g.node_columns q m)
    → (q m : ℕ) → node_of h q m ≡ column_value p Sorts.NodeProperty g.node_columns q m
node-first p g h n declared inputs long below q m =
    ⊎_elim
    (λ (lt : q < n). below q m lt)
    (λ (le : n ≤ q). ap (λ row. value_in row m) (get_or_past h.rows q no_row (omega arith)) ∙ sym (column-beyond p Sorts.NodeProperty g.node_columns q m (omega arith) (omega arith)))
    (cases_lt q n)

-- the columns of edge properties
values-column : (g : NumberedGraph) (k : ℕ) → values_in g (column_in (length g.edge_columns) k) ≡ slice_index_or g.edge_columns k []
values-column g k =
    ⊎_elim
    (λ (lt : k < length g.edge_columns). ap (λ b. values_in g (if b then Some k else None)) (lt-ltb k (length g.edge_columns) lt))
    (λ (le : length g.edge_columns ≤ k). ap (λ b. values_in g (if b then Some k else None)) (le-ltb k (length g.edge_columns) le) ∙ sym (get_or_past g.edge_columns k [] le))
    (cases_lt k (length g.edge_columns))

edge-declared : (p : Program) (g : NumberedGraph) (x e : ℕ) → edge_value g (Some (edge_column p g x)) e ≡ column_value p Sorts.EdgeProperty g.edge_columns x e
edge-declared p g x e =
    by_test (nat_lt x p.inputs) where
      by_test : (b : Bool) → slice_index_or (values_in g (if b then column_in (length g.edge_columns) (count_before p.declarations Sorts.EdgeProperty x) else None)) e (zero_of (variable_at p.declarations x).vtype)
          ≡ (if b then slice_index_or (slice_index_or g.edge_columns (count_before p.declarations Sorts.EdgeProperty x) []) e (zero_of (variable_at p.declarations x).vtype) else zero_of (variable_at p.declarations x).vtype)
      by_test true = ap (λ values. slice_index_or values e (zero_of (variable_at p.declarations x).vtype)) (values-column g (count_before p.declarations Sorts.EdgeProperty x))
      by_test false = refl

edge-first : (p : Program) (g : NumberedGraph) (n : ℕ) → length p.declarations ≤ n → p.inputs ≤ n
    → (x e : ℕ) → edges_of g (first_columns p g n) x e ≡ column_value p Sorts.EdgeProperty g.edge_columns x e
edge-first p g n declared inputs x e =
    ⊎_elim
    (λ (lt : x < n). ap (λ o. edge_value g o e) (get-below (edge_column p g) n x lt) ∙ edge-declared p g x e)
    (λ (le : n ≤ x).
    ap (λ o. edge_value g o e) (slice_get_past (first_columns p g n) x (omega (arith, length-map-numbers (edge_column p g) 0 n)))
    ∙ sym (column-beyond p Sorts.EdgeProperty g.edge_columns x e (omega arith) (omega arith)))
    (cases_lt x n)

-- the store with which a run begins
pub first-same : (p : Program) (g : NumberedGraph) (args : List Value) (n : ℕ) (h : Held) → IsRoomFor p n → h.scalars ≡ first_scalars p args n → length h.rows ≡ n
    → ((q m : ℕ) → q < n → node_of h q m ≡ column_value p Sorts.NodeProperty g.node_columns q m)
    → store_of (edges_of g (first_columns p g n)) h ≡ first_store p g args
first-same p g args n h room scalars long below =
    let inputs : p.inputs ≤ n = omega (arith, room.passed) in
    let s : scalar_of h ≡ input_value p Sorts.Scalar args = fun_ext (λ x. ap (λ xs. slice_index_or xs x (I32 (pos 0))) scalars ∙ scalar-first p args n room.declared inputs x) in
    let v : node_of h ≡ column_value p Sorts.NodeProperty g.node_columns = fun_ext (λ q. fun_ext (λ m. node-first p g h n room.declared inputs long below q m)) in
    let e : edges_of g (first_columns p g n) ≡ column_value p Sorts.EdgeProperty g.edge_columns = fun_ext (λ x. fun_ext (λ k. edge-first p g n room.declared inputs x k)) in
    ap (λ f. let t : Store = record { scalar = f; node = node_of h; edge = edges_of g (first_columns p g n) } in t) s
    ∙ ap (λ f. let t : Store = record { scalar = input_value p Sorts.Scalar args; node = f; edge = edges_of g (first_columns p g n) } in t) v
    ∙ ap (λ f. let t : Store = record { scalar = input_value p Sorts.Scalar args; node = column_value p Sorts.NodeProperty g.node_columns; edge = f } in t) e

-- the columns are the graph's
has-column : (g : NumberedGraph) (k : ℕ) → HasColumn g (column_in (length g.edge_columns) k)
has-column g k = by_test (nat_lt k (length g.edge_columns)) refl where
  by_test : (b : Bool) → nat_lt k (length g.edge_columns) ≡ b → HasColumn g (if b then Some k else None)
  by_test true e = ltb-true k (length g.edge_columns) e
  by_test false e = tt

pub columns-known : (p : Program) (g : NumberedGraph) (n : ℕ) → All (λ c. HasColumn g c.column) (first_columns p g n)
columns-known p g n =
    All-map (λ c. HasColumn g c.column) (edge_column p g) (numbers_from 0 n) (λ i d lt. by_test (get_or (numbers_from 0 n) i d) (nat_lt (get_or (numbers_from 0 n) i d) p.inputs)) where
      by_test : (x : ℕ) (b : Bool) → HasColumn g (if b then column_in (length g.edge_columns) (count_before p.declarations Sorts.EdgeProperty x) else None)
      by_test x true = has-column g (count_before p.declarations Sorts.EdgeProperty x)
      by_test x false = tt

-- a variable of the sort is one more, and another is none
pub count-one : (ds : List Declaration) (sort : Sort) (x n : ℕ) → n ≡ count_before ds sort x → is_of ds sort x ≡ true → n + 1 ≡ count_before ds sort (x + 1)
count-one ds sort x n e t =
    let next = count-next ds sort x in
    let one : tally (is_of ds sort x) ≡ 1 = ap tally t in
    omega (arith, e, next, one)

pub count-none : (ds : List Declaration) (sort : Sort) (x n : ℕ) → n ≡ count_before ds sort x → is_of ds sort x ≡ false → n ≡ count_before ds sort (x + 1)
count-none ds sort x n e t =
    let next = count-next ds sort x in
    let none : tally (is_of ds sort x) ≡ 0 = ap tally t in
    omega (arith, e, next, none)

-- one scalar more
pub scalars-more : (p : Program) (args : List Value) (x : ℕ) (at old new : Held) (v : Value) → old ≡ record at { scalars = first_scalars p args x }
    → new ≡ record old { scalars = old.scalars ++ v ∷ [] } → v ≡ input_value p Sorts.Scalar args x → new ≡ record at { scalars = first_scalars p args (x + 1) }
scalars-more p args x at old new v before added same =
    added ∙ ap (λ (h : Held). record h { scalars = h.scalars ++ v ∷ [] }) before
    ∙ ap (λ (w : Value). record at { scalars = first_scalars p args x ++ w ∷ [] }) same
    ∙ ap (λ (xs : List Value). record at { scalars = xs }) (sym (map-below-more (input_value p Sorts.Scalar args) x))

-- a property that is no input
pub row-first : (p : Program) (columns : List (List Value)) (x q m long : ℕ) (first old new : Value) → new ≡ (if nat_eq long q then first else old) → long ≡ x
    → first ≡ zero_of (variable_at p.declarations x).vtype → p.inputs ≤ x → new ≡ (if nat_eq x q then column_value p Sorts.NodeProperty columns x m else old)
row-first p columns x q m long first old new n e z inputs =
    let zero_here = zero_of (variable_at p.declarations x).vtype in
    let value : column_value p Sorts.NodeProperty columns x m ≡ zero_here =
    ap (λ b. if b then slice_index_or (slice_index_or columns (count_before p.declarations Sorts.NodeProperty x) []) m zero_here else zero_here) (le-ltb x p.inputs inputs) in
    n ∙ ap (λ l. if nat_eq l q then first else old) e ∙ ap (λ v. if nat_eq x q then v else old) (z ∙ sym value)

-- how large the first store is
pub shape-first : (p : Program) (args : List Value) (n nodes : ℕ) (h k store : Held) → store ≡ record k { scalars = first_scalars p args n } → shape_of k ≡ record (shape_of h) { rows = n } → h.nodes ≡ nodes
    → shape_of store ≡ record { scalars = n; rows = n; nodes = nodes }
shape-first p args n nodes h k store e shape same =
    let rows : length k.rows ≡ n = ap (λ (s : Shape). s.rows) shape in
    let count : k.nodes ≡ nodes = ap (λ (s : Shape). s.nodes) shape ∙ same in
    ap shape_of e
    ∙ ap (λ (i : ℕ). let s : Shape = record { scalars = i; rows = length k.rows; nodes = k.nodes } in s) (length-map-numbers (input_value p Sorts.Scalar args) 0 n)
    ∙ ap (λ (i : ℕ). let s : Shape = record { scalars = n; rows = i; nodes = k.nodes } in s) rows
    ∙ ap (λ (i : ℕ). let s : Shape = record { scalars = n; rows = n; nodes = i } in s) count
