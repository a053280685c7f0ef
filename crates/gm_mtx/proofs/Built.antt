-- Of a sound matrix a graph can be made.
use Rattle.std.proofs.Common.{◌≡◌, ◌≢◌, ◌≤◌, ◌<◌, ◌+◌, ℕ, zero, suc, Bool, true, false, cond, ◌||◌, List, [], ◌∷◌, ◌++◌, length, map, drop, get_or, eqb, ltb, refl, ap, sym, ◌∙◌, arith}
use Rattle.std.specs.Prelude.{Err, All, AllPairs}
use Rattle.std.specs.List.{list_any, range_with_len}
use Rattle.std.specs.Str.Lines.{lines}
use Rattle.std.proofs.lemmas.Bool.Decides.{nat_tests}
use Rattle.std.proofs.lemmas.List.{length-map, length-replicate}
use Rattle.std.proofs.lemmas.List.FromFn.{length-range_with_len, get_or-range_with_len}
use Rattle.std.proofs.lemmas.List.Elements.{All-nil, All-cons, All-head, All-tail, All-append}
use Rattle.std.proofs.lemmas.List.Folds.{list_any-append}
use Rattle.gm_value.specs.declared.values.VType.{VType}
use Rattle.gm_value.specs.declared.values.Value.{Value}
use Rattle.gm_value.specs.Numbers.{zero_of}
use Rattle.gm_graph.specs.declared.builds.Shape.{Shape}
use Rattle.gm_graph.specs.declared.builds.RawGraph.{RawGraph}
use Rattle.gm_model.specs.Graphs.{NumberedGraph}
use Rattle.gm_columns.specs.Columns.{TypedRow}
use Rattle.gm_graph.specs.Builds.{IsBuildable, IsBuiltOf, distinct, types_of, spread_out}
use Rattle.gm_loader.specs.declared.limits.Limits.{Limits}
use Rattle.gm_loader.specs.GraphText.{columns_of, first_value, HasColumns}
use Rattle.gm_loader.proofs.Filling.{columns_types}
use Rattle.gm_mtx.specs.declared.faults.MtxFault.TheVariants as fault
use Rattle.gm_mtx.specs.declared.sizes.Size.{Size}
use Rattle.gm_mtx.specs.declared.tables.Tables.{Tables}
use Rattle.gm_mtx.specs.MatrixMarket.{Entry, Matrix, node_count, zero_column, raw_of, matrix_in, matrix_of, StandsFor}
use Rattle.gm_mtx.specs.Tables.{Holds, HoldsMatrix}
use Rattle.gm_mtx.proofs.Sound.{IsInside, IsSound, matrix_sound}

-- ---- columns

-- the rows of columns
columns_rows : (types : List VType) (rows : List (List Value)) (k : ℕ) → length rows ≡ k → All (λ (c : TypedRow). length c.values ≡ k) (columns_of types rows)
columns_rows [] rows k e = All-nil (λ (c : TypedRow). length c.values ≡ k)
columns_rows (t ∷ ts) rows k e =
    All-cons (λ (c : TypedRow). length c.values ≡ k) (record { vtype = t; values = map (first_value t) rows }) (columns_of ts (map (drop 1) rows))
    (length-map rows (first_value t) ∙ e)
    (columns_rows ts (map (drop 1) rows) k (length-map rows (drop 1) ∙ e))

columns_len : (types : List VType) (rows : List (List Value)) → length (columns_of types rows) ≡ length types
columns_len [] rows = refl
columns_len (t ∷ ts) rows = ap suc (columns_len ts (map (drop 1) rows))

-- columns of zeros
zero_types : (n : ℕ) (types : List VType) → types_of (map (zero_column n) types) ≡ types
zero_types n [] = refl
zero_types n (t ∷ ts) = ap (λ z. t ∷ z) (zero_types n ts)

zero_rows : (n k : ℕ) (types : List VType) → n ≡ k → All (λ (c : TypedRow). length c.values ≡ k) (map (zero_column n) types)
zero_rows n k [] e = All-nil (λ (c : TypedRow). length c.values ≡ k)
zero_rows n k (t ∷ ts) e =
    All-cons (λ (c : TypedRow). length c.values ≡ k) (zero_column n t) (map (zero_column n) ts) (length-replicate n (zero_of t) ∙ e) (zero_rows n k ts e)

-- ---- numbers

-- a number is in a range
or_later : (b c : Bool) → (b ≡ false → c ≡ true) → (b || c) ≡ true
or_later true c h = refl
or_later false c h = h refl

in_range : (n a q : ℕ) → a ≤ q → q < a + n → list_any (λ y. eqb y q) (range_with_len a n) ≡ true
in_range zero a q low high = absurd (omega (arith, low, high))
in_range (suc n) a q low high =
    or_later (eqb a q) (list_any (λ y. eqb y q) (range_with_len (a + 1) n)) (λ other. in_range n (a + 1) q (grind (arith, nat_tests, other, low)) (omega (arith, high)))

-- numbers that come again behind add nothing
or_right : (b c : Bool) → c ≡ true → (b || c) ≡ true
or_right true c h = refl
or_right false c h = h

distinct_behind : (xs ys : List ℕ) → All (λ x. list_any (λ y. eqb y x) ys ≡ true) xs → distinct (xs ++ ys) ≡ distinct ys
distinct_behind [] ys all = refl
distinct_behind (x ∷ xs) ys all =
    let head : list_any (λ y. eqb y x) ys ≡ true = All-head (λ z. list_any (λ y. eqb y z) ys ≡ true) x xs all in
    let again : list_any (λ y. eqb y x) (xs ++ ys) ≡ true = list_any-append (λ y. eqb y x) xs ys ∙ or_right (list_any (λ y. eqb y x) xs) (list_any (λ y. eqb y x) ys) head in
    ap (λ b. cond b (distinct (xs ++ ys)) (x ∷ distinct (xs ++ ys))) again
    ∙ distinct_behind xs ys (All-tail (λ z. list_any (λ y. eqb y z) ys ≡ true) x xs all)

distinct_few : (xs : List ℕ) → length (distinct xs) ≤ length xs
distinct_few [] = omega arith
distinct_few (x ∷ xs) = choice (list_any (λ y. eqb y x) xs) (distinct_few xs) where
  choice : (b : Bool) → length (distinct xs) ≤ length xs → length (cond b (distinct xs) (x ∷ distinct xs)) ≤ suc (length xs)
  choice true few = omega (arith, few)
  choice false few = omega (arith, few)

-- the numbers of a range differ
range_apart : (n : ℕ) → AllPairs (λ a b. a ≢ b) (range_with_len 1 n)
range_apart n = λ i j d below h.
    let few : j < n = omega (arith, h, length-range_with_len 1 n) in
    let at_i : get_or (range_with_len 1 n) i d ≡ 1 + i = get_or-range_with_len 1 n i d (omega (arith, below, few)) in
    let at_j : get_or (range_with_len 1 n) j d ≡ 1 + j = get_or-range_with_len 1 n j d few in
    λ same. absurd (omega (arith, below, at_i, at_j, same))

-- each end of an entry is a node
ends_known : (n : ℕ) (entries : List Entry) → All (IsInside n) entries
    → (All (λ x. list_any (λ y. eqb y x) (range_with_len 1 n) ≡ true) (map (λ e. e.row) entries)) × (All (λ x. list_any (λ y. eqb y x) (range_with_len 1 n) ≡ true) (map (λ e. e.column) entries))
ends_known n [] all = (All-nil (λ x. list_any (λ y. eqb y x) (range_with_len 1 n) ≡ true), All-nil (λ x. list_any (λ y. eqb y x) (range_with_len 1 n) ≡ true))
ends_known n (e ∷ es) all =
    let head : IsInside n e = All-head (IsInside n) e es all in
    let rest = ends_known n es (All-tail (IsInside n) e es all) in (
      All-cons (λ x. list_any (λ y. eqb y x) (range_with_len 1 n) ≡ true) e.row (map (λ e. e.row) es) (in_range n 1 e.row head.row_low (omega (arith, head.row_high))) rest.0,
      All-cons (λ x. list_any (λ y. eqb y x) (range_with_len 1 n) ≡ true) e.column (map (λ e. e.column) es) (in_range n 1 e.column head.column_low (omega (arith, head.column_high))) rest.1,
    )

-- ---- the graph

pub buildable : (shape : Shape) (limits : Limits) (m : Matrix) → IsSound limits m → limits.nodes ≤ 2147483647 → limits.edges ≤ 2147483647 → IsBuildable (raw_of shape m)
buildable shape limits m sound nodes edges =
    let n : ℕ = node_count m.size in
    let from : List ℕ = map (λ (e : Entry). e.row) m.entries in
    let to : List ℕ = map (λ (e : Entry). e.column) m.entries in
    let ends = ends_known (node_count m.size) m.entries sound.fine.inside in
    let known : All (λ x. list_any (λ y. eqb y x) (range_with_len 1 (node_count m.size)) ≡ true) (map (λ (e : Entry). e.row) m.entries ++ map (λ (e : Entry). e.column) m.entries) =
    All-append (λ x. list_any (λ y. eqb y x) (range_with_len 1 (node_count m.size)) ≡ true) (map (λ (e : Entry). e.row) m.entries) (map (λ (e : Entry). e.column) m.entries) ends.0 ends.1 in
    let same : distinct (map (λ (e : Entry). e.row) m.entries ++ map (λ (e : Entry). e.column) m.entries ++ range_with_len 1 (node_count m.size)) ≡ distinct (range_with_len 1 (node_count m.size)) =
    distinct_behind (map (λ (e : Entry). e.row) m.entries ++ map (λ (e : Entry). e.column) m.entries) (range_with_len 1 (node_count m.size)) known in
    let few : length (distinct (map (λ (e : Entry). e.row) m.entries ++ map (λ (e : Entry). e.column) m.entries ++ range_with_len 1 (node_count m.size))) ≤ node_count m.size =
    rw same (omega (arith, distinct_few (range_with_len 1 (node_count m.size)), length-range_with_len 1 (node_count m.size))) in
    record {
      both_ends = length-map m.entries (λ e. e.column) ∙ sym (length-map m.entries (λ e. e.row));
      edge_types = columns_types shape.edges (map (λ e. e.values) m.entries);
      edge_rows = columns_rows shape.edges (map (λ e. e.values) m.entries) (length (map (λ e. e.row) m.entries)) (length-map m.entries (λ e. e.values) ∙ sym (length-map m.entries (λ e. e.row)));
      node_types = zero_types (node_count m.size) shape.nodes;
      node_rows = zero_rows (node_count m.size) (length (range_with_len 1 (node_count m.size))) shape.nodes (sym (length-range_with_len 1 (node_count m.size)));
      one_row_a_node = range_apart (node_count m.size);
      few_nodes = omega (arith, few, sound.few_nodes, nodes);
      few_edges = omega (arith, length-map m.entries (λ e. e.row), sound.fine.count, sound.few_edges, edges);
    }

-- the matrix that was read
pub matrix_read : (shape : Shape) (limits : Limits) (text : List ℕ) (size : Size) (tables : Tables) → (h : HoldsMatrix shape limits text size tables) → Matrix
matrix_read shape limits text size tables h = record { size = size; entries = h.entries }

-- the raw graph of the tables of a text
pub made : (shape copy : Shape) (limits : Limits) (text : List ℕ) (size : Size) (tables : Tables) (raw : RawGraph) → copy ≡ shape → (h : HoldsMatrix shape limits text size tables)
    → ((entries : List Entry) → Holds copy.edges entries tables → raw ≡ raw_of copy (record { size = size; entries = entries }))
    → raw ≡ raw_of shape (record { size = size; entries = h.entries })
made shape copy limits text size tables raw same h gives =
    gives h.entries (rw same h.held) ∙ ap (λ s. raw_of s (record { size = size; entries = h.entries })) same

pub raw_buildable : (shape : Shape) (limits : Limits) (text : List ℕ) (size : Size) (tables : Tables) (raw : RawGraph) → (h : HoldsMatrix shape limits text size tables)
    → limits.nodes ≤ 2147483647 → limits.edges ≤ 2147483647 → raw ≡ raw_of shape (record { size = size; entries = h.entries }) → IsBuildable raw
raw_buildable shape limits text size tables raw h nodes edges is =
    rw is (buildable shape limits (record { size = size; entries = h.entries }) (matrix_sound shape limits (lines text) (record { size = size; entries = h.entries }) h.no_fault) nodes edges)

-- no more bytes than the limit
no_more : (shape : Shape) (limits : Limits) (text : List ℕ) → length text ≤ limits.bytes → matrix_of shape limits text ≡ matrix_in shape limits (lines text)
no_more shape limits text h =
    let fits : ltb limits.bytes (length text) ≡ false = grind (arith, nat_tests) in
    ap (λ b. cond b (Err fault.TooLong) (matrix_in shape limits (lines text))) fits

-- the graph of a text
pub stands : (shape : Shape) (limits : Limits) (text : List ℕ) (size : Size) (tables : Tables) (raw : RawGraph) (g : NumberedGraph) → length text ≤ limits.bytes → (h : HoldsMatrix shape limits text size tables)
    → raw ≡ raw_of shape (record { size = size; entries = h.entries }) → IsBuiltOf raw g → StandsFor shape limits text g
stands shape limits text size tables raw g fits h is built = record {
  matrix = record { size = size; entries = h.entries };
  no_fault = no_more shape limits text fits ∙ h.no_fault;
  built = rw (← is) built;
}

pub has_columns : (shape : Shape) (m : Matrix) (raw : RawGraph) (g : NumberedGraph) → raw ≡ raw_of shape m → IsBuiltOf raw g → HasColumns (length shape.nodes) (length shape.edges) g
has_columns shape m raw g is built =
    let all : IsBuiltOf (raw_of shape m) g = rw (← is) built in
    record {
      of_nodes = ap length all.node_columns ∙ length-map (map (zero_column (node_count m.size)) shape.nodes) (spread_out g.numbers (range_with_len 1 (node_count m.size))) ∙ length-map shape.nodes (zero_column (node_count m.size));
      of_edges = ap length all.edge_columns ∙ length-map (columns_of shape.edges (map (λ e. e.values) m.entries)) (λ c. c.values) ∙ columns_len shape.edges (map (λ e. e.values) m.entries);
    }
