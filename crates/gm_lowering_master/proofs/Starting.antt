-- The first moment shows the first state.
use Rattle.std.proofs.Common.{◌≡◌, ◌≢◌, ◌<◌, ◌≤◌, ℕ, zero, suc, Bool, true, false, Option, Some, None, List, [], ◌∷◌, ◌++◌, length, map, refl, ap, ◌∙◌, sym, subst, arith}
use Rattle.std.specs.Prelude.{◌+◌, ◌&&◌, ◌||◌, not, nat_lt, nat_eq, filter, slice_get, slice_index_or, if◌then◌else◌}
use Rattle.std.specs.List.{list_any}
use Rattle.std.proofs.lemmas.Bool.{both_ways, lt-ltb, ltb-true, eq-eqb}
use Rattle.std.proofs.lemmas.List.{length-map}
use Rattle.std.proofs.lemmas.List.Elements.{recursion_from_All}
use Rattle.gm_value.specs.declared.values.VType.{VType}
use Rattle.gm_value.specs.declared.values.Value.{Value}
use Rattle.gm_value.specs.declared.values.Value.TheVariants.{At}
use Rattle.gm_value.specs.Numbers.{zero_of}
use Rattle.gm_model.specs.Graphs.{NumberedGraph, IsGraph, node_count, edge_count}
use Rattle.gm_ast.specs.declared.tree.Sort.TheVariants as Sorts
use Rattle.gm_ast.specs.declared.tree.Variable.{Variable}
use Rattle.gm_ast.specs.Names.{is}
use Rattle.gm_ast.specs.Program as S
use Rattle.gm_forms.proofs.Named.{both-true}
use Rattle.gm_forms.specs.Uses.{uses_of}
use Rattle.gm_semantics.specs.Levels.{numbers_from}
use Rattle.gm_semantics.specs.Outcomes.{is_of, count_before, first_store}
use Rattle.gm_semantics.specs.Statements.{variable_at}
use Rattle.gm_machine.specs.Expressions.{value_at, edge_value_at}
use Rattle.gm_machine.specs.Machine.{properties, with_inputs, row_at, start_control, start_nodes}
use Rattle.gm_lowering.specs.Layouts.{Layout, layout, those, rank, all_those, tested, types_of, is_global, is_register, has_value, has_field, names_property, named_globals, kept_globals, counted_globals, global_types, loop_types, spare_types, optional, nesting, phase_positions, body_positions, local_types, register_types, field_types, column_types}
use Rattle.gm_lowering.specs.Lowered.{lowered}
use Rattle.gm_lowering.specs.Sites.{phase_value}
use Rattle.gm_lowering_master.specs.Whole.{has_result, zero_of_result, HasInterface, Starts, FirstMomentsShow}
use Rattle.gm_lowering_master.proofs.Endings.{outside-global, behind-get}
use Rattle.gm_lowering_master.proofs.Puts.{puts, puts-long, puts-away, puts-first, long-all, inputs-scalars, inputs-properties, AreLong, row-value, cell-value, rows-at, rows-long}
use Rattle.gm_lowering_master.proofs.Ranks.{rank-found, rank-within, rank-apart, get-within, field-declared}
use Rattle.gm_lowering_master.proofs.Standing.{get-is-index_or}

get-map : {A B : Type 0} (f : A → B) (xs : List A) (i : ℕ) (x : A) → slice_get xs i ≡ Some x → slice_get (map f xs) i ≡ Some (f x)
get-map f [] i x e = cc
get-map f (y ∷ ys) zero x e = cc
get-map f (y ∷ ys) (suc i) x e = get-map f ys i x e

get-left : {A : Type 0} (xs ys : List A) (i : ℕ) (x : A) → slice_get xs i ≡ Some x → slice_get (xs ++ ys) i ≡ Some x
get-left [] ys i x e = cc
get-left (z ∷ xs) ys zero x e = e
get-left (z ∷ xs) ys (suc i) x e = get-left xs ys i x e

module _ (p : S.Program) (g : NumberedGraph) (args : List Value) (bound : ℕ) (face : HasInterface p) (graph : IsGraph g)
    (long_nodes : AreLong (node_count g) g.node_columns) (long_edges : AreLong (edge_count g) g.edge_columns) (columns : length (column_types p) ≡ length g.edge_columns) where
  abbrev c : Layout
  c = layout p

  abbrev n : ℕ
  n = length p.declarations

  abbrev variable : ℕ → Variable
  variable x = variable_at p.declarations x

  abbrev globals : List Value
  globals = (start_control (lowered p) args).globals

  -- the type of what a test passes is at its rank
  type-found : (test : ℕ → Bool) (x : ℕ) → x < n → test x ≡ true → slice_get (types_of p (all_those p test)) (rank test x) ≡ Some (variable x).vtype
  type-found test x lt e = get-map (λ y. (variable y).vtype) (those test n) (rank test x) x (rank-found test n x lt e)

  -- and its first value is there in a list that begins with these types
  zero-at : (types : List VType) (i : ℕ) (t : VType) → slice_get types i ≡ Some t → value_at (map zero_of types) i ≡ zero_of t
  zero-at types i t e = get-is-index_or (map zero_of types) i (zero_of t) (At None) (get-map zero_of types i t e)

  in-globals : (i : ℕ) (t : VType) → slice_get (kept_globals p) i ≡ Some t → slice_get (global_types p) i ≡ Some t
  in-globals i t e = get-left (counted_globals p) (spare_types (phase_positions p.declarations p.body)) i t (get-left (kept_globals p) (loop_types (nesting p.body)) i t e)

  global-found : (x : ℕ) → x < n → is_global (variable x) ≡ true → slice_get (global_types p) (c.global x) ≡ Some (variable x).vtype
  global-found x lt e = in-globals (c.global x) (variable x).vtype (get-left (named_globals p) (optional p.result) (c.global x) (variable x).vtype (type-found (tested p is_global) x lt e))

  -- inputs are declared outside of loops
  input-declared : (x : ℕ) → x < p.inputs → x < n
  input-declared x lt = let few : p.inputs + p.outputs ≤ n = face.declared in omega (arith, few)

  input-outside : (x : ℕ) → x < p.inputs → (variable x).depth ≡ 0
  input-outside x lt = face.outside x (omega arith)

  input-global : (x : ℕ) → x < p.inputs → is Sorts.Scalar (variable x) ≡ true → is_global (variable x) ≡ true
  input-global x lt e = outside-global (variable x) (input-outside x lt) e

  input-field : (x : ℕ) → x < p.inputs → is Sorts.NodeProperty (variable x) ≡ true → has_field p x ≡ true
  input-field x lt e =
      ap (λ b. b && (nat_lt x (p.inputs + p.outputs) || list_any (names_property x) (uses_of p.body))) e
      ∙ ap (λ b. b || list_any (names_property x) (uses_of p.body)) (lt-ltb x (p.inputs + p.outputs) (omega arith))

  globals-are : globals ≡ puts c.global (filter (is_of p.declarations Sorts.Scalar) (numbers_from 0 p.inputs)) args (map zero_of (global_types p))
  globals-are = inputs-scalars p (numbers_from 0 p.inputs) args (map zero_of (global_types p))

  -- a global that is no input's has its first value
  global-other : (i : ℕ) (t : VType) → slice_get (global_types p) i ≡ Some t → ((y : ℕ) → y < p.inputs → is Sorts.Scalar (variable y) ≡ true → c.global y ≢ i) → value_at globals i ≡ zero_of t
  global-other i t e away =
      ap (λ vs. value_at vs i) globals-are
      ∙ puts-away (is_of p.declarations Sorts.Scalar) c.global 0 p.inputs args (map zero_of (global_types p)) i (λ y le lt s. away y (let z : 0 + p.inputs ≡ p.inputs = omega arith in subst (λ m. y < m) z lt) s)
      ∙ zero-at (global_types p) i t e

  global-input : (x : ℕ) → x < p.inputs → is Sorts.Scalar (variable x) ≡ true → value_at globals (c.global x) ≡ slice_index_or args (count_before p.declarations Sorts.Scalar x) (zero_of (variable x).vtype)
  global-input x lt e =
      let found = global-found x (input-declared x lt) (input-global x lt e) in
      let within : c.global x < length (map zero_of (global_types p)) = subst (λ m. c.global x < m) (sym (length-map (global_types p) zero_of)) (get-within (global_types p) (c.global x) (variable x).vtype found) in
      ap (λ vs. value_at vs (c.global x)) globals-are
      ∙ puts-first (is_of p.declarations Sorts.Scalar) c.global p.inputs (λ y z a b s t same. rank-apart (tested p is_global) n y z (input-declared y a) (input-declared z b) (input-global y a s) (input-global z b t) same)
      p.inputs x args (map zero_of (global_types p)) lt (omega arith) e within
      ∙ ap (slice_index_or args (count_before p.declarations Sorts.Scalar x)) (zero-at (global_types p) (c.global x) (variable x).vtype found)

  -- what is not below is not
  not-below : (x y : ℕ) → nat_lt x p.inputs ≡ false → y < p.inputs → y ≡ x → ⊥
  not-below x y e lt same = both_ways (nat_lt x p.inputs) e (ap (λ z. nat_lt z p.inputs) (sym same) ∙ lt-ltb y p.inputs lt)

  or-first : (a b : Bool) → a || b ≡ true → b ≡ false → a ≡ true
  or-first true b h e = refl
  or-first false b h e = absurd (both_ways b e h)

  scalars-shown : (x : ℕ) → x < n → is_register (variable x) ≡ false → has_value (variable x) ≡ true → phase_value c globals x ≡ (first_store p g args).scalar x
  scalars-shown x lt r h = by (nat_lt x p.inputs) (is_global (variable x)) refl refl where
    is-scalar : nat_lt x p.inputs ≡ true → is Sorts.Scalar (variable x) ≡ true
    is-scalar b = or-first (is Sorts.Scalar (variable x)) (is Sorts.Iterator (variable x)) h (face.no_iterator x (ltb-true x p.inputs b))

    by : (b o : Bool) → nat_lt x p.inputs ≡ b → is_global (variable x) ≡ o
        → (if o then value_at globals (c.global x) else zero_of (variable x).vtype) ≡ (if b then slice_index_or args (count_before p.declarations Sorts.Scalar x) (zero_of (variable x).vtype) else zero_of (variable x).vtype)
    by true true b o = global-input x (ltb-true x p.inputs b) (is-scalar b)
    by true false b o = absurd (both_ways (is_global (variable x)) o (input-global x (ltb-true x p.inputs b) (is-scalar b)))
    by false true b o =
        global-other (c.global x) (variable x).vtype (global-found x lt o)
        (λ y less s same. not-below x y b less (rank-apart (tested p is_global) n y x (input-declared y less) lt (input-global y less s) o same))
    by false false b o = refl

  locals-shown : (x : ℕ) → x < n → is_register (variable x) ≡ true → value_at (map zero_of (register_types p)) (c.register x) ≡ (first_store p g args).scalar x
  locals-shown x lt r = by (nat_lt x p.inputs) refl where
    and-not : (a b : Bool) → b ≡ true → a && not b ≡ false
    and-not a true e = and-false a where
      and-false : (a : Bool) → a && false ≡ false
      and-false true = refl
      and-false false = refl
    and-not a false e = absurd (both_ways false refl e)

    by : (b : Bool) → nat_lt x p.inputs ≡ b
        → value_at (map zero_of (register_types p)) (c.register x) ≡ (if b then slice_index_or args (count_before p.declarations Sorts.Scalar x) (zero_of (variable x).vtype) else zero_of (variable x).vtype)
    by true b = absurd (both_ways (is_register (variable x)) (and-not (is Sorts.Scalar (variable x)) (nat_eq (variable x).depth 0) (eq-eqb (variable x).depth 0 (input-outside x (ltb-true x p.inputs b)))) r)
    by false b = zero-at (register_types p) (c.register x) (variable x).vtype (get-left (local_types p) (spare_types (body_positions p.declarations p.body)) (c.register x) (variable x).vtype (type-found (tested p is_register) x lt r))

  -- the fields of a node
  abbrev row : ℕ → List Value
  row k = with_inputs (properties (lowered p).inputs) (row_at g.node_columns k) (map zero_of (field_types p))

  row-is : (k : ℕ) → row k ≡ puts c.field (filter (is_of p.declarations Sorts.NodeProperty) (numbers_from 0 p.inputs)) (row_at g.node_columns k) (map zero_of (field_types p))
  row-is k = inputs-properties p (numbers_from 0 p.inputs) (row_at g.node_columns k) (map zero_of (field_types p))

  row-at : (k : ℕ) → k < node_count g → slice_index_or (start_nodes (lowered p) g).fields k [] ≡ row k
  row-at k lt = rows-at row 0 g.numbers k lt ∙ ap row (let z : 0 + k ≡ k = omega arith in z)

  row-long : (k : ℕ) → length (row k) ≡ length (field_types p)
  row-long k =
      ap length (row-is k) ∙ puts-long c.field (filter (is_of p.declarations Sorts.NodeProperty) (numbers_from 0 p.inputs)) (row_at g.node_columns k) (map zero_of (field_types p))
      ∙ length-map (field_types p) zero_of

  properties-shown : (k : ℕ) → k < node_count g → (x : ℕ) → has_field p x ≡ true → value_at (row k) (c.field x) ≡ (first_store p g args).node x k
  properties-shown k lt x kept = ap (λ vs. value_at vs (c.field x)) (row-is k) ∙ by (nat_lt x p.inputs) refl where
    found : slice_get (field_types p) (c.field x) ≡ Some (variable x).vtype
    found = type-found (has_field p) x (field-declared p x kept) kept

    within : c.field x < length (map zero_of (field_types p))
    within = subst (λ m. c.field x < m) (sym (length-map (field_types p) zero_of)) (get-within (field_types p) (c.field x) (variable x).vtype found)

    property : is Sorts.NodeProperty (variable x) ≡ true
    property = (both-true (is Sorts.NodeProperty (variable x)) (nat_lt x (p.inputs + p.outputs) || list_any (names_property x) (uses_of p.body)) kept).0

    by : (b : Bool) → nat_lt x p.inputs ≡ b
        → value_at (puts c.field (filter (is_of p.declarations Sorts.NodeProperty) (numbers_from 0 p.inputs)) (row_at g.node_columns k) (map zero_of (field_types p))) (c.field x)
        ≡ (if b then slice_index_or (slice_index_or g.node_columns (count_before p.declarations Sorts.NodeProperty x) []) k (zero_of (variable x).vtype) else zero_of (variable x).vtype)
    by true b =
        puts-first (is_of p.declarations Sorts.NodeProperty) c.field p.inputs
        (λ y z a d s t same. rank-apart (has_field p) n y z (input-declared y a) (input-declared z d) (input-field y a s) (input-field z d t) same)
        p.inputs x (row_at g.node_columns k) (map zero_of (field_types p)) (ltb-true x p.inputs b) (omega arith) property within
        ∙ ap (slice_index_or (row_at g.node_columns k) (count_before p.declarations Sorts.NodeProperty x)) (zero-at (field_types p) (c.field x) (variable x).vtype found)
        ∙ row-value (node_count g) g.node_columns (count_before p.declarations Sorts.NodeProperty x) k (zero_of (variable x).vtype) long_nodes lt
    by false b =
        puts-away (is_of p.declarations Sorts.NodeProperty) c.field 0 p.inputs (row_at g.node_columns k) (map zero_of (field_types p)) (c.field x)
        (λ y le less s same. let z : 0 + p.inputs ≡ p.inputs = omega arith in let low : y < p.inputs = subst (λ m. y < m) z less in
        not-below x y b low (rank-apart (has_field p) n y x (input-declared y low) (field-declared p x kept) (input-field y low s) kept same))
        ∙ zero-at (field_types p) (c.field x) (variable x).vtype found

  edges-shown : (x e : ℕ) → x < n → is Sorts.EdgeProperty (variable x) ≡ true → e < edge_count g → edge_value_at g (c.column x) e ≡ (first_store p g args).edge x e
  edges-shown x e lt h less =
      cell-value (edge_count g) g.edge_columns (c.column x) e (zero_of (variable x).vtype) long_edges
      (subst (λ m. c.column x < m) (sym (length-map (those (tested p (is Sorts.EdgeProperty)) n) (λ y. (variable y).vtype)) ∙ columns) (rank-within (tested p (is Sorts.EdgeProperty)) n x lt h)) less
      ∙ sym (ap (λ b. if b then slice_index_or (slice_index_or g.edge_columns (count_before p.declarations Sorts.EdgeProperty x) []) e (zero_of (variable x).vtype) else zero_of (variable x).vtype) (lt-ltb x p.inputs (face.edges x h)))

  result-starts : has_result p.result ≡ true → value_at globals c.result ≡ zero_of_result p.result
  result-starts h = by p.result refl h where
    by : (o : Option VType) → p.result ≡ o → has_result o ≡ true → value_at globals c.result ≡ zero_of_result o
    by None e h = absurd (both_ways false refl h)
    by (Some t) e h =
        global-other c.result t (in-globals c.result t (ap (λ r. slice_get (named_globals p ++ optional r) (length (named_globals p))) e ∙ behind-get (named_globals p) t))
        (λ y lt s same.
        let low : rank (tested p is_global) y < length (those (tested p is_global) n) = rank-within (tested p is_global) n y (input-declared y lt) (input-global y lt s) in
        let l : length (named_globals p) ≡ length (those (tested p is_global) n) = length-map (those (tested p is_global) n) (λ z. (variable z).vtype) in
        absurd (omega (arith, low, l, same)))

  pub starts : Starts p g args bound
  starts = record {
    at = record {
      between = record {
        shown = record {
          scalars = scalars-shown;
          locals = locals-shown;
          properties = λ k lt x kept. ap (λ vs. value_at vs (c.field x)) (row-at k lt) ∙ properties-shown k lt x kept;
          widths = λ k lt. ap length (row-at k lt) ∙ row-long k;
          all_nodes = rows-long row 0 g.numbers;
          idle = refl;
        };
        edges = edges-shown;
        count = ap length globals-are ∙ puts-long c.global (filter (is_of p.declarations Sorts.Scalar) (numbers_from 0 p.inputs)) args (map zero_of (global_types p)) ∙ length-map (global_types p) zero_of;
      };
      turns = refl;
      left = (let z : bound + 0 ≡ bound = omega arith in z);
    };
    result = result-starts;
  }

pub first-moments-show : FirstMomentsShow
first-moments-show p g args bound face graph columns =
    starts p g args bound face graph
    (long-all (node_count g) g.node_columns (recursion_from_All (λ vs. length vs ≡ node_count g) g.node_columns graph.node_rows))
    (long-all (edge_count g) g.edge_columns (recursion_from_All (λ vs. length vs ≡ edge_count g) g.edge_columns graph.edge_rows)) columns
