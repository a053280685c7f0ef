-- Arguments and graphs of a program with another's inputs.
use Rattle.std.proofs.Common.{◌≡◌, ◌<◌, ◌≤◌, ℕ, zero, suc, Bool, true, false, cond, List, [], ◌∷◌, length, map, refl, ap, ◌∙◌, sym, subst, arith}
use Rattle.std.specs.Prelude.{◌+◌, ◌-◌, filter, nat_lt, slice_index_or, if◌then◌else◌}
use Rattle.gm_value.specs.declared.values.VType.{VType}
use Rattle.gm_value.specs.declared.values.Value.{Value}
use Rattle.gm_value.specs.Numbers.{zero_of}
use Rattle.gm_model.specs.Graphs.{NumberedGraph}
use Rattle.gm_ast.specs.declared.tree.Sort.{Sort}
use Rattle.gm_ast.specs.declared.tree.Sort.TheVariants as Sorts
use Rattle.gm_ast.specs.Names.{sort_eq}
use Rattle.gm_ast.specs.Program.{Program}
use Rattle.gm_semantics.specs.Levels.{numbers_from}
use Rattle.gm_semantics.specs.Outcomes.{is_of, count_before, input_value, column_value}
use Rattle.gm_forms.specs.Typing.{type_at}
use Rattle.gm_typed_stores.specs.Laws.{FitsBelow}
use Rattle.gm_typed_stores.specs.Values.{IsValue}
use Rattle.gm_lowering.specs.Layouts.{column_types}
use Rattle.gm_interface.specs.Tables.{HasTable, HasParametersOf}
use Rattle.gm_interface.proofs.Source.{typed-table}
use Rattle.gm_compilable.specs.Laws.{PartedFits, PartedHasColumns, BelowFits}
use Rattle.gm_compilable.specs.Parted.{parted}
use Rattle.gm_compilable.proofs.Tables.{parted-table, parted-parameters}

-- ---- filters over numbers

-- tests that agree on some numbers leave the same of them
pub filter-alike : (f g : ℕ → Bool) (k n : ℕ) → ((x : ℕ) → x < k + n → f x ≡ g x) → filter f (numbers_from k n) ≡ filter g (numbers_from k n)
filter-alike f g k zero h = refl
filter-alike f g k (suc n) h =
    ap (λ b. cond b (k ∷ filter f (numbers_from (suc k) n)) (filter f (numbers_from (suc k) n))) (h k (omega arith))
    ∙ ap (λ xs. cond (g k) (k ∷ xs) xs) (filter-alike f g (suc k) n (λ x lt. h x (omega (arith, lt))))

-- a test that no number from a bound on passes
pub filter-first : (f : ℕ → Bool) (k n m : ℕ) → ((x : ℕ) → f x ≡ true → x < k + n) → filter f (numbers_from k (n + m)) ≡ filter f (numbers_from k n)
filter-first f k zero m h = ap (λ i. filter f (numbers_from k i)) (let e : 0 + m ≡ m = omega arith in e) ∙ none k m (λ x e. let l = h x e in omega (arith, l)) where
  none : (j i : ℕ) → ((x : ℕ) → f x ≡ true → x < j) → filter f (numbers_from j i) ≡ []
  none j zero low = refl
  none j (suc i) low = ap (λ b. cond b (j ∷ filter f (numbers_from (suc j) i)) (filter f (numbers_from (suc j) i))) (fails (f j) refl) ∙ none (suc j) i (λ x e. let l = low x e in omega (arith, l)) where
    fails : (b : Bool) → f j ≡ b → b ≡ false
    fails false e = refl
    fails true e = let l = low j e in absurd (omega (arith, l))
filter-first f k (suc n) m h =
    ap (λ i. filter f (numbers_from k i)) (let e : suc n + m ≡ suc (n + m) = omega arith in e)
    ∙ ap (λ xs. cond (f k) (k ∷ xs) xs) (filter-first f (suc k) n m (λ x e. let l = h x e in omega (arith, l)))

module _ (p q : Program) (same : HasParametersOf p q) where
  sort-same : (s : Sort) (x : ℕ) → x < p.inputs + p.outputs → is_of q.declarations s x ≡ is_of p.declarations s x
  sort-same s x lt = ap (sort_eq s) (same.like x lt).sort

  -- the store begins with the same inputs
  count-same : (s : Sort) (x : ℕ) → x < p.inputs → count_before q.declarations s x ≡ count_before p.declarations s x
  count-same s x lt = ap length (filter-alike (is_of q.declarations s) (is_of p.declarations s) 0 x (λ y l. sort-same s y (omega (arith, l, lt))))

  type-same : (x : ℕ) → x < p.inputs → type_at q.declarations x ≡ type_at p.declarations x
  type-same x lt = (same.like x (omega (arith, lt))).vtype

  scalar-same : (s : Sort) (values : List Value) (x : ℕ) → x < p.inputs → input_value q s values x ≡ input_value p s values x
  scalar-same s values x lt =
      ap (λ i. if nat_lt x i then slice_index_or values (count_before q.declarations s x) (zero_of (type_at q.declarations x)) else zero_of (type_at q.declarations x)) same.inputs
      ∙ ap (λ t. if nat_lt x p.inputs then slice_index_or values (count_before q.declarations s x) (zero_of t) else zero_of t) (type-same x lt)
      ∙ ap (λ c. if nat_lt x p.inputs then slice_index_or values c (zero_of (type_at p.declarations x)) else zero_of (type_at p.declarations x)) (count-same s x lt)

  column-same : (s : Sort) (columns : List (List Value)) (x row : ℕ) → x < p.inputs → column_value q s columns x row ≡ column_value p s columns x row
  column-same s columns x row lt =
      ap (λ i. if nat_lt x i then slice_index_or (slice_index_or columns (count_before q.declarations s x) []) row (zero_of (type_at q.declarations x)) else zero_of (type_at q.declarations x)) same.inputs
      ∙ ap (λ t. if nat_lt x p.inputs then slice_index_or (slice_index_or columns (count_before q.declarations s x) []) row (zero_of t) else zero_of t) (type-same x lt)
      ∙ ap (λ c. if nat_lt x p.inputs then slice_index_or (slice_index_or columns c []) row (zero_of (type_at p.declarations x)) else zero_of (type_at p.declarations x)) (count-same s x lt)

  -- what fits a program fits one with its inputs
  pub fits-same : (limit : ℕ) (g : NumberedGraph) (args : List Value) → FitsBelow limit p g args → FitsBelow limit q g args
  fits-same limit g args h = record {
    graph = h.graph;
    scalars = λ x lt s. let l = inside x lt in held limit x l (input_value p Sorts.Scalar args x) (input_value q Sorts.Scalar args x) (scalar-same Sorts.Scalar args x l) (h.scalars x l (sort Sorts.Scalar x l s));
    nodes = λ x n lt s.
        let l = inside x lt in
        held limit x l (column_value p Sorts.NodeProperty g.node_columns x n) (column_value q Sorts.NodeProperty g.node_columns x n) (column-same Sorts.NodeProperty g.node_columns x n l) (h.nodes x n l (sort Sorts.NodeProperty x l s));
    edges = λ x e lt s.
        let l = inside x lt in
        held limit x l (column_value p Sorts.EdgeProperty g.edge_columns x e) (column_value q Sorts.EdgeProperty g.edge_columns x e) (column-same Sorts.EdgeProperty g.edge_columns x e l) (h.edges x e l (sort Sorts.EdgeProperty x l s));
  } where
    inside : (x : ℕ) → x < q.inputs → x < p.inputs
    inside x lt = subst (λ i. x < i) same.inputs lt

    sort : (s : Sort) (x : ℕ) → x < p.inputs → is_of q.declarations s x ≡ true → is_of p.declarations s x ≡ true
    sort s x lt e = sym (sort-same s x (omega (arith, lt))) ∙ e

    held : (limit x : ℕ) → x < p.inputs → (a b : Value) → b ≡ a → IsValue limit (type_at p.declarations x) a → IsValue limit (type_at q.declarations x) b
    held limit x lt a b e v = subst (λ t. IsValue limit t b) (sym (type-same x lt)) (subst (λ c. IsValue limit (type_at p.declarations x) c) (sym e) v)

-- ---- columns

-- the columns of a program are of its inputs
pub columns-first : (p : Program) → HasTable p → column_types p ≡ map (type_at p.declarations) (filter (is_of p.declarations Sorts.EdgeProperty) (numbers_from 0 p.inputs))
columns-first p h =
    let f = is_of p.declarations Sorts.EdgeProperty in
    let d : p.inputs + p.outputs ≤ length p.declarations = h.interface.declared in
    let e : length p.declarations ≡ p.inputs + (length p.declarations - p.inputs) = omega (arith, d) in
    ap (λ n. map (type_at p.declarations) (filter f (numbers_from 0 n))) e
    ∙ ap (map (type_at p.declarations)) (filter-first f 0 p.inputs (length p.declarations - p.inputs) (λ x t. let l = h.interface.edges x t in omega (arith, l)))

map-alike : (f g : ℕ → VType) (k : ℕ → Bool) (i n : ℕ) → ((x : ℕ) → x < i + n → f x ≡ g x) → map f (filter k (numbers_from i n)) ≡ map g (filter k (numbers_from i n))
map-alike f g k i zero h = refl
map-alike f g k i (suc n) h = by (k i) (map-alike f g k (suc i) n (λ x lt. h x (omega (arith, lt)))) where
  by : (b : Bool) → map f (filter k (numbers_from (suc i) n)) ≡ map g (filter k (numbers_from (suc i) n))
      → map f (cond b (i ∷ filter k (numbers_from (suc i) n)) (filter k (numbers_from (suc i) n))) ≡ map g (cond b (i ∷ filter k (numbers_from (suc i) n)) (filter k (numbers_from (suc i) n)))
  by true rest = ap (λ t. t ∷ map f (filter k (numbers_from (suc i) n))) (h i (omega arith)) ∙ ap (λ ts. g i ∷ ts) rest
  by false rest = rest

-- a program with another's inputs has its columns
pub columns-same : (p q : Program) → HasParametersOf p q → HasTable p → HasTable q → column_types q ≡ column_types p
columns-same p q same h k =
    columns-first q k ∙ ap (λ n. map (type_at q.declarations) (filter (is_of q.declarations Sorts.EdgeProperty) (numbers_from 0 n))) same.inputs
    ∙ ap (map (type_at q.declarations)) (filter-alike (is_of q.declarations Sorts.EdgeProperty) (is_of p.declarations Sorts.EdgeProperty) 0 p.inputs (λ x lt. sort-same p q same Sorts.EdgeProperty x (omega (arith, lt))))
    ∙ map-alike (type_at q.declarations) (type_at p.declarations) (is_of p.declarations Sorts.EdgeProperty) 0 p.inputs (λ x lt. (same.like x (omega (arith, lt))).vtype)
    ∙ sym (columns-first p h)

pub parted-fits : PartedFits
parted-fits limit p g args typed h = fits-same p (parted p) (parted-parameters p typed) limit g args h

pub parted-columns : PartedHasColumns
parted-columns p g typed h = ap length (columns-same p (parted p) (parted-parameters p typed) (typed-table p typed) (parted-table p typed)) ∙ h

pub below-fits : BelowFits
below-fits limit p g args h = record {
  graph = h.graph.graph;
  scalars = λ x lt e. (h.scalars x lt e).of_type;
  nodes = λ x n lt e. (h.nodes x n lt e).of_type;
  edges = λ x n lt e. (h.edges x n lt e).of_type;
}
