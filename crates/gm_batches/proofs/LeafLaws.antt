-- The columns of what stands alone in an expression.
use Rattle.std.proofs.Common.{◌≡◌, ◌∙◌, ◌<◌, ◌≤◌, ◌+◌, ◌-◌, ℕ, zero, suc, List, [], ◌∷◌, Option, Some, None, refl, ap, sym, map, length, replicate, get_or, drop, arith}
use Rattle.std.specs.Prelude.{All, Ok, slice_get, slice_range}
use Rattle.std.specs.List.{range_with_len}
use Rattle.std.specs.Option.{option_map, option_and_then}
use Rattle.std.proofs.lemmas.Option.{slice_get_read}
use Rattle.std.proofs.lemmas.List.{get_or-map, length-take, length-drop, get_or-take, get_or-drop}
use Rattle.std.proofs.lemmas.List.FromFn.{fill_by_all}
use Rattle.std.proofs.lemmas.List.Elements.{All-nil, All-cons, All-head, All-tail, All-get_or}
use Rattle.std.proofs.lemmas.Bool.{lt-ltb}
use Rattle.gm_value.specs.declared.values.VType.{VType}
use Rattle.gm_value.specs.declared.values.Value.{Value}
use Rattle.gm_value.specs.declared.values.Value.TheVariants.{At}
use Rattle.gm_columns.specs.Cells.{node_in}
use Rattle.gm_columns.specs.Columns.{IsStorable}
use Rattle.gm_image.specs.Term.{Term}
use Rattle.gm_kernels.specs.Pointwise.{before}
use Rattle.gm_machine.specs.Expressions.{View, value, value_at}
use Rattle.gm_batches.specs.declared.node_batches.NodeBatch.{NodeBatch}
use Rattle.gm_batches.specs.NodeBatches.{row_view}
use Rattle.gm_batches.specs.ValuesIn.{unless_fault, values_in}

-- what has the value of a function of the row
pub rows_in : (f : ℕ → View) (g : ℕ → Value) (e : Term) → ((row : ℕ) → value (f row) e ≡ Ok (g row)) → (rs : List ℕ)
    → values_in (map f rs) e ≡ Some (map g rs)
rows_in f g e same [] = refl
rows_in f g e same (r ∷ rs) = λ i. before (unless_fault (same r i)) (rows_in f g e same rs i)

-- what has one value in each row
constant-rows : (v : Value) (rs : List ℕ) → map (λ row. v) rs ≡ replicate (length rs) v
constant-rows v [] = refl
constant-rows v (r ∷ rs) = ap (λ vs. v ∷ vs) (constant-rows v rs)

pub constant_in : (b : NodeBatch) (e : Term) (v : Value) → ((row : ℕ) → value (row_view b row) e ≡ Ok v) → (rs : List ℕ) (n : ℕ) → n ≡ length rs
    → values_in (map (row_view b) rs) e ≡ Some (replicate n v)
constant_in b e v same rs n is = rows_in (row_view b) (λ row. v) e same rs ∙ ap (λ vs. Some vs) (constant-rows v rs ∙ ap (λ m. replicate m v) (sym is))

map-map : {A B C : Type 0} (f : B → C) (g : A → B) (xs : List A) → map f (map g xs) ≡ map (λ x. f (g x)) xs
map-map f g [] = refl
map-map f g (x ∷ xs) = ap (λ ys. f (g x) ∷ ys) (map-map f g xs)

-- a value of each of several is the value of the one with an index
pub one_of : {A : Type 0} (g : A → Value) (xs : List A) (k : ℕ) (x : A) → k < length xs → x ≡ get_or xs k x → value_at (map g xs) k ≡ g x
one_of g xs k x lt read = get_or-map g xs k x (At None) lt ∙ ap g (sym read)

-- the type of the one with an index
pub type_at : {A : Type 0} (t : A → Option VType) (xs : List A) (k : ℕ) (x : A) → k < length xs → x ≡ get_or xs k x → option_and_then t (slice_get xs k) ≡ t x
type_at t xs k x lt read = ap (option_and_then t) (slice_get_read xs (length xs) k x refl lt read)

pub type_of_one : {A : Type 0} (t : A → VType) (xs : List A) (k : ℕ) (x : A) → k < length xs → x ≡ get_or xs k x → option_map t (slice_get xs k) ≡ Some (t x)
type_of_one t xs k x lt read = ap (option_map t) (slice_get_read xs (length xs) k x refl lt read)

none-past : {A : Type 0} (xs : List A) (k : ℕ) → length xs ≤ k → slice_get xs k ≡ None
none-past [] k le = refl
none-past (x ∷ xs) zero le = absurd (omega (arith, le))
none-past (x ∷ xs) (suc k) le = none-past xs k (omega (arith, le))

pub no_type_at : {A : Type 0} (t : A → Option VType) (xs : List A) (k : ℕ) → length xs ≤ k → option_and_then t (slice_get xs k) ≡ None
no_type_at t xs k le = ap (option_and_then t) (none-past xs k le)

pub no_type : {A : Type 0} (t : A → VType) (xs : List A) (k : ℕ) → length xs ≤ k → option_map t (slice_get xs k) ≡ None
no_type t xs k le = ap (option_map t) (none-past xs k le)

-- the elements of a list by their index
pub all_rows : {A : Type 0} (xs : List A) (n : ℕ) (d : A) → length xs ≡ n → xs ≡ map (λ row. get_or xs row d) (range_with_len 0 n)
all_rows xs n d long = fill_by_all (λ row. get_or xs row d) xs n d long (λ k lt. refl)

-- the values at the places of all rows
pub all_between : (vs : List Value) (from to n : ℕ) → from + n ≡ to → to ≤ length vs → slice_range vs from to ≡ map (λ row. value_at vs (from + row)) (range_with_len 0 n)
all_between vs from to n at within =
    fill_by_all (λ row. value_at vs (from + row)) (slice_range vs from to) n (At None)
    (omega (arith, at, within, length-take (to - from) (drop from vs), length-drop from vs))
    (λ k lt. get_or-take (to - from) (drop from vs) k (At None) (omega (arith, lt, at)) ∙ get_or-drop from vs k (At None))

pub all_at : (vs : List Value) (places : List ℕ) (n : ℕ) → length places ≡ n → map (λ place. value_at vs place) places ≡ map (λ row. value_at vs (get_or places row 0)) (range_with_len 0 n)
all_at vs places n long =
    ap (map (λ place. value_at vs place)) (all_rows places n 0 long)
    ∙ map-map (λ place. value_at vs place) (λ row. get_or places row 0) (range_with_len 0 n)

-- the values at the places of some rows
pub some_places : (vs : List Value) (f : ℕ → ℕ) (rs places : List ℕ) → places ≡ map f rs → map (λ place. value_at vs place) places ≡ map (λ row. value_at vs (f row)) rs
some_places vs f rs places is = ap (map (λ place. value_at vs place)) is ∙ map-map (λ place. value_at vs place) f rs

-- the places of rows are places of cells
pub within_map : (P : ℕ → Type 0) (f : ℕ → ℕ) (rs : List ℕ) → All (λ row. P (f row)) rs → All P (map f rs)
within_map P f [] each = All-nil P
within_map P f (r ∷ rs) each =
    let Q : ℕ → Type 0 = λ row. P (f row) in
    All-cons P (f r) (map f rs) (All-head Q r rs each) (within_map P f rs (All-tail Q r rs each))

-- the nodes of rows have a place in memory
node-cell : (k : ℕ) → k < 4294967295 → node_in k ≡ At (Some k)
node-cell k below = rw (lt-ltb k 4294967295 below) refl

pub node_rows : (nodes rs : List ℕ) → All (λ node. IsStorable (At (Some node))) nodes → All (λ row. row < length nodes) rs
    → map node_in (map (λ row. get_or nodes row 0) rs) ≡ map (λ row. At (Some (get_or nodes row 0))) rs
node_rows nodes [] storable within = refl
node_rows nodes (r ∷ rs) storable within =
    let P : ℕ → Type 0 = λ row. row < length nodes in
    let here : get_or nodes r 0 < 4294967295 = All-get_or (λ node. IsStorable (At (Some node))) nodes r 0 (All-head P r rs within) storable in
    λ i. node-cell (get_or nodes r 0) here i ∷ node_rows nodes rs storable (All-tail P r rs within) i
