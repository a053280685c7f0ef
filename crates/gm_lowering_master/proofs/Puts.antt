-- What inputs put into slots.
use Rattle.std.proofs.Common.{◌≡◌, ◌≢◌, ◌<◌, ◌≤◌, ℕ, zero, suc, Bool, true, false, cond, None, List, [], ◌∷◌, ◌++◌, length, map, refl, ap, ◌∙◌, sym, subst, arith}
use Rattle.std.specs.Prelude.{◌+◌, filter, slice_get, slice_set, slice_index_or, unwrap_or}
use Rattle.std.specs.List.{flat_map, enumerate_from, AllByRecursion}
use Rattle.std.proofs.lemmas.List.{get_or-set_same, get_or-set_other, length-set, get_or_default}
use Rattle.gm_value.specs.declared.values.Value.{Value}
use Rattle.gm_value.specs.declared.values.Value.TheVariants.{At}
use Rattle.gm_columns.specs.Columns.{cell_at}
use Rattle.gm_ast.specs.declared.tree.Sort.{Sort}
use Rattle.gm_ast.specs.declared.tree.Sort.TheVariants as Sorts
use Rattle.gm_ast.specs.Names.{is}
use Rattle.gm_ast.specs.Program as S
use Rattle.gm_semantics.specs.Levels.{numbers_from}
use Rattle.gm_semantics.specs.Outcomes.{is_of}
use Rattle.gm_semantics.specs.Statements.{variable_at}
use Rattle.gm_image.specs.Program.{Item}
use Rattle.gm_machine.specs.Expressions.{value_at}
use Rattle.gm_machine.specs.Machine.{scalars, properties, with_inputs}
use Rattle.gm_lowering.specs.Layouts.{layout}
use Rattle.gm_lowering.specs.Lowered.{items_by}

-- values put into the slots of variables
abbrev pub puts : (ℕ → ℕ) → List ℕ → List Value → List Value → List Value
puts slot [] vs held = held
puts slot (x ∷ xs) [] held = held
puts slot (x ∷ xs) (v ∷ vs) held = puts slot xs vs (slice_set held (slot x) v)

pub puts-long : (slot : ℕ → ℕ) (xs : List ℕ) (vs held : List Value) → length (puts slot xs vs held) ≡ length held
puts-long slot [] vs held = refl
puts-long slot (x ∷ xs) [] held = refl
puts-long slot (x ∷ xs) (v ∷ vs) held = puts-long slot xs vs (slice_set held (slot x) v) ∙ length-set held (slot x) v

module _ (test : ℕ → Bool) (slot : ℕ → ℕ) where
  -- a slot of none of the variables
  pub puts-away : (k n : ℕ) (vs held : List Value) (i : ℕ) → ((y : ℕ) → k ≤ y → y < k + n → test y ≡ true → slot y ≢ i) → value_at (puts slot (filter test (numbers_from k n)) vs held) i ≡ value_at held i
  puts-away k zero vs held i away = refl
  puts-away k (suc n) vs held i away = by (test k) refl vs (λ us all. puts-away (suc k) n us all i (λ y le lt e. away y (omega (arith, le)) (omega (arith, lt)) e)) where
    by : (b : Bool) → test k ≡ b → (us : List Value) → ((us all : List Value) → value_at (puts slot (filter test (numbers_from (suc k) n)) us all) i ≡ value_at all i)
        → value_at (puts slot (cond b (k ∷ filter test (numbers_from (suc k) n)) (filter test (numbers_from (suc k) n))) us held) i ≡ value_at held i
    by true e [] rest = refl
    by true e (v ∷ us) rest = rest us (slice_set held (slot k) v) ∙ get_or-set_other held (slot k) i v (At None) (λ same. away k (omega arith) (omega arith) e (sym same))
    by false e us rest = rest us held

  -- the slot of a variable has its value, if there is one, by its rank among them
  pub puts-at : (bound : ℕ) → ((y z : ℕ) → y < bound → z < bound → test y ≡ true → test z ≡ true → slot y ≡ slot z → y ≡ z)
      → (k n j : ℕ) (vs held : List Value) → j < n → k + n ≤ bound → test (k + j) ≡ true → slot (k + j) < length held
      → value_at (puts slot (filter test (numbers_from k n)) vs held) (slot (k + j)) ≡ slice_index_or vs (length (filter test (numbers_from k j))) (value_at held (slot (k + j)))
  puts-at bound apart k zero j vs held lt le e within = absurd (omega arith)
  puts-at bound apart k (suc n) zero vs held lt le e within = by vs where
    z : k + 0 ≡ k
    z = omega arith

    here : test k ≡ true
    here = ap test (sym z) ∙ e

    by : (us : List Value) → value_at (puts slot (filter test (numbers_from k (suc n))) us held) (slot (k + 0)) ≡ slice_index_or us 0 (value_at held (slot (k + 0)))
    by us = ap (λ b. value_at (puts slot (cond b (k ∷ filter test (numbers_from (suc k) n)) (filter test (numbers_from (suc k) n))) us held) (slot (k + 0))) here ∙ with_first us where
      with_first : (us : List Value) → value_at (puts slot (k ∷ filter test (numbers_from (suc k) n)) us held) (slot (k + 0)) ≡ slice_index_or us 0 (value_at held (slot (k + 0)))
      with_first [] = refl
      with_first (v ∷ us) =
          puts-away (suc k) n us (slice_set held (slot k) v) (slot (k + 0)) (λ y less lt' e' same. let q = apart y (k + 0) (omega (arith, lt', le)) (omega (arith, le)) e' e same in absurd (omega (arith, q, less)))
          ∙ ap (λ i. value_at (slice_set held (slot k) v) (slot i)) z
          ∙ get_or-set_same held (slot k) v (At None) (subst (λ i. slot i < length held) z within)
  puts-at bound apart k (suc n) (suc j) vs held lt le e within =
      by (test k) refl vs (λ us all m. subst (λ i. value_at (puts slot (filter test (numbers_from (suc k) n)) us all) (slot i) ≡ slice_index_or us (length (filter test (numbers_from (suc k) j))) (value_at all (slot i))) z
      (puts-at bound apart (suc k) n j us all (omega arith) (omega (arith, le)) (ap test z ∙ e) (subst (λ i. slot i < length all) (sym z) (subst (λ m. slot (k + suc j) < m) (sym m) within)))) where
        z : suc k + j ≡ k + suc j
        z = omega arith

        by : (b : Bool) → test k ≡ b → (us : List Value)
            → ((us all : List Value) → length all ≡ length held → value_at (puts slot (filter test (numbers_from (suc k) n)) us all) (slot (k + suc j)) ≡ slice_index_or us (length (filter test (numbers_from (suc k) j))) (value_at all (slot (k + suc j))))
            → value_at (puts slot (cond b (k ∷ filter test (numbers_from (suc k) n)) (filter test (numbers_from (suc k) n))) us held) (slot (k + suc j))
            ≡ slice_index_or us (length (cond b (k ∷ filter test (numbers_from (suc k) j)) (filter test (numbers_from (suc k) j)))) (value_at held (slot (k + suc j)))
        by true o [] rest = refl
        by true o (v ∷ us) rest =
            rest us (slice_set held (slot k) v) (length-set held (slot k) v)
            ∙ ap (slice_index_or us (length (filter test (numbers_from (suc k) j)))) (get_or-set_other held (slot k) (slot (k + suc j)) v (At None)
            (λ same. let q = apart k (k + suc j) (omega (arith, le)) (omega (arith, le, lt)) o e (sym same) in absurd (omega (arith, q))))
        by false o us rest = rest us held refl

  -- the same from the first number on
  pub puts-first : (bound : ℕ) → ((y z : ℕ) → y < bound → z < bound → test y ≡ true → test z ≡ true → slot y ≡ slot z → y ≡ z)
      → (n x : ℕ) (vs held : List Value) → x < n → n ≤ bound → test x ≡ true → slot x < length held
      → value_at (puts slot (filter test (numbers_from 0 n)) vs held) (slot x) ≡ slice_index_or vs (length (filter test (numbers_from 0 x))) (value_at held (slot x))
  puts-first bound apart n x vs held lt le e within =
      let z : 0 + x ≡ x = omega arith in
      subst (λ i. value_at (puts slot (filter test (numbers_from 0 n)) vs held) (slot i) ≡ slice_index_or vs (length (filter test (numbers_from 0 x))) (value_at held (slot i))) z
      (puts-at bound apart 0 n x vs held lt (omega (arith, le)) (ap test z ∙ e) (subst (λ i. slot i < length held) (sym z) within))

module _ (p : S.Program) where
  abbrev items_of : ℕ → List Item
  items_of x = items_by p (variable_at p.declarations x).sort x

  pub inputs-scalars : (xs : List ℕ) (vs held : List Value) → with_inputs (scalars (flat_map items_of xs)) vs held ≡ puts (layout p).global (filter (is_of p.declarations Sorts.Scalar) xs) vs held
  inputs-scalars [] vs held = refl
  inputs-scalars (x ∷ xs) vs held = by (variable_at p.declarations x).sort vs (λ us all. inputs-scalars xs us all) where
    by : (sort : Sort) (us : List Value) → ((us all : List Value) → with_inputs (scalars (flat_map items_of xs)) us all ≡ puts (layout p).global (filter (is_of p.declarations Sorts.Scalar) xs) us all)
        → with_inputs (scalars (items_by p sort x ++ flat_map items_of xs)) us held ≡ puts (layout p).global (cond (is Sorts.Scalar (record (variable_at p.declarations x) { sort = sort })) (x ∷ filter (is_of p.declarations Sorts.Scalar) xs) (filter (is_of p.declarations Sorts.Scalar) xs)) us held
    by Sorts.Scalar [] rest = refl
    by Sorts.Scalar (v ∷ us) rest = rest us (slice_set held ((layout p).global x) v)
    by Sorts.NodeProperty us rest = rest us held
    by Sorts.EdgeProperty us rest = rest us held
    by Sorts.Graph us rest = rest us held
    by Sorts.Iterator us rest = rest us held
    by Sorts.Edge us rest = rest us held

  pub inputs-properties : (xs : List ℕ) (vs held : List Value) → with_inputs (properties (flat_map items_of xs)) vs held ≡ puts (layout p).field (filter (is_of p.declarations Sorts.NodeProperty) xs) vs held
  inputs-properties [] vs held = refl
  inputs-properties (x ∷ xs) vs held = by (variable_at p.declarations x).sort vs (λ us all. inputs-properties xs us all) where
    by : (sort : Sort) (us : List Value) → ((us all : List Value) → with_inputs (properties (flat_map items_of xs)) us all ≡ puts (layout p).field (filter (is_of p.declarations Sorts.NodeProperty) xs) us all)
        → with_inputs (properties (items_by p sort x ++ flat_map items_of xs)) us held ≡ puts (layout p).field (cond (is Sorts.NodeProperty (record (variable_at p.declarations x) { sort = sort })) (x ∷ filter (is_of p.declarations Sorts.NodeProperty) xs) (filter (is_of p.declarations Sorts.NodeProperty) xs)) us held
    by Sorts.NodeProperty [] rest = refl
    by Sorts.NodeProperty (v ∷ us) rest = rest us (slice_set held ((layout p).field x) v)
    by Sorts.Scalar us rest = rest us held
    by Sorts.EdgeProperty us rest = rest us held
    by Sorts.Graph us rest = rest us held
    by Sorts.Iterator us rest = rest us held
    by Sorts.Edge us rest = rest us held

-- columns whose rows are all there
abbrev pub AreLong : ℕ → List (List Value) → Type 0
AreLong n [] = Unit {0}
AreLong n (vs ∷ cols) = (length vs ≡ n) × AreLong n cols

pub row-value : (n : ℕ) (cols : List (List Value)) (i k : ℕ) (d : Value) → AreLong n cols → k < n → slice_index_or (map (λ vs. value_at vs k) cols) i d ≡ slice_index_or (slice_index_or cols i []) k d
row-value n [] zero k d long lt = refl
row-value n [] (suc i) k d long lt = refl
row-value n (vs ∷ cols) zero k d long lt = get_or_default vs k (At None) d (subst (λ m. k < m) (sym long.0) lt)
row-value n (vs ∷ cols) (suc i) k d long lt = row-value n cols i k d long.1 lt

get-value : (vs : List Value) (e : ℕ) (d f : Value) → e < length vs → unwrap_or (slice_get vs e) d ≡ slice_index_or vs e f
get-value [] e d f lt = absurd (omega arith)
get-value (v ∷ vs) zero d f lt = refl
get-value (v ∷ vs) (suc e) d f lt = get-value vs e d f (omega arith)

pub cell-value : (n : ℕ) (cols : List (List Value)) (i e : ℕ) (d : Value) → AreLong n cols → i < length cols → e < n → unwrap_or (cell_at cols i e) (At None) ≡ slice_index_or (slice_index_or cols i []) e d
cell-value n [] i e d long lt less = absurd (omega arith)
cell-value n (vs ∷ cols) zero e d long lt less = get-value vs e (At None) d (subst (λ m. e < m) (sym long.0) less)
cell-value n (vs ∷ cols) (suc i) e d long lt less = cell-value n cols i e d long.1 (omega arith) less

pub rows-at : (F : ℕ → List Value) (k : ℕ) (xs : List ℕ) (i : ℕ) → i < length xs → slice_index_or (map (λ at. F at.0) (enumerate_from k xs)) i [] ≡ F (k + i)
rows-at F k [] i lt = absurd (omega arith)
rows-at F k (x ∷ xs) zero lt = ap F (let z : k ≡ k + 0 = omega arith in z)
rows-at F k (x ∷ xs) (suc i) lt = rows-at F (k + 1) xs i (omega arith) ∙ ap F (let z : (k + 1) + i ≡ k + suc i = omega arith in z)

pub rows-long : (F : ℕ → List Value) (k : ℕ) (xs : List ℕ) → length (map (λ at. F at.0) (enumerate_from k xs)) ≡ length xs
rows-long F k [] = refl
rows-long F k (x ∷ xs) = ap suc (rows-long F (k + 1) xs)

pub long-all : (n : ℕ) (cols : List (List Value)) → AllByRecursion (λ vs. length vs ≡ n) cols → AreLong n cols
long-all n [] h = tt
long-all n (vs ∷ cols) h = (h.0, long-all n cols h.1)
