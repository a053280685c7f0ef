-- The rows of properties with which a run begins.
use Rattle.std.proofs.Common.{◌≡◌, ◌∙◌, ◌<◌, ◌≤◌, ◌+◌, ℕ, zero, suc, Bool, true, false, ◌&&◌, if◌then◌else◌, List, [], ◌∷◌, length, Some, refl, ap, sym, arith, ⊎_elim}
use Rattle.std.specs.Prelude.{slice_get, slice_index_or, nat_lt, nat_eq, ◌⊎◌}
use Rattle.std.proofs.lemmas.Bool.{lt-ltb, le-ltb, eq-eqb, ne_eqb, cases_lt, cases_order}
use Rattle.std.proofs.lemmas.List.{get_or_past}
use Rattle.std.proofs.lemmas.Option.{get_or_from_slice_get}
use Rattle.gm_value.specs.declared.values.Value.{Value}
use Rattle.gm_columns.specs.Columns.{cell_at}

-- a cell of a column
pub cell-got : (columns : List (List Value)) (c r : ℕ) (v : Value) → cell_at columns c r ≡ Some v → slice_get (slice_index_or columns c []) r ≡ Some v
cell-got [] c r v e = cc
cell-got (xs ∷ columns) zero r v e = e
cell-got (xs ∷ columns) (suc c) r v e = cell-got columns c r v e

-- a property of which no node has its value yet
pub fill-begins : (x q m : ℕ) (vals : List Value) (d : Value) → d ≡ (if nat_eq x q && nat_lt m 0 then slice_index_or vals m d else d)
fill-begins x q m vals d = by_test (nat_eq x q) where
  by_test : (b : Bool) → d ≡ (if b && nat_lt m 0 then slice_index_or vals m d else d)
  by_test true = sym (ap (λ b. if b then slice_index_or vals m d else d) (le-ltb m 0 (omega arith)))
  by_test false = refl

-- a property with the value of one node more
pub fill-next : (x q k m : ℕ) (vals : List Value) (v d old new : Value) → slice_get vals k ≡ Some v → new ≡ (if nat_eq x q && nat_eq k m then v else old)
    → old ≡ (if nat_eq x q && nat_lt m k then slice_index_or vals m d else d) → new ≡ (if nat_eq x q && nat_lt m (k + 1) then slice_index_or vals m d else d)
fill-next x q k m vals v d old new got = by_test (nat_eq x q) where
  by_test : (b : Bool) → new ≡ (if b && nat_eq k m then v else old) → old ≡ (if b && nat_lt m k then slice_index_or vals m d else d) → new ≡ (if b && nat_lt m (k + 1) then slice_index_or vals m d else d)
  by_test false n o = n ∙ o
  by_test true n o =
      ⊎_elim
      (λ (e : k ≡ m).
      n ∙ ap (λ b. if b then v else old) (eq-eqb k m e)
      ∙ sym (ap (λ b. if b then slice_index_or vals m d else d) (lt-ltb m (k + 1) (omega arith)) ∙ get_or_from_slice_get vals m v d (ap (slice_get vals) (sym e) ∙ got)))
      (λ (r : (k < m) ⊎ (m < k)).
      ⊎_elim
      (λ (lt : k < m).
      n ∙ ap (λ b. if b then v else old) (ne_eqb k m (λ e. omega arith))
      ∙ o ∙ ap (λ b. if b then slice_index_or vals m d else d) (le-ltb m k (omega arith))
      ∙ sym (ap (λ b. if b then slice_index_or vals m d else d) (le-ltb m (k + 1) (omega arith))))
      (λ (gt : m < k).
      n ∙ ap (λ b. if b then v else old) (ne_eqb k m (λ e. omega arith))
      ∙ o ∙ ap (λ b. if b then slice_index_or vals m d else d) (lt-ltb m k (omega arith))
      ∙ sym (ap (λ b. if b then slice_index_or vals m d else d) (lt-ltb m (k + 1) (omega arith))))
      r)
      (cases_order k m)

-- a property of which all nodes have their values
pub fill-ends : (x q m count : ℕ) (vals : List Value) (d new : Value) → length vals ≡ count → new ≡ (if nat_eq x q && nat_lt m count then slice_index_or vals m d else d)
    → new ≡ (if nat_eq x q then slice_index_or vals m d else d)
fill-ends x q m count vals d new long = by_test (nat_eq x q) where
  by_test : (b : Bool) → new ≡ (if b && nat_lt m count then slice_index_or vals m d else d) → new ≡ (if b then slice_index_or vals m d else d)
  by_test false n = n
  by_test true n =
      ⊎_elim
      (λ (lt : m < count). n ∙ ap (λ b. if b then slice_index_or vals m d else d) (lt-ltb m count lt))
      (λ (le : count ≤ m). n ∙ ap (λ b. if b then slice_index_or vals m d else d) (le-ltb m count le) ∙ sym (get_or_past vals m d (omega arith)))
      (cases_lt m count)

-- a property without a column
pub fill-none : (x q m : ℕ) (columns : List (List Value)) (c : ℕ) (d : Value) → length columns ≤ c → d ≡ (if nat_eq x q then slice_index_or (slice_index_or columns c []) m d else d)
fill-none x q m columns c d le = by_test (nat_eq x q) where
  by_test : (b : Bool) → d ≡ (if b then slice_index_or (slice_index_or columns c []) m d else d)
  by_test true = sym (ap (λ vals. slice_index_or vals m d) (get_or_past columns c [] le))
  by_test false = refl

-- a property that is added
pub row-given : (b : Bool) (vals : List Value) (m : ℕ) (first old mid new : Value) → mid ≡ (if b then first else old) → new ≡ (if b then slice_index_or vals m mid else mid)
    → new ≡ (if b then slice_index_or vals m first else old)
row-given true vals m first old mid new o n = n ∙ ap (slice_index_or vals m) o
row-given false vals m first old mid new o n = n ∙ o
