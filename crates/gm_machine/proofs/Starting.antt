-- The first fields of nodes.
use Rattle.std.proofs.Common.{◌≡◌, ◌<◌, ◌≤◌, ◌+◌, ℕ, zero, suc, List, [], ◌∷◌, ◌++◌, Some, map, length, take, drop, set, get_or, refl, sym, ap, ◌∙◌, arith, zero-add}
use Rattle.std.specs.List.{enumerate_from}
use Rattle.std.proofs.lemmas.List.{take_more, take_more_set, take_all, length-set, length-map, get_or-map, drop_all}
use Rattle.std.proofs.lemmas.List.FromFn.{length-enumerate_from, get_or-enumerate_from}
use Rattle.gm_value.specs.declared.values.Value.{Value}
use Rattle.gm_value.specs.Numbers.{zero_of}
use Rattle.gm_columns.specs.Columns.{cell_at}
use Rattle.gm_model.specs.Graphs.{NumberedGraph}
use Rattle.gm_image.specs.Program.{Program, Item}
use Rattle.std.specs.Prelude.{slice_get}
use Rattle.gm_machine.specs.Expressions.{value_at}
use Rattle.gm_machine.specs.Machine.{properties, with_inputs, row_at, start_fields}

-- the values of a node from a column on
pub row-drop : (columns : List (List Value)) (column node : ℕ) (v : Value) → cell_at columns column node ≡ Some v →
    drop column (row_at columns node) ≡ v ∷ drop (column + 1) (row_at columns node)
row-drop [] column node v e = cc
row-drop (c ∷ columns) zero node v e = ap (λ x. x ∷ row_at columns node) (got c node v e)
  where
    got : (xs : List Value) (k : ℕ) (x : Value) → slice_get xs k ≡ Some x → value_at xs k ≡ x
    got [] k x h = cc
    got (y ∷ xs) zero x h = cc
    got (y ∷ xs) (suc k) x h = got xs k x h
row-drop (c ∷ columns) (suc column) node v e =
    let n : suc column + 1 ≡ suc (column + 1) = omega arith in
    row-drop columns column node v e ∙ ap (λ k. v ∷ drop k (row_at (c ∷ columns) node)) (sym n)

-- an input of nodes has its column's value
pub input-bound : (columns : List (List Value)) (column next node : ℕ) (v : Value) (held new : List Value) (i : Item) → cell_at columns column node ≡ Some v → next ≡ column + 1 → new ≡ set held i.slot v →
    (items : List Item) → with_inputs (i ∷ items) (drop column (row_at columns node)) held ≡ with_inputs items (drop next (row_at columns node)) new
input-bound columns column next node v held new i cell is new_is items =
    ap (λ vs. with_inputs (i ∷ items) vs held) (row-drop columns column node v cell)
    ∙ ap (λ k. with_inputs items (drop k (row_at columns node)) (set held i.slot v)) (sym is)
    ∙ ap (with_inputs items (drop next (row_at columns node))) (sym new_is)

-- no column is left for inputs
nothing : (items : List Item) (held : List Value) → with_inputs items [] held ≡ held
nothing [] held = refl
nothing (i ∷ items) held = refl

pub inputs-end : (columns : List (List Value)) (column node : ℕ) (held : List Value) (i : Item) → length columns ≤ column →
    (items : List Item) → with_inputs (i ∷ items) (drop column (row_at columns node)) held ≡ with_inputs items (drop column (row_at columns node)) held
inputs-end columns column node held i end items =
    let none : drop column (row_at columns node) ≡ [] = drop_all column (row_at columns node) (omega (arith, end, length-map columns (λ values. value_at values node))) in
    ap (λ vs. with_inputs (i ∷ items) vs held) none ∙ sym (ap (λ vs. with_inputs items vs held) none ∙ nothing items held)

-- inputs keep how many fields there are
pub length-with_inputs : (items : List Item) (vs held : List Value) → length (with_inputs items vs held) ≡ length held
length-with_inputs [] vs held = refl
length-with_inputs (i ∷ items) [] held = refl
length-with_inputs (i ∷ items) (v ∷ vs) held = length-with_inputs items vs (set held i.slot v) ∙ length-set held i.slot v

-- the first fields of all nodes
abbrev pub first_fields : Program → NumberedGraph → List (List Value)
first_fields p g = map (start_fields p g) (enumerate_from 0 g.numbers)

pub length-first_fields : (p : Program) (g : NumberedGraph) → length (first_fields p g) ≡ length g.numbers
length-first_fields p g = length-map (enumerate_from 0 g.numbers) (start_fields p g) ∙ length-enumerate_from 0 g.numbers

first-at : (p : Program) (g : NumberedGraph) (i : ℕ) → i < length g.numbers →
    get_or (first_fields p g) i [] ≡ with_inputs (properties p.inputs) (row_at g.node_columns i) (map zero_of p.fields)
first-at p g i within =
    let inside : i < length (enumerate_from 0 g.numbers) = omega (arith, within, length-enumerate_from 0 g.numbers) in
    get_or-map (start_fields p g) (enumerate_from 0 g.numbers) i (0, 0) [] inside
    ∙ ap (start_fields p g) (get_or-enumerate_from 0 g.numbers i (0, 0) within)
    ∙ ap (λ k. with_inputs (properties p.inputs) (row_at g.node_columns k) (map zero_of p.fields)) (zero-add i)

-- one more node has its first fields
pub started-more : (p : Program) (g : NumberedGraph) (i : ℕ) (old new : List (List Value)) (row : List Value) → i < length g.numbers → length old ≡ length g.numbers →
    row ≡ with_inputs (properties p.inputs) (row_at g.node_columns i) (map zero_of p.fields) → new ≡ set old i row →
    take i old ≡ take i (first_fields p g) → take (i + 1) new ≡ take (i + 1) (first_fields p g)
started-more p g i old new row within long row_is new_is before =
    let inside : i < length old = omega arith in
    let there : i < length (first_fields p g) = omega (arith, within, length-first_fields p g) in
    ap (take (i + 1)) new_is
    ∙ take_more_set old i row inside
    ∙ ap (λ rows. rows ++ row ∷ []) before
    ∙ ap (λ r. take i (first_fields p g) ++ r ∷ []) (row_is ∙ sym (first-at p g i within))
    ∙ sym (take_more (first_fields p g) i [] there)

pub started-all : (p : Program) (g : NumberedGraph) (i : ℕ) (now : List (List Value)) → length g.numbers ≤ i → length now ≡ length g.numbers →
    take i now ≡ take i (first_fields p g) → now ≡ first_fields p g
started-all p g i now end long same =
    let a : length now ≤ i = omega arith in
    let b : length (first_fields p g) ≤ i = omega (arith, end, length-first_fields p g) in
    sym (take_all i now a) ∙ same ∙ take_all i (first_fields p g) b
