-- How deep iterators stand in a table of declarations, and in longer ones.
use Rattle.std.proofs.Common.{◌≡◌, ◌≤◌, ◌+◌, ℕ, zero, suc, List, [], ◌∷◌, ◌++◌, length, sym, ap, ◌∙◌, arith, Some}
use Rattle.std.proofs.lemmas.Option.{none-some}
use Rattle.gm_ast.specs.declared.tree.Declaration.{Declaration}
use Rattle.gm_ast.specs.declared.tree.Variable.{Variable}
use Rattle.gm_ast.specs.Loops.{declared_at}
use Rattle.gm_semantics.specs.Statements.{variable_or}

module _ (ds : List Declaration) where
  -- an iterator of loops over nodes, of searches, of groups: declared inside no other loop
  abbrev pub Outer : ℕ → Type 0
  Outer x = (v : Variable) × ((declared_at ds x ≡ Some v) × (v.depth ≤ 1))

  -- one of loops within others
  abbrev pub Inner : ℕ → Type 0
  Inner x = (v : Variable) × ((declared_at ds x ≡ Some v) × (2 ≤ v.depth))

  -- none is both
  pub never-both : (x : ℕ) → Outer x → Inner x → ⊥
  never-both x h k =
      let deep : h.0.depth ≡ k.0.depth = ap (λ o. (variable_or o).depth) (sym h.1.0 ∙ k.1.0) in
      let low : h.0.depth ≤ 1 = h.1.1 in
      let high : 2 ≤ k.0.depth = k.1.1 in
      absurd (omega arith)

-- ---- longer tables

pub declared-longer : (ds more : List Declaration) (x : ℕ) (v : Variable) → declared_at ds x ≡ Some v → declared_at (ds ++ more) x ≡ Some v
declared-longer [] more x v h = absurd (none-some v h)
declared-longer (d ∷ ds) more zero v h = h
declared-longer (d ∷ ds) more (suc x) v h = declared-longer ds more x v h

pub outer-longer : (ds more : List Declaration) (x : ℕ) → Outer ds x → Outer (ds ++ more) x
outer-longer ds more x h = (h.0, (declared-longer ds more x h.0 h.1.0, h.1.1))

pub inner-longer : (ds more : List Declaration) (x : ℕ) → Inner ds x → Inner (ds ++ more) x
inner-longer ds more x h = (h.0, (declared-longer ds more x h.0 h.1.0, h.1.1))

-- what is declared behind a table
pub declared-behind : (ds more : List Declaration) (i : ℕ) → declared_at (ds ++ more) (length ds + i) ≡ declared_at more i
declared-behind [] more i = let e : 0 + i ≡ i = omega arith in ap (declared_at more) e
declared-behind (d ∷ ds) more i = let e : length (d ∷ ds) + i ≡ suc (length ds + i) = omega arith in ap (declared_at ((d ∷ ds) ++ more)) e ∙ declared-behind ds more i
