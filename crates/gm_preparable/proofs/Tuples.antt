-- Tuples whose scalars are declared inside as many loops, in a table and in longer ones.
use Rattle.std.proofs.Common.{◌≡◌, ◌+◌, ℕ, Bool, true, false, List, [], ◌∷◌, ◌++◌, refl, sym, ap, ◌∙◌, Some}
use Rattle.std.specs.Prelude.{◌||◌, nat_eq}
use Rattle.std.specs.List.{list_all}
use Rattle.std.specs.Cmp.Derive.{both_true}
use Rattle.std.proofs.lemmas.Bool.{eq-eqb, eqb-true, and_parts, both_ways}
use Rattle.gm_ast.specs.declared.tree.Declaration.{Declaration}
use Rattle.gm_ast.specs.declared.tree.Target.{Target}
use Rattle.gm_ast.specs.declared.tree.Target.TheVariants as T
use Rattle.gm_ast.specs.declared.tree.Variable.{Variable}
use Rattle.gm_ast.specs.Loops.{declared_at}
use Rattle.gm_ast.specs.Program.{Stmt, Then, Combine, Foreach, For, If, While, Do, InBfs, InBfsBoth, Program}
use Rattle.gm_semantics.specs.Statements.{variable_or}
use Rattle.gm_forms.specs.Cut.{is_own_loop}
use Rattle.gm_forms.specs.Forms.{depth_at}
use Rattle.gm_cut.specs.Parts.{each_passes}
use Rattle.gm_parting.specs.Tuples.{is_scalar_at, are_even, reduces_evenly, has_even_tuples}
use Rattle.gm_ready.proofs.Placing.{PlacedTargets, Placed}
use Rattle.gm_preparable.specs.Even.{all_reduce_evenly}
use Rattle.gm_preparable.proofs.Facts.{or-right}
use Rattle.gm_preparable.proofs.Standing.{Body, Phase}
use Rattle.gm_preparable.proofs.Tables.{declared-longer}
use Rattle.gm_preparable.proofs.Texts.{Given, AllGiven}

module _ (ds : List Declaration) where
  -- a scalar that is declared inside so many loops
  abbrev At : ℕ → Target → Type 0
  At d (T.Scalar x at) = (v : Variable) × ((declared_at ds x ≡ Some v) × (v.depth ≡ d))
  At d (T.Property x p at) = false ≡ true

  abbrev AllAt : ℕ → List Target → Type 0
  AllAt d [] = Unit {0}
  AllAt d (t ∷ ts) = At d t × AllAt d ts

  -- one target, properties, or scalars that are all declared inside as many
  abbrev pub Even : List Target → Type 0
  Even [] = Unit {0}
  Even (t ∷ []) = Unit {0}
  Even (T.Property x p at ∷ (t ∷ ts)) = Unit {0}
  Even (T.Scalar x at ∷ (t ∷ ts)) = (d : ℕ) × AllAt d (T.Scalar x at ∷ (t ∷ ts))

  pub single-even : (t : Target) → Even (t ∷ [])
  single-even t = tt

  -- ---- the test says so

  depth-is : (x : ℕ) (v : Variable) → declared_at ds x ≡ Some v → depth_at ds x ≡ v.depth
  depth-is x v h = ap (λ o. (variable_or o).depth) h

  all-scalars : (d : ℕ) (ts : List Target) → AllAt d ts → list_all (is_scalar_at ds d) ts ≡ true
  all-scalars d [] h = refl
  all-scalars d (T.Scalar x at ∷ ts) h = both_true (eq-eqb (depth_at ds x) d (depth-is x h.0.0 h.0.1.0 ∙ h.0.1.1)) (all-scalars d ts h.1)
  all-scalars d (T.Property x p at ∷ ts) h = absurd (both_ways false refl h.0)

  tested : (ts : List Target) → Even ts → are_even ds ts ≡ true
  tested [] h = refl
  tested (T.Scalar x at ∷ []) h = refl
  tested (T.Property x p at ∷ []) h = refl
  tested (T.Property x p at ∷ (t ∷ ts)) h = refl
  tested (T.Scalar x at ∷ (t ∷ ts)) h =
      let first = h.1.0 in
      let same : h.0 ≡ depth_at ds x = sym (depth-is x first.0 first.1.0 ∙ first.1.1) in
      ap (λ d. list_all (is_scalar_at ds d) (t ∷ ts)) (sym same) ∙ all-scalars h.0 (t ∷ ts) h.1.1

  -- ---- and is said so by it, where targets stand in the table

  placed-at : (d n : ℕ) (ts : List Target) → PlacedTargets ds n ts → list_all (is_scalar_at ds d) ts ≡ true → AllAt d ts
  placed-at d n [] h e = tt
  placed-at d n (T.Scalar x at ∷ ts) h e =
      let r = and_parts (nat_eq (depth_at ds x) d) (list_all (is_scalar_at ds d) ts) e in
      ((h.0.0, (h.0.1.0, sym (depth-is x h.0.0 h.0.1.0) ∙ eqb-true (depth_at ds x) d r.0)), placed-at d n ts h.1 r.1)
  placed-at d n (T.Property x p at ∷ ts) h e = absurd (both_ways false refl e)

  placed-even : (n : ℕ) (ts : List Target) → PlacedTargets ds n ts → are_even ds ts ≡ true → Even ts
  placed-even n [] h e = tt
  placed-even n (t ∷ []) h e = tt
  placed-even n (T.Property x p at ∷ (t ∷ ts)) h e = tt
  placed-even n (T.Scalar x at ∷ (t ∷ ts)) h e = (depth_at ds x, ((h.0.0, (h.0.1.0, sym (depth-is x h.0.0 h.0.1.0))), placed-at (depth_at ds x) n (t ∷ ts) h.1 e))

  -- ---- in statements

  given : (d : ℕ) (edge : Bool) (s : Stmt) → Placed ds d edge s → reduces_evenly ds s ≡ true → Given Even s
  given d edge (Then a b) h e = let r = and_parts (reduces_evenly ds a) (reduces_evenly ds b) e in (given d edge a h.0 r.0, given d h.1.0 b h.1.1.1 r.1)
  given d edge (Combine k total r ts es) h e = placed-even d ts h.0.0 e
  given d edge (If k c a b) h e = let r = and_parts (reduces_evenly ds a) (reduces_evenly ds b) e in (given d edge a h.1.0 r.0, given d edge b h.1.1 r.1)
  given d edge (Foreach k at hd test s) h e = given (d + 1) edge s h.1.1 e
  given d edge s h e = tt

  pub even-given : (edge : Bool) (s : Stmt) → Placed ds 0 edge s → all_reduce_evenly ds s ≡ true → AllGiven Even s
  even-given edge (Then a b) h e = let r = and_parts (all_reduce_evenly ds a) (all_reduce_evenly ds b) e in (even-given edge a h.0 r.0, even-given h.1.0 b h.1.1.1 r.1)
  even-given edge (Foreach k at hd test s) h e = given 1 edge s h.1.1 e
  even-given edge (For k at hd test s) h e = even-given edge s h.1.1 e
  even-given edge (If k c a b) h e = let r = and_parts (all_reduce_evenly ds a) (all_reduce_evenly ds b) e in (even-given edge a h.1.0 r.0, even-given edge b h.1.1 r.1)
  even-given edge (While k at c s) h e = even-given edge s h.1 e
  even-given edge (Do k at s c) h e = even-given edge s h.0 e
  even-given edge (InBfs k at search test s) h e = given 1 edge s h.1.1 e
  even-given edge (InBfsBoth k at search test s back_key back_test back) h e =
      let r = and_parts (reduces_evenly ds s) (reduces_evenly ds back) e in (given 1 edge s h.1.0.1 r.0, given 1 edge back h.1.1.1 r.1)
  even-given edge s h e = tt

  module _ (inner : ℕ → Type 0) where
    body-even : (s : Stmt) → Body Even inner s → reduces_evenly ds s ≡ true
    body-even (Then a b) h = both_true (body-even a h.0) (body-even b h.1)
    body-even (Combine k total r ts es) h = tested ts h.0
    body-even (If k c a b) h = both_true (body-even a h.1.0) (body-even b h.1.1)
    body-even (Foreach k at hd test s) h = body-even s h.1.1
    body-even s h = refl

    module _ (outer : ℕ → Type 0) where
      loops-even : (s : Stmt) → Phase Even outer inner s → each_passes (λ k at h test body. is_own_loop h.iterator body || reduces_evenly ds body) s ≡ true
      loops-even (Then a b) h = both_true (loops-even a h.0) (loops-even b h.1)
      loops-even (Foreach k at hd test s) h = or-right (is_own_loop hd.iterator s) (reduces_evenly ds s) (body-even s h.1.1)
      loops-even (For k at hd test s) h = loops-even s h.1
      loops-even (If k c a b) h = both_true (loops-even a h.1.0) (loops-even b h.1.1)
      loops-even (While k at c s) h = loops-even s h.1
      loops-even (Do k at s c) h = loops-even s h.0
      loops-even s h = refl

pub tuples-even : (outer inner : ℕ → Type 0) (p : Program) → Phase (Even p.declarations) outer inner p.body → has_even_tuples p ≡ true
tuples-even outer inner p h = loops-even p.declarations inner outer p.body h

-- ---- longer tables

all-longer : (ds more : List Declaration) (d : ℕ) (ts : List Target) → AllAt ds d ts → AllAt (ds ++ more) d ts
all-longer ds more d [] h = tt
all-longer ds more d (T.Scalar x at ∷ ts) h = ((h.0.0, (declared-longer ds more x h.0.0 h.0.1.0, h.0.1.1)), all-longer ds more d ts h.1)
all-longer ds more d (T.Property x p at ∷ ts) h = absurd (both_ways false refl h.0)

pub even-longer : (ds more : List Declaration) (ts : List Target) → Even ds ts → Even (ds ++ more) ts
even-longer ds more [] h = tt
even-longer ds more (t ∷ []) h = tt
even-longer ds more (T.Property x p at ∷ (t ∷ ts)) h = tt
even-longer ds more (T.Scalar x at ∷ (t ∷ ts)) h = (h.0, all-longer ds more h.0 (T.Scalar x at ∷ (t ∷ ts)) h.1)
