-- When a reduction that is done at once is an assignment.
use Rattle.std.proofs.Common.{◌≡◌, arith, true, false, cond, List, [], ◌∷◌, length, map, refl, sym, ap, ◌∙◌}
use Rattle.std.specs.Prelude.{◌≢◌, slice_index_or}
use Rattle.gm_value.specs.declared.reductions.Reduce.{Reduce}
use Rattle.gm_ast.specs.declared.tree.Key.{Key}
use Rattle.gm_ast.specs.declared.tree.Target.{Target}
use Rattle.gm_ast.specs.declared.tree.TotalKey.{TotalKey}
use Rattle.gm_ast.specs.declared.tree.Expr as E
use Rattle.gm_ast.specs.Program.{Expr, Assign, Combine}
use Rattle.gm_ast.specs.Tree.{expr_of}
use Rattle.gm_semantics.specs.Iterations.{target_value}
use Rattle.gm_forms.specs.Typing.{keeps_tuples}
use Rattle.gm_desugar.specs.Compounds.{operated, assignment_of}

-- one that picks stands as it is
pub picks_stay : (k : Key) (total : TotalKey) (r : Reduce) (ts : List Target) (es : List Expr) → keeps_tuples r ≡ true → assignment_of k total r ts es ≡ Combine k total r ts es
picks_stay k total r [] es h = refl
picks_stay k total r (t ∷ []) [] h = refl
picks_stay k total r (t ∷ []) (e ∷ []) h = ap (λ b. cond b (Combine k total r (t ∷ []) (e ∷ [])) (Assign k t (operated r total.place (target_value t) e))) h
picks_stay k total r (t ∷ []) (e ∷ (f ∷ es)) h = refl
picks_stay k total r (t ∷ (u ∷ ts)) es h = refl

-- so does one that has not one target and one value
pub targets_stay : (k : Key) (total : TotalKey) (r : Reduce) (ts : List Target) (es : List Expr) → length ts ≢ 1 → assignment_of k total r ts es ≡ Combine k total r ts es
targets_stay k total r [] es h = refl
targets_stay k total r (t ∷ []) es h = absurd (h refl)
targets_stay k total r (t ∷ (u ∷ ts)) es h = refl

pub values_stay : (k : Key) (total : TotalKey) (r : Reduce) (ts : List Target) (es : List Expr) → length es ≢ 1 → assignment_of k total r ts es ≡ Combine k total r ts es
values_stay k total r [] es h = refl
values_stay k total r (t ∷ []) [] h = refl
values_stay k total r (t ∷ []) (e ∷ []) h = absurd (h refl)
values_stay k total r (t ∷ []) (e ∷ (f ∷ es)) h = refl
values_stay k total r (t ∷ (u ∷ ts)) es h = refl

-- all others are assignments
pub others_open : (k : Key) (total : TotalKey) (r : Reduce) (t : Target) (e : Expr) → keeps_tuples r ≡ false → assignment_of k total r (t ∷ []) (e ∷ []) ≡ Assign k t (operated r total.place (target_value t) e)
others_open k total r t e h = ap (λ b. cond b (Combine k total r (t ∷ []) (e ∷ [])) (Assign k t (operated r total.place (target_value t) e))) h

-- of the first target and the first value, which are the only ones
pub taken_out : (k : Key) (total : TotalKey) (r : Reduce) (ts : List Target) (es : List E.Expr) (t : Target) (v : E.Expr) → keeps_tuples r ≡ false → length ts ≡ 1 → length es ≡ 1 → t ≡ slice_index_or ts 0 t → v ≡ slice_index_or es 0 v →
    assignment_of k total r ts (map expr_of es) ≡ Assign k t (operated r total.place (target_value t) (expr_of v))
taken_out k total r [] es t v h m n p q = absurd (omega arith)
taken_out k total r (a ∷ (b ∷ ts)) es t v h m n p q = absurd (omega arith)
taken_out k total r (a ∷ []) [] t v h m n p q = absurd (omega arith)
taken_out k total r (a ∷ []) (e ∷ (f ∷ es)) t v h m n p q = absurd (omega arith)
taken_out k total r (a ∷ []) (e ∷ []) t v h m n p q =
    others_open k total r a (expr_of e) h ∙ (ap (λ x. Assign k x (operated r total.place (target_value x) (expr_of e))) (sym p) ∙ ap (λ x. Assign k t (operated r total.place (target_value t) (expr_of x))) (sym q))
