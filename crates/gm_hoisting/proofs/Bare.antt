-- A reduction without braces means the same wherever its total stands, which never faults.
use Rattle.std.proofs.Common.{◌≡◌, Bool, true, false, List, refl, sym, ap, subst, ◌∙◌, Option, Some, None, Result, Ok, Err}
use Rattle.std.specs.Prelude.{◌&&◌}
use Rattle.gm_value.specs.declared.faults.FaultKind.{FaultKind}
use Rattle.gm_value.specs.declared.values.VType.TheVariants as V
use Rattle.gm_value.specs.declared.values.Value.{Value}
use Rattle.gm_value.specs.declared.values.Value.TheVariants.{Flag}
use Rattle.gm_value.specs.Bag.{IsIn}
use Rattle.gm_value.specs.Numbers.{value_at, IsOf}
use Rattle.gm_value.specs.Reductions.{unit_of, close, reduces}
use Rattle.gm_model.specs.Graphs.{IsGraph}
use Rattle.gm_ast.specs.declared.tree.Fold.{Fold}
use Rattle.gm_ast.specs.declared.tree.Head.{Head}
use Rattle.gm_ast.specs.Keys as K
use Rattle.gm_ast.specs.Program.{Expr, Const, Folded}
use Rattle.gm_semantics.specs.declared.faults.Fault.{Fault}
use Rattle.gm_semantics.specs.Faults.{least, unless_fault, fault_of, oks, errs, joined, of_total, total_fault}
use Rattle.gm_semantics.specs.Expressions.{View, reduce_of, reduction, closed, early, evaluated}
use Rattle.gm_forms.specs.Order.{takes_conditions}
use Rattle.gm_forms.specs.Totals.{elements}
use Rattle.gm_forms.proofs.ConditionTotals.{conditions-fault}
use Rattle.gm_forms.proofs.Named.{both-true}
use Rattle.gm_hoisting.specs.Hoisting.{is_bare, total_behind, placed_if, placed}
use Rattle.gm_hoisting.proofs.OneFold.{no-least}

-- a property of a reduction wherever its total stands
pub placed-any : (P : Fold → Type 0) (f : Fold) (h : Head) (test e : Expr) → ((g : K.Fault) → P (total_behind f g)) → P f → P (placed f h test e)
placed-any P f h test e moved same = by (is_bare f e)
  where
    by : (b : Bool) → P (placed_if b f h test)
    by true = moved _
    by false = same

-- what has no braces gives True at each element
true-only : (v : Value) → ◌≡◌ {A = Result Value Fault} (Ok (Flag true)) (Ok v) → Flag true ≡ v
true-only v e = cc

-- where the total closes, its place does not matter
moved-same : (f : Fold) (h : Head) (test : Expr) (w : View) (g : K.Fault) → IsGraph w.graph → takes_conditions f.word ≡ true → reduces (reduce_of f.word) f.vtype ≡ true →
    evaluated (Folded f h test (Const (Flag true))) w ≡ evaluated (Folded (total_behind f g) h test (Const (Flag true))) w
moved-same f h test w g graph takes fits =
    let els = elements f h test (Const (Flag true)) w in
    let start = value_at f.vtype (unit_of (reduce_of f.word) f.vtype) in
    ap early (same els (least (errs els)) (close (reduce_of f.word) start (joined (oks els))) refl refl
    (λ y is. conditions-fault f h test (Const (Flag true)) w y graph takes fits (λ s v e. subst (IsOf V.Flag) (true-only v e) (refl, refl)) is))
  where
    same : (els : List (Result (List Value) Fault)) (o : Option Fault) (q : Result Value FaultKind) → least (errs els) ≡ o →
        close (reduce_of f.word) (value_at f.vtype (unit_of (reduce_of f.word) f.vtype)) (joined (oks els)) ≡ q →
        ((y : Fault) → fault_of (reduction f els) ≡ Some y → IsIn y (errs els)) → reduction f els ≡ reduction (total_behind f g) els
    same els (Some y) q p r never =
        ap (λ o. unless_fault o (closed f (joined (oks els)))) p ∙ sym (ap (λ o. unless_fault o (closed (total_behind f g) (joined (oks els)))) p)
    same els None (Ok v) p r never =
        ap (λ o. unless_fault o (closed f (joined (oks els)))) p ∙ ap (of_total f.total) r ∙ sym (ap (λ o. unless_fault o (closed (total_behind f g) (joined (oks els)))) p ∙ ap (of_total (total_behind f g).total) r)
    same els None (Err k) p r never =
        absurd (subst (IsIn (total_fault f.total)) (no-least (errs els) p) (never (total_fault f.total) (ap fault_of (ap (λ o. unless_fault o (closed f (joined (oks els)))) p ∙ ap (of_total f.total) r))))

pub placed-same : (f : Fold) (h : Head) (test e : Expr) (w : View) → IsGraph w.graph → evaluated (Folded f h test e) w ≡ evaluated (Folded (placed f h test e) h test e) w
placed-same f h test (Const (Flag true)) w graph = by (is_bare f (Const (Flag true))) refl
  where
    by : (b : Bool) → takes_conditions f.word && reduces (reduce_of f.word) f.vtype ≡ b → evaluated (Folded f h test (Const (Flag true))) w ≡ evaluated (Folded (placed_if b f h test) h test (Const (Flag true))) w
    by true is = let q = both-true (takes_conditions f.word) (reduces (reduce_of f.word) f.vtype) is in moved-same f h test w _ graph q.0 q.1
    by false is = refl
placed-same f h test e w graph = refl
