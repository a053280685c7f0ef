-- In a typed run the nodes in scalars are nodes of the graph.
use Rattle.std.proofs.Common.{◌≡◌, ◌<◌, ◌≤◌, ℕ, Bool, true, false, Some, List, [], refl, ap, ◌∙◌, sym, subst, ⊎_elim}
use Rattle.std.specs.Prelude.{◌||◌, nat_le, nat_eq}
use Rattle.std.proofs.lemmas.Bool.{both_ways, le-leb, cases_lt}
use Rattle.gm_value.specs.declared.values.Value.{Value}
use Rattle.gm_value.specs.declared.values.Value.TheVariants.{At}
use Rattle.gm_model.specs.Graphs.{NumberedGraph, node_count}
use Rattle.gm_ast.specs.declared.tree.Sort.TheVariants as Sorts
use Rattle.gm_ast.specs.Names.{is}
use Rattle.gm_ast.specs.Program.{Program}
use Rattle.gm_ast.specs.Ways.{is_in}
use Rattle.gm_forms.proofs.Named.{both-true}
use Rattle.gm_forms.specs.Extends.{start_of}
use Rattle.gm_semantics.specs.Statements.{variable_at}
use Rattle.gm_typed_stores.specs.Laws.{IsWellTyped, FitsBelow}
use Rattle.gm_typed_stores.specs.Tells.{table_of, holds}
use Rattle.gm_typed_stores.specs.Values.{NodeBelow}
use Rattle.gm_typed_stores.proofs.Points.{points-typed}
use Rattle.gm_lowering.specs.Layouts.{is_global}
use Rattle.gm_lowering_master.specs.Follows.{ArePoints}
use Rattle.gm_lowering_master.specs.Whole.{setting, HasInterface, RunsAreFollowed}
use Rattle.gm_lowering_master.proofs.Endings.{run-followed}
use Rattle.gm_lowering_master.proofs.Ranks.{layouts-are-settings}
use Rattle.gm_lowering_master.proofs.Starting.{first-moments-show}

below-is : (limit : ℕ) (v : Value) (n : ℕ) → NodeBelow limit v → v ≡ At (Some n) → n < limit
below-is limit v n h e = subst (NodeBelow limit) e h

-- a scalar of the procedure holds a value of its type
global-holds : (p : Program) (limit : ℕ) (its : List ℕ) (x : ℕ) → HasInterface p → is_global (variable_at p.declarations x) ≡ true → holds (table_of limit p) its x ≡ true
global-holds p limit its x face h = by (is Sorts.Scalar (variable_at p.declarations x)) refl where
  second : is Sorts.Scalar (variable_at p.declarations x) || is Sorts.Iterator (variable_at p.declarations x) ≡ true
  second = (both-true (nat_eq (variable_at p.declarations x).depth 0) (is Sorts.Scalar (variable_at p.declarations x) || is Sorts.Iterator (variable_at p.declarations x)) h).1

  by : (b : Bool) → is Sorts.Scalar (variable_at p.declarations x) ≡ b → b || (nat_le p.inputs x || is_in its x) ≡ true
  by true e = refl
  by false e =
      ⊎_elim
      (λ (lt : x < p.inputs). absurd (both_ways (is Sorts.Iterator (variable_at p.declarations x)) (face.no_iterator x lt) (ap (λ b. b || is Sorts.Iterator (variable_at p.declarations x)) (sym e) ∙ second)))
      (λ (le : p.inputs ≤ x). ap (λ b. b || is_in its x) (le-leb p.inputs x le))
      (cases_lt x p.inputs)

pub all-points : (p : Program) (g : NumberedGraph) (args : List Value) (bound : ℕ) → HasInterface p → IsWellTyped (node_count g) p → FitsBelow (node_count g) p g args
    → ArePoints (setting p g bound) [] p.body (start_of p g args)
all-points p g args bound face typed fits others u b reaches =
    let point = points-typed (node_count g) p g args bound others u b typed fits reaches in
    record {
      typed = point;
      in_graph = λ x lt h n e. below-is (node_count g) (b.store.scalar x) n (point.store.scalar x (global-holds p (node_count g) others x face h)).below e;
    }

pub runs-are-followed : RunsAreFollowed
runs-are-followed p g args bound face typed fits columns h loops =
    run-followed p g args bound face (layouts-are-settings p g bound fits.graph.graph) (first-moments-show p g args bound face fits.graph.graph columns) h loops (all-points p g args bound face typed fits)
