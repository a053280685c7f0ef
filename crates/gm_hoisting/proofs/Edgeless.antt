-- An expression that reads no edge's property has the same meaning at every edge.
use Rattle.std.proofs.Common.{◌≡◌, ℕ, true, false, List, refl, ap, ◌∙◌, Option, Some, None, Result, Ok, Err}
use Rattle.std.specs.Prelude.{◌&&◌}
use Rattle.std.proofs.Math.Path.{fun_ext}
use Rattle.std.proofs.lemmas.Bool.{both_ways}
use Rattle.gm_base.specs.declared.places.Place.{Place}
use Rattle.gm_value.specs.declared.faults.FaultKind.{FaultKind}
use Rattle.gm_value.specs.declared.values.Value.{Value}
use Rattle.gm_value.specs.declared.values.Value.TheVariants.{At}
use Rattle.gm_value.specs.Operations.{result1, result2}
use Rattle.gm_ast.specs.Program.{Expr, Const, Var, Property, EdgeProperty, Degree, NodeCount, EdgeCount, Live, Unary, Binary, Both, Either, Choose, Folded}
use Rattle.gm_ast.specs.declared.tree.Direction.{Direction}
use Rattle.gm_ast.specs.declared.tree.Direction.TheVariants.{Out, In}
use Rattle.gm_semantics.specs.Levels.{node_in}
use Rattle.gm_semantics.specs.Faults.{then_with}
use Rattle.gm_semantics.specs.Expressions.{View, node_held, at_node, located, degree_of, node_read, one_of, two_of, both, either, choice, evaluated}
use Rattle.gm_forms.specs.Forms.{is_flat}
use Rattle.gm_forms.proofs.Named.{both-true}

module _ (d : ℕ) where
  abbrev moved : View → View
  moved w = record w { edge = d }

  held-edge : (w : View) (at : Place) (o : Option ℕ) → node_held (moved w) at o ≡ node_held w at o
  held-edge w at (Some n) = refl
  held-edge w at None = refl

  located-edge : (w : View) (at : Place) (r : Result Value FaultKind) → located (moved w) at r ≡ located w at r
  located-edge w at (Ok v) = refl
  located-edge w at (Err k) = refl

  at_node-edge : (w : View) (x : ℕ) (at : Place) (f : ℕ → Value) → at_node (moved w) x at f ≡ at_node w x at f
  at_node-edge w x at f = ap (λ r. then_with r (λ n. Ok (f n))) (held-edge w at (node_in w.graph (w.store.scalar x)))

  degree-edge : (w : View) (e : Direction) → degree_of (moved w) e ≡ degree_of w e
  degree-edge w Out = refl
  degree-edge w In = refl

  pub edgeless : (its : List ℕ) (e : Expr) (w : View) → is_flat its false e ≡ true → evaluated e (moved w) ≡ evaluated e w
  edgeless its (Const v) w h = refl
  edgeless its (Var x at) w h = refl
  edgeless its (Property x p at) w h = ap (node_read w) (at_node-edge w x at (w.store.node p))
  edgeless its (EdgeProperty x p at) w h = absurd (both_ways false refl h)
  edgeless its (Degree e x at) w h = ap (λ f. node_read w (at_node (moved w) x at f)) (degree-edge w e) ∙ ap (node_read w) (at_node-edge w x at (degree_of w e))
  edgeless its NodeCount w h = refl
  edgeless its EdgeCount w h = refl
  edgeless its (Live x at) w h = ap (node_read w) (at_node-edge w x at (λ n. At (Some n)))
  edgeless its (Unary op at e) w h =
      ap (λ y. one_of y (λ v. located (moved w) at (result1 op v))) (edgeless its e w h) ∙ ap (one_of (evaluated e w)) (fun_ext (λ v. located-edge w at (result1 op v)))
  edgeless its (Binary op at a c) w h =
      let b = both-true (is_flat its false a) (is_flat its false c) h in
      ap (λ y. two_of y (evaluated c (moved w)) (λ v y. located (moved w) at (result2 op v y))) (edgeless its a w b.0)
      ∙ ap (λ y. two_of (evaluated a w) y (λ v y. located (moved w) at (result2 op v y))) (edgeless its c w b.1)
      ∙ ap (two_of (evaluated a w) (evaluated c w)) (fun_ext (λ v. fun_ext (λ y. located-edge w at (result2 op v y))))
  edgeless its (Both a c) w h =
      let b = both-true (is_flat its false a) (is_flat its false c) h in
      ap (λ y. both y (evaluated c (moved w))) (edgeless its a w b.0) ∙ ap (both (evaluated a w)) (edgeless its c w b.1)
  edgeless its (Either a c) w h =
      let b = both-true (is_flat its false a) (is_flat its false c) h in
      ap (λ y. either y (evaluated c (moved w))) (edgeless its a w b.0) ∙ ap (either (evaluated a w)) (edgeless its c w b.1)
  edgeless its (Choose c a e) w h =
      let b = both-true (is_flat its false c) (is_flat its false a && is_flat its false e) h in
      let q = both-true (is_flat its false a) (is_flat its false e) b.1 in
      ap (λ y. choice y (evaluated a (moved w)) (evaluated e (moved w))) (edgeless its c w b.0)
      ∙ ap (λ y. choice (evaluated c w) y (evaluated e (moved w))) (edgeless its a w q.0)
      ∙ ap (choice (evaluated c w) (evaluated a w)) (edgeless its e w q.1)
  edgeless its (Folded f head test e) w h = absurd (both_ways false refl h)
