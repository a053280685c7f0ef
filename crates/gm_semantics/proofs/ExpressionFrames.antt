-- An expression reads what it names alone.
use Rattle.std.proofs.Common.{◌≡◌, ◌<◌, ℕ, map, refl, ap, ◌∙◌, Option, Some, None, Result, Ok, Err}
use Rattle.std.proofs.Math.Path.{fun_ext}
use Rattle.std.specs.Prelude.{nat_eq, ◌&&◌, if◌then◌else◌}
use Rattle.gm_base.specs.declared.places.Place.{Place}
use Rattle.gm_value.specs.declared.values.Value.{Value}
use Rattle.gm_value.specs.declared.values.Value.TheVariants.{At}
use Rattle.gm_value.specs.declared.faults.FaultKind.{FaultKind}
use Rattle.gm_value.specs.Operations.{result1, result2}
use Rattle.gm_ast.specs.declared.tree.Head.{Head}
use Rattle.gm_ast.specs.declared.tree.Domain.{Domain}
use Rattle.gm_ast.specs.declared.tree.Domain.TheVariants as D
use Rattle.gm_ast.specs.declared.tree.Direction.{Direction}
use Rattle.gm_ast.specs.declared.tree.Direction.TheVariants.{Out, In}
use Rattle.gm_ast.specs.Program.{Expr, Const, Var, Property, EdgeProperty, Degree, NodeCount, EdgeCount, Live, Unary, Binary, Both, Either, Choose, Folded}
use Rattle.gm_semantics.specs.declared.slots.Slot.{Slot}
use Rattle.gm_semantics.specs.declared.slots.Slot.TheVariants.{Scalar, Node}
use Rattle.gm_semantics.specs.Levels.{node_in}
use Rattle.gm_semantics.specs.Stores.{Store, write}
use Rattle.gm_semantics.specs.Faults.{then_with}
use Rattle.gm_semantics.specs.Expressions.{View, node_held, node_of, at_node, located, steps_of, steps_in, degree_of, entered, element, reduction, settled, plain, early, node_read, one_of, two_of, both, either, choice, evaluated}
use Rattle.gm_semantics.specs.Frames.{Agree, ReadsBelow}

-- stores that agree still do after the same write
pub agree-write : (k : ℕ) (s t : Store) (slot : Slot) (v : Value) → Agree k s t → Agree k (write s slot v) (write t slot v)
agree-write k s t (Scalar x) v h = record { scalar = λ y below. ap (λ u. if nat_eq x y then v else u) (h.scalar y below); node = h.node; edge = h.edge }
agree-write k s t (Node p n) v h = record { scalar = h.scalar; node = λ q m below. ap (λ u. if nat_eq p q && nat_eq n m then v else u) (h.node q m below); edge = h.edge }

module _ (w : View) (t : Store) where
  abbrev moved : View
  moved = record w { store = t }

  pub held-moved : (at : Place) (o : Option ℕ) → node_held moved at o ≡ node_held w at o
  held-moved at (Some n) = refl
  held-moved at None = refl

  pub located-moved : (at : Place) (r : Result Value FaultKind) → located moved at r ≡ located w at r
  located-moved at (Ok v) = refl
  located-moved at (Err k) = refl

  degree-moved : (d : Direction) → degree_of moved d ≡ degree_of w d
  degree-moved Out = refl
  degree-moved In = refl

  steps-moved : (d : Domain) (o : Option ℕ) → steps_of moved d o ≡ steps_of w d o
  steps-moved D.Nodes o = refl
  steps-moved D.OutNbrs o = refl
  steps-moved D.InNbrs o = refl
  steps-moved D.UpNbrs o = refl
  steps-moved D.DownNbrs o = refl

module _ (k : ℕ) where
  pub node_of-frame : (w : View) (t : Store) (x : ℕ) (at : Place) → x < k → Agree k w.store t → node_of (record w { store = t }) x at ≡ node_of w x at
  node_of-frame w t x at below h = held-moved w t at (node_in w.graph (t.scalar x)) ∙ ap (λ v. node_held w at (node_in w.graph v)) (h.scalar x below)

  at_node-frame : (w : View) (t : Store) (x : ℕ) (at : Place) (f g : ℕ → Value) → x < k → Agree k w.store t → f ≡ g → at_node (record w { store = t }) x at f ≡ at_node w x at g
  at_node-frame w t x at f g below h e = ap (λ r. then_with r (λ n. Ok (f n))) (node_of-frame w t x at below h) ∙ ap (λ f. then_with (node_of w x at) (λ n. Ok (f n))) e

  pub steps_in-frame : (w : View) (t : Store) (head : Head) → head.owner < k → Agree k w.store t → steps_in (record w { store = t }) head ≡ steps_in w head
  steps_in-frame w t head below h = steps-moved w t head.domain (node_in w.graph (t.scalar head.owner)) ∙ ap (λ v. steps_of w head.domain (node_in w.graph v)) (h.scalar head.owner below)

  -- the frame of an expression, reductions included
  pub evaluated-frame : (e : Expr) (w : View) (t : Store) → ReadsBelow k e → Agree k w.store t → evaluated e (record w { store = t }) ≡ evaluated e w
  evaluated-frame (Const v) w t b h = refl
  evaluated-frame (Var x at) w t b h = ap (λ v. plain (Ok v)) (h.scalar x b)
  evaluated-frame (Property x p at) w t b h = ap (node_read w) (at_node-frame w t x at (t.node p) (w.store.node p) b.0 h (fun_ext (λ n. h.node p n b.1)))
  evaluated-frame (EdgeProperty x p at) w t b h = ap (λ v. plain (Ok v)) (h.edge p w.edge b)
  evaluated-frame (Degree d x at) w t b h = ap (node_read w) (at_node-frame w t x at (degree_of (record w { store = t }) d) (degree_of w d) b h (degree-moved w t d))
  evaluated-frame NodeCount w t b h = refl
  evaluated-frame EdgeCount w t b h = refl
  evaluated-frame (Live x at) w t b h = ap (node_read w) (at_node-frame w t x at (λ n. At (Some n)) (λ n. At (Some n)) b h refl)
  evaluated-frame (Unary op at e) w t b h =
      ap (λ x. one_of x (λ v. located (record w { store = t }) at (result1 op v))) (evaluated-frame e w t b h)
      ∙ ap (λ f. one_of (evaluated e w) f) (fun_ext (λ v. located-moved w t at (result1 op v)))
  evaluated-frame (Binary op at a c) w t b h =
      ap (λ x. two_of x (evaluated c (record w { store = t })) (λ v y. located (record w { store = t }) at (result2 op v y))) (evaluated-frame a w t b.0 h)
      ∙ ap (λ y. two_of (evaluated a w) y (λ v y. located (record w { store = t }) at (result2 op v y))) (evaluated-frame c w t b.1 h)
      ∙ ap (two_of (evaluated a w) (evaluated c w)) (fun_ext (λ v. fun_ext (λ y. located-moved w t at (result2 op v y))))
  evaluated-frame (Both a c) w t b h =
      ap (λ x. both x (evaluated c (record w { store = t }))) (evaluated-frame a w t b.0 h) ∙ ap (both (evaluated a w)) (evaluated-frame c w t b.1 h)
  evaluated-frame (Either a c) w t b h =
      ap (λ x. either x (evaluated c (record w { store = t }))) (evaluated-frame a w t b.0 h) ∙ ap (either (evaluated a w)) (evaluated-frame c w t b.1 h)
  evaluated-frame (Choose c a d) w t b h =
      ap (λ x. choice x (evaluated a (record w { store = t })) (evaluated d (record w { store = t }))) (evaluated-frame c w t b.0 h)
      ∙ ap (λ x. choice (evaluated c w) x (evaluated d (record w { store = t }))) (evaluated-frame a w t b.1 h)
      ∙ ap (choice (evaluated c w) (evaluated a w)) (evaluated-frame d w t b.2 h)
  evaluated-frame (Folded f head test e) w t b h =
      ap (λ xs. early (reduction f (map (λ s. element f.word (settled (evaluated test (entered (record w { store = t }) head s f.filter))) (settled (evaluated e (entered (record w { store = t }) head s f.body)))) xs))) (steps_in-frame w t head b.0 h)
      ∙ ap (λ g. early (reduction f (map g (steps_in w head)))) (fun_ext (λ s.
      let at_node = agree-write k w.store t (Scalar head.iterator) (At (Some s.node)) h in
      ap (λ x. element f.word (settled x) (settled (evaluated e (entered (record w { store = t }) head s f.body)))) (evaluated-frame test (entered w head s f.filter) (write t (Scalar head.iterator) (At (Some s.node))) b.1 at_node)
      ∙ ap (λ x. element f.word (settled (evaluated test (entered w head s f.filter))) (settled x)) (evaluated-frame e (entered w head s f.body) (write t (Scalar head.iterator) (At (Some s.node))) b.2 at_node)))
