-- An expression reads no variable that it does not name.
use Rattle.std.proofs.Common.{◌≡◌, ℕ, Bool, true, false, map, refl, sym, ap, subst, ◌∙◌, Option, Some, None, Ok}
use Rattle.std.specs.Prelude.{◌≢◌, ◌||◌, nat_eq, if◌then◌else◌}
use Rattle.std.proofs.Math.Path.{fun_ext}
use Rattle.std.proofs.lemmas.Bool.{both_ways, eq-eqb, eqb-true, ne_eqb}
use Rattle.gm_base.specs.declared.places.Place.{Place}
use Rattle.gm_value.specs.declared.values.Value.{Value}
use Rattle.gm_value.specs.declared.values.Value.TheVariants.{At}
use Rattle.gm_value.specs.Operations.{result1, result2}
use Rattle.gm_ast.specs.declared.tree.Direction.{Direction}
use Rattle.gm_ast.specs.declared.tree.Direction.TheVariants.{Out, In}
use Rattle.gm_ast.specs.declared.tree.Domain.{Domain}
use Rattle.gm_ast.specs.declared.tree.Domain.TheVariants as D
use Rattle.gm_ast.specs.declared.tree.Head.{Head}
use Rattle.gm_ast.specs.Program.{Expr, Const, Var, Property, EdgeProperty, Degree, NodeCount, EdgeCount, Live, Unary, Binary, Both, Either, Choose, Folded}
use Rattle.gm_semantics.specs.declared.slots.Slot.{Slot}
use Rattle.gm_semantics.specs.declared.slots.Slot.TheVariants.{Scalar, Node}
use Rattle.gm_semantics.specs.Levels.{node_in}
use Rattle.gm_semantics.specs.Stores.{Store, write}
use Rattle.gm_semantics.specs.Faults.{then_with}
use Rattle.gm_semantics.specs.Expressions.{View, node_held, node_of, at_node, located, steps_of, steps_in, degree_of, entered, element, reduction, settled, plain, early, node_read, one_of, two_of, both, either, choice, evaluated}
use Rattle.gm_semantics.proofs.ExpressionFrames.{held-moved, located-moved}
use Rattle.gm_desugar.specs.Reads.{names}

-- two stores are the same but for one scalar
pub record ButFor (x : ℕ) (s t : Store) : Type 0 where
  pub scalar : (y : ℕ) → nat_eq y x ≡ false → t.scalar y ≡ s.scalar y
  pub node : t.node ≡ s.node
  pub edge : t.edge ≡ s.edge

-- the second is the first with the scalar written
pub but-written : (x : ℕ) (s : Store) (v : Value) → ButFor x s (write s (Scalar x) v)
but-written x s v = record { scalar = λ y apart. ap (λ b. if b then v else s.scalar y) (turned y apart); node = refl; edge = refl }
  where
    turned : (y : ℕ) → nat_eq y x ≡ false → nat_eq x y ≡ false
    turned y apart = ne_eqb x y (λ e. both_ways (nat_eq y x) apart (eq-eqb y x (sym e)))

-- so after the same write
pub but-write : (x : ℕ) (s t : Store) (y : ℕ) (v : Value) → ButFor x s t → ButFor x (write s (Scalar y) v) (write t (Scalar y) v)
but-write x s t y v h = record { scalar = λ z apart. ap (λ u. if nat_eq y z then v else u) (h.scalar z apart); node = h.node; edge = h.edge }

-- neither of two
pub neither-named : (a b : Bool) → a || b ≡ false → (a ≡ false) × (b ≡ false)
neither-named true b h = absurd (both_ways true h refl)
neither-named false b h = (refl, h)

module _ (x : ℕ) where
  degree-same : (w : View) (t : Store) (d : Direction) → degree_of (record w { store = t }) d ≡ degree_of w d
  degree-same w t Out = refl
  degree-same w t In = refl

  steps-same : (w : View) (t : Store) (d : Domain) (o : Option ℕ) → steps_of (record w { store = t }) d o ≡ steps_of w d o
  steps-same w t D.Nodes o = refl
  steps-same w t D.OutNbrs o = refl
  steps-same w t D.InNbrs o = refl
  steps-same w t D.UpNbrs o = refl
  steps-same w t D.DownNbrs o = refl

  node_of-same : (w : View) (t : Store) (y : ℕ) (at : Place) → nat_eq y x ≡ false → ButFor x w.store t → node_of (record w { store = t }) y at ≡ node_of w y at
  node_of-same w t y at b h = held-moved w t at (node_in w.graph (t.scalar y)) ∙ ap (λ v. node_held w at (node_in w.graph v)) (h.scalar y b)

  at_node-same : (w : View) (t : Store) (y : ℕ) (at : Place) (f g : ℕ → Value) → nat_eq y x ≡ false → ButFor x w.store t → f ≡ g → at_node (record w { store = t }) y at f ≡ at_node w y at g
  at_node-same w t y at f g b h e = ap (λ r. then_with r (λ n. Ok (f n))) (node_of-same w t y at b h) ∙ ap (λ f. then_with (node_of w y at) (λ n. Ok (f n))) e

  steps_in-same : (w : View) (t : Store) (head : Head) → nat_eq head.owner x ≡ false → ButFor x w.store t → steps_in (record w { store = t }) head ≡ steps_in w head
  steps_in-same w t head b h = steps-same w t head.domain (node_in w.graph (t.scalar head.owner)) ∙ ap (λ v. steps_of w head.domain (node_in w.graph v)) (h.scalar head.owner b)

  pub evaluated-unnamed : (e : Expr) (w : View) (t : Store) → names x e ≡ false → ButFor x w.store t → evaluated e (record w { store = t }) ≡ evaluated e w
  evaluated-unnamed (Const v) w t b h = refl
  evaluated-unnamed (Var y at) w t b h = ap (λ v. plain (Ok v)) (h.scalar y b)
  evaluated-unnamed (Property y p at) w t b h = let c = neither-named (nat_eq y x) (nat_eq p x) b in ap (node_read w) (at_node-same w t y at (t.node p) (w.store.node p) c.0 h (ap (λ (f : ℕ → ℕ → Value). f p) h.node))
  evaluated-unnamed (EdgeProperty y p at) w t b h = ap (λ (f : ℕ → ℕ → Value). plain (Ok (f p w.edge))) h.edge
  evaluated-unnamed (Degree d y at) w t b h = ap (node_read w) (at_node-same w t y at (degree_of (record w { store = t }) d) (degree_of w d) b h (degree-same w t d))
  evaluated-unnamed NodeCount w t b h = refl
  evaluated-unnamed EdgeCount w t b h = refl
  evaluated-unnamed (Live y at) w t b h = ap (node_read w) (at_node-same w t y at (λ n. At (Some n)) (λ n. At (Some n)) b h refl)
  evaluated-unnamed (Unary op at e) w t b h =
      ap (λ y. one_of y (λ v. located (record w { store = t }) at (result1 op v))) (evaluated-unnamed e w t b h)
      ∙ ap (λ f. one_of (evaluated e w) f) (fun_ext (λ v. located-moved w t at (result1 op v)))
  evaluated-unnamed (Binary op at a c) w t b h =
      let n = neither-named (names x a) (names x c) b in
      ap (λ y. two_of y (evaluated c (record w { store = t })) (λ v y. located (record w { store = t }) at (result2 op v y))) (evaluated-unnamed a w t n.0 h)
      ∙ ap (λ y. two_of (evaluated a w) y (λ v y. located (record w { store = t }) at (result2 op v y))) (evaluated-unnamed c w t n.1 h)
      ∙ ap (two_of (evaluated a w) (evaluated c w)) (fun_ext (λ v. fun_ext (λ y. located-moved w t at (result2 op v y))))
  evaluated-unnamed (Both a c) w t b h =
      let n = neither-named (names x a) (names x c) b in
      ap (λ y. both y (evaluated c (record w { store = t }))) (evaluated-unnamed a w t n.0 h) ∙ ap (both (evaluated a w)) (evaluated-unnamed c w t n.1 h)
  evaluated-unnamed (Either a c) w t b h =
      let n = neither-named (names x a) (names x c) b in
      ap (λ y. either y (evaluated c (record w { store = t }))) (evaluated-unnamed a w t n.0 h) ∙ ap (either (evaluated a w)) (evaluated-unnamed c w t n.1 h)
  evaluated-unnamed (Choose c a d) w t b h =
      let n = neither-named (names x c) (names x a || names x d) b in
      let m = neither-named (names x a) (names x d) n.1 in
      ap (λ y. choice y (evaluated a (record w { store = t })) (evaluated d (record w { store = t }))) (evaluated-unnamed c w t n.0 h)
      ∙ ap (λ y. choice (evaluated c w) y (evaluated d (record w { store = t }))) (evaluated-unnamed a w t m.0 h)
      ∙ ap (choice (evaluated c w) (evaluated a w)) (evaluated-unnamed d w t m.1 h)
  evaluated-unnamed (Folded f head test e) w t b h =
      let n = neither-named (nat_eq head.owner x) (names x test || names x e) b in
      let m = neither-named (names x test) (names x e) n.1 in
      ap (λ xs. early (reduction f (map (λ s. element f.word (settled (evaluated test (entered (record w { store = t }) head s f.filter))) (settled (evaluated e (entered (record w { store = t }) head s f.body)))) xs))) (steps_in-same w t head n.0 h)
      ∙ ap (λ g. early (reduction f (map g (steps_in w head)))) (fun_ext (λ s.
      let there = but-write x w.store t head.iterator (At (Some s.node)) h in
      ap (λ y. element f.word (settled y) (settled (evaluated e (entered (record w { store = t }) head s f.body)))) (evaluated-unnamed test (entered w head s f.filter) (write t (Scalar head.iterator) (At (Some s.node))) m.0 there)
      ∙ ap (λ y. element f.word (settled (evaluated test (entered w head s f.filter))) (settled y)) (evaluated-unnamed e (entered w head s f.body) (write t (Scalar head.iterator) (At (Some s.node))) m.1 there)))
