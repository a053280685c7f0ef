-- Expressions without reductions: they do not ask for levels, and copies that are equal may be read for what they are copies of.
use Rattle.std.proofs.Common.{◌≡◌, ◌<◌, ℕ, Bool, true, false, cond, List, [], ◌∷◌, map, refl, sym, ap, ◌∙◌, Option, Some, None, Result, Ok, Err, ⊎_elim}
use Rattle.std.proofs.Math.Path.{fun_ext}
use Rattle.std.specs.Prelude.{◌&&◌, nat_eq, nat_lt}
use Rattle.std.proofs.lemmas.Bool.{cases_Bool, eqb-true}
use Rattle.gm_base.specs.declared.places.Place.{Place}
use Rattle.gm_value.specs.declared.values.Value.{Value}
use Rattle.gm_value.specs.declared.values.Value.TheVariants.{At}
use Rattle.gm_value.specs.declared.faults.FaultKind.{FaultKind}
use Rattle.gm_value.specs.declared.reductions.Reduce.{Reduce}
use Rattle.gm_value.specs.declared.reductions.Reduce.TheVariants.{Sum, Product, Min, Max, And, Or}
use Rattle.gm_value.specs.Operations.{result1, result2}
use Rattle.gm_value.specs.Reductions.{close}
use Rattle.gm_value.specs.Tuples.{close_slots}
use Rattle.gm_model.specs.Graphs.{node_count}
use Rattle.gm_ast.specs.declared.tree.Direction.{Direction}
use Rattle.gm_ast.specs.declared.tree.Direction.TheVariants.{Out, In}
use Rattle.gm_ast.specs.declared.tree.Target.{Target}
use Rattle.gm_ast.specs.declared.tree.Target.TheVariants as T
use Rattle.gm_ast.specs.Program.{Expr, Const, Var, Property, EdgeProperty, Degree, NodeCount, EdgeCount, Live, Unary, Binary, Both, Either, Choose, Folded}
use Rattle.gm_semantics.specs.declared.slots.Slot.TheVariants.{Node}
use Rattle.gm_semantics.specs.Stores.{Store}
use Rattle.gm_semantics.specs.Faults.{first, then_with, unless_fault}
use Rattle.gm_semantics.specs.Levels.{node_in}
use Rattle.gm_semantics.specs.Expressions.{View, Evaluated, AllEvaluated, and_all, node_held, at_node, located, degree_of, node_read, one_of, two_of, both, either, choice, evaluated, evaluated_all}
use Rattle.gm_semantics.specs.Iterations.{slot_of, slots_of, assigned, assigned_all, target_value, combined_by, tuple_held, closed_by, together, alone, at_once}
use Rattle.gm_semantics.specs.Frames.{ReadsBelow, AllReadBelow}
use Rattle.gm_forms.specs.Doing.{IsFlat, AreFlat}
use Rattle.gm_bfs.specs.declared.fresh.Fresh.{Fresh}
use Rattle.gm_bfs.specs.Variables.{copy_of}
use Rattle.gm_bfs.specs.Copies.{is_marked, seen_as, reading}

-- what is known of levels is asked by ranges alone
module _ (w : View) (levels : ℕ → Option ℕ) where
  abbrev other : View
  other = record w { levels = levels }

  held-levels : (at : Place) (o : Option ℕ) → node_held other at o ≡ node_held w at o
  held-levels at (Some n) = refl
  held-levels at None = refl

  located-levels : (at : Place) (r : Result Value FaultKind) → located other at r ≡ located w at r
  located-levels at (Ok v) = refl
  located-levels at (Err k) = refl

  at_node-levels : (x : ℕ) (at : Place) (f : ℕ → Value) → at_node other x at f ≡ at_node w x at f
  at_node-levels x at f = ap (λ r. then_with r (λ n. Ok (f n))) (held-levels at (node_in w.graph (w.store.scalar x)))

  degree-levels : (d : Direction) → degree_of other d ≡ degree_of w d
  degree-levels Out = refl
  degree-levels In = refl

  pub evaluated-levels : (e : Expr) → IsFlat e → evaluated e other ≡ evaluated e w
  evaluated-levels (Const v) g = refl
  evaluated-levels (Var x at) g = refl
  evaluated-levels (Property x p at) g = ap (node_read w) (at_node-levels x at (w.store.node p))
  evaluated-levels (EdgeProperty x p at) g = refl
  evaluated-levels (Degree d x at) g = ap (λ f. node_read w (at_node other x at f)) (degree-levels d) ∙ ap (node_read w) (at_node-levels x at (degree_of w d))
  evaluated-levels NodeCount g = refl
  evaluated-levels EdgeCount g = refl
  evaluated-levels (Live x at) g = ap (node_read w) (at_node-levels x at (λ n. At (Some n)))
  evaluated-levels (Unary op at e) g =
      ap (λ a. one_of a (λ v. located other at (result1 op v))) (evaluated-levels e g) ∙ ap (one_of (evaluated e w)) (fun_ext (λ v. located-levels at (result1 op v)))
  evaluated-levels (Binary op at a b) g =
      ap (λ c. two_of c (evaluated b other) (λ v y. located other at (result2 op v y))) (evaluated-levels a g.0)
      ∙ ap (λ c. two_of (evaluated a w) c (λ v y. located other at (result2 op v y))) (evaluated-levels b g.1)
      ∙ ap (two_of (evaluated a w) (evaluated b w)) (fun_ext (λ v. fun_ext (λ y. located-levels at (result2 op v y))))
  evaluated-levels (Both a b) g = ap (λ c. both c (evaluated b other)) (evaluated-levels a g.0) ∙ ap (both (evaluated a w)) (evaluated-levels b g.1)
  evaluated-levels (Either a b) g = ap (λ c. either c (evaluated b other)) (evaluated-levels a g.0) ∙ ap (either (evaluated a w)) (evaluated-levels b g.1)
  evaluated-levels (Choose c a b) g =
      ap (λ d. choice d (evaluated a other) (evaluated b other)) (evaluated-levels c g.0)
      ∙ ap (λ d. choice (evaluated c w) d (evaluated b other)) (evaluated-levels a g.1)
      ∙ ap (choice (evaluated c w) (evaluated a w)) (evaluated-levels b g.2)
  evaluated-levels (Folded f h test e) g = absurd g

  all-levels : (es : List Expr) → AreFlat es → evaluated_all es other ≡ evaluated_all es w
  all-levels [] g = refl
  all-levels (e ∷ es) g = ap (λ a. and_all a (evaluated_all es other)) (evaluated-levels e g.0) ∙ ap (and_all (evaluated e w)) (all-levels es g.1)

  slot_of-levels : (t : Target) → slot_of other t ≡ slot_of w t
  slot_of-levels (T.Scalar x at) = refl
  slot_of-levels (T.Property x p at) = ap (λ r. then_with r (λ n. Ok (Node p n))) (held-levels at (node_in w.graph (w.store.scalar x)))

  slots_of-levels : (ts : List Target) → slots_of other ts ≡ slots_of w ts
  slots_of-levels [] = refl
  slots_of-levels (t ∷ ts) =
      ap (λ r. then_with r (λ s. then_with (slots_of other ts) (λ ss. Ok (s ∷ ss)))) (slot_of-levels t) ∙ ap (λ r. then_with (slot_of w t) (λ s. then_with r (λ ss. Ok (s ∷ ss)))) (slots_of-levels ts)

  pub assigned-levels : (t : Target) (v : Evaluated) → assigned other t v ≡ assigned w t v
  assigned-levels t v = ap (λ r. unless_fault v.hoisted (then_with r (λ s. then_with v.rest (λ x. Ok (s, x))))) (slot_of-levels t)

  pub assign-levels : (t : Target) (e : Expr) → IsFlat e → assigned other t (evaluated e other) ≡ assigned w t (evaluated e w)
  assign-levels t e g = assigned-levels t (evaluated e other) ∙ ap (assigned w t) (evaluated-levels e g)

  assigned_all-levels : (ts : List Target) (v : AllEvaluated) → assigned_all other ts v ≡ assigned_all w ts v
  assigned_all-levels ts v = ap (λ r. unless_fault v.hoisted (then_with r (λ ss. then_with v.rest (λ xs. Ok (ss, xs))))) (slots_of-levels ts)

  pub assign_all-levels : (ts : List Target) (es : List Expr) → AreFlat es → assigned_all other ts (evaluated_all es other) ≡ assigned_all w ts (evaluated_all es w)
  assign_all-levels ts es g = assigned_all-levels ts (evaluated_all es other) ∙ ap (assigned_all w ts) (all-levels es g)

  target-flat : (t : Target) → IsFlat (target_value t)
  target-flat (T.Scalar x at) = tt
  target-flat (T.Property x p at) = tt

  targets-flat : (ts : List Target) → AreFlat (map target_value ts)
  targets-flat [] = tt
  targets-flat (t ∷ ts) = (target-flat t, targets-flat ts)

  combined-levels : (r : Reduce) (at : Place) (a b : Evaluated) → combined_by r other at a b ≡ combined_by r w at a b
  combined-levels Sum at a b = ap (two_of a b) (fun_ext (λ x. fun_ext (λ y. located-levels at (close Sum x (y ∷ [])))))
  combined-levels Product at a b = ap (two_of a b) (fun_ext (λ x. fun_ext (λ y. located-levels at (close Product x (y ∷ [])))))
  combined-levels Min at a b = ap (two_of a b) (fun_ext (λ x. fun_ext (λ y. located-levels at (close Min x (y ∷ [])))))
  combined-levels Max at a b = ap (two_of a b) (fun_ext (λ x. fun_ext (λ y. located-levels at (close Max x (y ∷ [])))))
  combined-levels And at a b = refl
  combined-levels Or at a b = refl

  tuple-levels : (at : Place) (o : Option (List Value)) → tuple_held other at o ≡ tuple_held w at o
  tuple-levels at (Some vs) = refl
  tuple-levels at None = refl

  closed-levels : (r : Reduce) (at : Place) (a b : AllEvaluated) → closed_by r other at a b ≡ closed_by r w at a b
  closed-levels r at a b =
      ap (λ f. record { hoisted = first a.hoisted b.hoisted; rest = then_with a.rest (λ held. then_with b.rest (f held)) })
      (fun_ext (λ held. fun_ext (λ vs. tuple-levels at (close_slots r held (vs ∷ [])))))

  single-levels : (at : Place) (r : Reduce) (t : Target) (e : Expr) → IsFlat e → at_once other at r (t ∷ []) (e ∷ []) ≡ at_once w at r (t ∷ []) (e ∷ [])
  single-levels at r t e g =
      ap alone
      (assigned-levels t (combined_by r other at (evaluated (target_value t) other) (evaluated e other))
      ∙ ap (assigned w t) (combined-levels r at (evaluated (target_value t) other) (evaluated e other))
      ∙ ap (λ a. assigned w t (combined_by r w at a (evaluated e other))) (evaluated-levels (target_value t) (target-flat t))
      ∙ ap (λ b. assigned w t (combined_by r w at (evaluated (target_value t) w) b)) (evaluated-levels e g))

  together-levels : (at : Place) (r : Reduce) (ts : List Target) (es : List Expr) → AreFlat es → together other at r ts es ≡ together w at r ts es
  together-levels at r ts es g =
      assigned_all-levels ts (closed_by r other at (evaluated_all (map target_value ts) other) (evaluated_all es other))
      ∙ ap (assigned_all w ts) (closed-levels r at (evaluated_all (map target_value ts) other) (evaluated_all es other))
      ∙ ap (λ a. assigned_all w ts (closed_by r w at a (evaluated_all es other))) (all-levels (map target_value ts) (targets-flat ts))
      ∙ ap (λ b. assigned_all w ts (closed_by r w at (evaluated_all (map target_value ts) w) b)) (all-levels es g)

  pub at_once-levels : (at : Place) (r : Reduce) (ts : List Target) (es : List Expr) → AreFlat es → at_once other at r ts es ≡ at_once w at r ts es
  at_once-levels at r [] es g = together-levels at r [] es g
  at_once-levels at r (t ∷ []) [] g = together-levels at r (t ∷ []) [] g
  at_once-levels at r (t ∷ []) (e ∷ []) g = single-levels at r t e g.0
  at_once-levels at r (t ∷ []) (e ∷ (d ∷ es)) g = together-levels at r (t ∷ []) (e ∷ (d ∷ es)) g
  at_once-levels at r (t ∷ (u ∷ ts)) es g = together-levels at r (t ∷ (u ∷ ts)) es g

-- copies of marked properties hold at a node what those hold
abbrev pub Copied : Fresh → List Bool → ℕ → Store → ℕ → Type 0
Copied f marks k s m = (p : ℕ) → p < k → is_marked marks p ≡ true → s.node (copy_of f p) m ≡ s.node p m

-- so an expression may read them through a variable that holds the node
module _ (f : Fresh) (marks : List Bool) (k v m : ℕ) (w : View) (holds : w.store.scalar v ≡ At (Some m)) (copied : Copied f marks k w.store m) where
  seen : (x p : ℕ) (at : Place) → p < k → at_node w x at (w.store.node (seen_as f marks v x p)) ≡ at_node w x at (w.store.node p)
  seen x p at b = by (nat_eq x v) (is_marked marks p) refl refl
    where
      there : nat_eq x v ≡ true → is_marked marks p ≡ true → (o : Option ℕ) → node_in w.graph (At (Some m)) ≡ o → then_with (node_held w at o) (λ n. Ok (w.store.node (copy_of f p) n)) ≡ then_with (node_held w at o) (λ n. Ok (w.store.node p n))
      there e h None i = refl
      there e h (Some n) i =
          ⊎_elim
          (λ (within : nat_lt m (node_count w.graph) ≡ true).
          let here : Some m ≡ Some n = sym (ap (λ c. cond c (Some m) None) within) ∙ i in
          let is : m ≡ n = cc in
          ap Ok (ap (w.store.node (copy_of f p)) (sym is) ∙ copied p b h ∙ ap (w.store.node p) is))
          (λ (beyond : nat_lt m (node_count w.graph) ≡ false).
          let here : None ≡ Some n = sym (ap (λ c. cond c (Some m) None) beyond) ∙ i in
          absurd (cc))
          (cases_Bool (nat_lt m (node_count w.graph)))

      by : (c d : Bool) → nat_eq x v ≡ c → is_marked marks p ≡ d → at_node w x at (w.store.node (cond (c && d) (copy_of f p) p)) ≡ at_node w x at (w.store.node p)
      by true true e h =
          let is : w.store.scalar x ≡ At (Some m) = ap w.store.scalar (eqb-true x v e) ∙ holds in
          ap (λ y. then_with (node_held w at (node_in w.graph y)) (λ n. Ok (w.store.node (copy_of f p) n))) is
          ∙ there e h (node_in w.graph (At (Some m))) refl
          ∙ sym (ap (λ y. then_with (node_held w at (node_in w.graph y)) (λ n. Ok (w.store.node p n))) is)
      by true false e h = refl
      by false d e h = refl

  pub evaluated-reading : (e : Expr) → ReadsBelow k e → IsFlat e → evaluated (reading f marks v e) w ≡ evaluated e w
  evaluated-reading (Const c) b g = refl
  evaluated-reading (Var x at) b g = refl
  evaluated-reading (Property x p at) b g = ap (node_read w) (seen x p at b.1)
  evaluated-reading (EdgeProperty x p at) b g = refl
  evaluated-reading (Degree d x at) b g = refl
  evaluated-reading NodeCount b g = refl
  evaluated-reading EdgeCount b g = refl
  evaluated-reading (Live x at) b g = refl
  evaluated-reading (Unary op at e) b g = ap (λ a. one_of a (λ y. located w at (result1 op y))) (evaluated-reading e b g)
  evaluated-reading (Binary op at a c) b g =
      ap (λ z. two_of z (evaluated (reading f marks v c) w) (λ x y. located w at (result2 op x y))) (evaluated-reading a b.0 g.0) ∙ ap (λ z. two_of (evaluated a w) z (λ x y. located w at (result2 op x y))) (evaluated-reading c b.1 g.1)
  evaluated-reading (Both a c) b g = ap (λ z. both z (evaluated (reading f marks v c) w)) (evaluated-reading a b.0 g.0) ∙ ap (both (evaluated a w)) (evaluated-reading c b.1 g.1)
  evaluated-reading (Either a c) b g = ap (λ z. either z (evaluated (reading f marks v c) w)) (evaluated-reading a b.0 g.0) ∙ ap (either (evaluated a w)) (evaluated-reading c b.1 g.1)
  evaluated-reading (Choose c a d) b g =
      ap (λ z. choice z (evaluated (reading f marks v a) w) (evaluated (reading f marks v d) w)) (evaluated-reading c b.0 g.0)
      ∙ ap (λ z. choice (evaluated c w) z (evaluated (reading f marks v d) w)) (evaluated-reading a b.1 g.1)
      ∙ ap (choice (evaluated c w) (evaluated a w)) (evaluated-reading d b.2 g.2)
  evaluated-reading (Folded g' h test e) b g = absurd g

  pub all-reading : (es : List Expr) → AllReadBelow k es → AreFlat es → evaluated_all (map (reading f marks v) es) w ≡ evaluated_all es w
  all-reading [] b g = refl
  all-reading (e ∷ es) b g = ap (λ a. and_all a (evaluated_all (map (reading f marks v) es) w)) (evaluated-reading e b.0 g.0) ∙ ap (and_all (evaluated e w)) (all-reading es b.1 g.1)

  together-reading : (at : Place) (r : Reduce) (ts : List Target) (es : List Expr) → AllReadBelow k es → AreFlat es → together w at r ts (map (reading f marks v) es) ≡ together w at r ts es
  together-reading at r ts es b g = ap (λ z. assigned_all w ts (closed_by r w at (evaluated_all (map target_value ts) w) z)) (all-reading es b g)

  pub at_once-reading : (at : Place) (r : Reduce) (ts : List Target) (es : List Expr) → AllReadBelow k es → AreFlat es → at_once w at r ts (map (reading f marks v) es) ≡ at_once w at r ts es
  at_once-reading at r [] es b g = together-reading at r [] es b g
  at_once-reading at r (t ∷ []) [] b g = refl
  at_once-reading at r (t ∷ []) (e ∷ []) b g = ap (λ z. alone (assigned w t (combined_by r w at (evaluated (target_value t) w) z))) (evaluated-reading e b.0 g.0)
  at_once-reading at r (t ∷ []) (e ∷ (d ∷ es)) b g = together-reading at r (t ∷ []) (e ∷ (d ∷ es)) b g
  at_once-reading at r (t ∷ (u ∷ ts)) es b g = together-reading at r (t ∷ (u ∷ ts)) es b g
