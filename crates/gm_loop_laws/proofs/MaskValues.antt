-- What a mask of a loop is worth at a node: it is the same wherever the loop's iterator holds the node, and all else that the mask reads is the same.
use Rattle.std.proofs.Common.{◌≡◌, ◌<◌, ℕ, Bool, true, false, cond, List, [], ◌∷◌, ◌++◌, refl, sym, ap, subst, ◌∙◌, Some, Ok, Result, ⊎_elim, inl, inr}
use Rattle.std.specs.Prelude.{◌&&◌, ◌||◌, not, nat_eq}
use Rattle.std.proofs.lemmas.Bool.{both_ways, eqb-true, eq-eqb}
use Rattle.gm_base.specs.declared.places.Place.{Place}
use Rattle.gm_value.specs.Bag.{IsIn}
use Rattle.gm_value.specs.declared.values.Value.{Value}
use Rattle.gm_value.specs.declared.values.Value.TheVariants.{At}
use Rattle.gm_value.specs.declared.operations.Op1.TheVariants.{Neg, Not, ToI32, ToI64}
use Rattle.gm_value.specs.declared.operations.Op2.TheVariants.{Add, Sub, Mul, Div, Rem, Eq, Ne, Lt, Le, Gt, Ge}
use Rattle.gm_value.specs.Operations.{result1, result2}
use Rattle.gm_model.specs.Graphs.{node_count}
use Rattle.gm_ast.specs.declared.tree.Direction.{Direction}
use Rattle.gm_ast.specs.declared.tree.Direction.TheVariants.{Out, In}
use Rattle.gm_ast.specs.declared.tree.Key.{Key}
use Rattle.gm_ast.specs.Ways.{is_in}
use Rattle.gm_ast.specs.Program.{Expr, Const, Var, Property, EdgeProperty, Degree, NodeCount, EdgeCount, Live, Unary, Binary, Both, Either, Choose, Folded}
use Rattle.gm_semantics.specs.Stores.{Store}
use Rattle.gm_semantics.specs.Levels.{nodes}
use Rattle.gm_semantics.specs.Expressions.{View, Answer, Evaluated, evaluated, plain, settled, value, located, one_of, two_of, both, either, choice, degree_of}
use Rattle.gm_semantics.specs.Iterations.{Loop, Mode, Iteration, begun, Outermost, view_in}
use Rattle.gm_forms.specs.Cut.{is_mask}
use Rattle.gm_forms.specs.Forms.{is_flat}
use Rattle.gm_forms.specs.Order.{can_fail1, can_fail2, cannot_fail}
use Rattle.gm_forms.specs.Sharing.{told_in}
use Rattle.gm_forms.proofs.CutTests.{finds}
use Rattle.gm_forms.proofs.Doings.{in-left, in-right}
use Rattle.gm_forms.proofs.Named.{both-true}
use Rattle.gm_forms.proofs.Weaker.{and-true}
use Rattle.gm_loop_laws.specs.Masks.{is_certain}
use Rattle.gm_loop_laws.proofs.Alone.{nodes-below}
use Rattle.gm_loop_laws.proofs.Masks.{certain, outer-held, start, start-held, seen, value_of}

-- a mask cannot fault at the loop's node
mask-certain-by : (n : ℕ) (e : Expr) → cannot_fail e ≡ true → is_flat (n ∷ []) false e ≡ true → is_certain (n ∷ []) e ≡ true
mask-certain-by n (Const v) c f = refl
mask-certain-by n (Var x at) c f = refl
mask-certain-by n (Property x p at) c f = f
mask-certain-by n (EdgeProperty x p at) c f = refl
mask-certain-by n (Degree d x at) c f = f
mask-certain-by n NodeCount c f = refl
mask-certain-by n EdgeCount c f = refl
mask-certain-by n (Live x at) c f = absurd (both_ways false refl c)
mask-certain-by n (Unary op at e) c f = let q = both-true (not (can_fail1 op)) (cannot_fail e) c in and-true (not (can_fail1 op)) (is_certain (n ∷ []) e) q.0 (mask-certain-by n e q.1 f)
mask-certain-by n (Binary op at a b) c f =
    let q = both-true (not (can_fail2 op)) (cannot_fail a && cannot_fail b) c in
    let r = both-true (cannot_fail a) (cannot_fail b) q.1 in
    let g = both-true (is_flat (n ∷ []) false a) (is_flat (n ∷ []) false b) f in
    and-true (not (can_fail2 op)) (is_certain (n ∷ []) a && is_certain (n ∷ []) b) q.0 (and-true (is_certain (n ∷ []) a) (is_certain (n ∷ []) b) (mask-certain-by n a r.0 g.0) (mask-certain-by n b r.1 g.1))
mask-certain-by n (Both a b) c f =
    let r = both-true (cannot_fail a) (cannot_fail b) c in
    let g = both-true (is_flat (n ∷ []) false a) (is_flat (n ∷ []) false b) f in
    and-true (is_certain (n ∷ []) a) (is_certain (n ∷ []) b) (mask-certain-by n a r.0 g.0) (mask-certain-by n b r.1 g.1)
mask-certain-by n (Either a b) c f =
    let r = both-true (cannot_fail a) (cannot_fail b) c in
    let g = both-true (is_flat (n ∷ []) false a) (is_flat (n ∷ []) false b) f in
    and-true (is_certain (n ∷ []) a) (is_certain (n ∷ []) b) (mask-certain-by n a r.0 g.0) (mask-certain-by n b r.1 g.1)
mask-certain-by n (Choose e a b) c f =
    let q = both-true (cannot_fail e) (cannot_fail a && cannot_fail b) c in
    let r = both-true (cannot_fail a) (cannot_fail b) q.1 in
    let h = both-true (is_flat (n ∷ []) false e) (is_flat (n ∷ []) false a && is_flat (n ∷ []) false b) f in
    let g = both-true (is_flat (n ∷ []) false a) (is_flat (n ∷ []) false b) h.1 in
    and-true (is_certain (n ∷ []) e) (is_certain (n ∷ []) a && is_certain (n ∷ []) b) (mask-certain-by n e q.0 h.0) (and-true (is_certain (n ∷ []) a) (is_certain (n ∷ []) b) (mask-certain-by n a r.0 g.0) (mask-certain-by n b r.1 g.1))
mask-certain-by n (Folded fold h t e) c f = absurd (both_ways false refl c)

pub mask-certain : (n : ℕ) (e : Expr) → is_mask n e ≡ true → is_certain (n ∷ []) e ≡ true
mask-certain n e h = let q = both-true (cannot_fail e) (is_flat (n ∷ []) false e) h in mask-certain-by n e q.0 q.1

-- the same value from two iterations at one node
module _ (loop : Loop) (m o : Mode) (it at_other : Iteration) (k j : Key) (x : ℕ) (less : x < node_count loop.graph) (holds : it.store.scalar loop.outer ≡ At (Some x)) (holds-too : at_other.store.scalar loop.outer ≡ At (Some x)) (properties : it.store.node ≡ at_other.store.node) where
  abbrev u : View
  u = view_in loop m it k

  abbrev w : View
  w = view_in loop o at_other j

  abbrev n : ℕ
  n = loop.outer

  owned : (y : ℕ) → is_in (n ∷ []) y ≡ true → nat_eq y n ≡ true
  owned y h = by (nat_eq y n) h
    where
      by : (b : Bool) → b || false ≡ true → b ≡ true
      by true e = refl
      by false e = absurd (both_ways false refl e)

  abbrev Told : Expr → Type 0
  Told e = (y : ℕ) → IsIn y (told_in e) → it.store.scalar y ≡ at_other.store.scalar y

  told-left : (a b : Expr) → ((y : ℕ) → IsIn y (told_in a ++ told_in b) → it.store.scalar y ≡ at_other.store.scalar y) → Told a
  told-left a b h y i = h y (in-left y (told_in a) (told_in b) i)

  told-right : (a b : Expr) → ((y : ℕ) → IsIn y (told_in a ++ told_in b) → it.store.scalar y ≡ at_other.store.scalar y) → Told b
  told-right a b h y i = h y (in-right y (told_in a) (told_in b) i)

  views : (e : Expr) → is_certain (n ∷ []) e ≡ true → is_flat (n ∷ []) false e ≡ true → Told e → evaluated e u ≡ evaluated e w
  views (Const v) h f s = refl
  views (Var y at) h f s = ap (λ v. plain (Ok v)) (s y (inl refl))
  views (Property y p at) h f s =
      ap plain (outer-held loop m it k x less holds y at (it.store.node p) (owned y h)
      ∙ ap (λ (g : ℕ → ℕ → Value). Ok (g p x)) properties
      ∙ sym (outer-held loop o at_other j x less holds-too y at (at_other.store.node p) (owned y h)))
  views (EdgeProperty y p at) h f s = absurd (both_ways false refl f)
  views (Degree d y at) h f s = ap plain (outer-held loop m it k x less holds y at (degree_of u d) (owned y h) ∙ degrees d ∙ sym (outer-held loop o at_other j x less holds-too y at (degree_of w d) (owned y h)))
    where
      degrees : (d : Direction) → ◌≡◌ {A = Answer} (Ok (degree_of u d x)) (Ok (degree_of w d x))
      degrees Out = refl
      degrees In = refl
  views NodeCount h f s = refl
  views EdgeCount h f s = refl
  views (Live y at) h f s = ap plain (outer-held loop m it k x less holds y at (λ z. At (Some z)) (owned y h) ∙ sym (outer-held loop o at_other j x less holds-too y at (λ z. At (Some z)) (owned y h)))
  views (Unary Neg at e) h f s = absurd (both_ways false refl h)
  views (Unary Not at e) h f s = ap (λ a. one_of a (λ v. located w at (result1 Not v))) (views e h f s)
  views (Unary ToI32 at e) h f s = absurd (both_ways false refl h)
  views (Unary ToI64 at e) h f s = ap (λ a. one_of a (λ v. located w at (result1 ToI64 v))) (views e h f s)
  views (Binary Add at a b) h f s = absurd (both_ways false refl h)
  views (Binary Sub at a b) h f s = absurd (both_ways false refl h)
  views (Binary Mul at a b) h f s = absurd (both_ways false refl h)
  views (Binary Div at a b) h f s = absurd (both_ways false refl h)
  views (Binary Rem at a b) h f s = absurd (both_ways false refl h)
  views (Binary Eq at a b) h f s =
      let r = both-true (is_certain (n ∷ []) a) (is_certain (n ∷ []) b) h in
      let g = both-true (is_flat (n ∷ []) false a) (is_flat (n ∷ []) false b) f in
      ap (λ z. two_of z (evaluated b u) (λ p q. located w at (result2 Eq p q))) (views a r.0 g.0 (told-left a b s)) ∙ ap (λ z. two_of (evaluated a w) z (λ p q. located w at (result2 Eq p q))) (views b r.1 g.1 (told-right a b s))
  views (Binary Ne at a b) h f s =
      let r = both-true (is_certain (n ∷ []) a) (is_certain (n ∷ []) b) h in
      let g = both-true (is_flat (n ∷ []) false a) (is_flat (n ∷ []) false b) f in
      ap (λ z. two_of z (evaluated b u) (λ p q. located w at (result2 Ne p q))) (views a r.0 g.0 (told-left a b s)) ∙ ap (λ z. two_of (evaluated a w) z (λ p q. located w at (result2 Ne p q))) (views b r.1 g.1 (told-right a b s))
  views (Binary Lt at a b) h f s =
      let r = both-true (is_certain (n ∷ []) a) (is_certain (n ∷ []) b) h in
      let g = both-true (is_flat (n ∷ []) false a) (is_flat (n ∷ []) false b) f in
      ap (λ z. two_of z (evaluated b u) (λ p q. located w at (result2 Lt p q))) (views a r.0 g.0 (told-left a b s)) ∙ ap (λ z. two_of (evaluated a w) z (λ p q. located w at (result2 Lt p q))) (views b r.1 g.1 (told-right a b s))
  views (Binary Le at a b) h f s =
      let r = both-true (is_certain (n ∷ []) a) (is_certain (n ∷ []) b) h in
      let g = both-true (is_flat (n ∷ []) false a) (is_flat (n ∷ []) false b) f in
      ap (λ z. two_of z (evaluated b u) (λ p q. located w at (result2 Le p q))) (views a r.0 g.0 (told-left a b s)) ∙ ap (λ z. two_of (evaluated a w) z (λ p q. located w at (result2 Le p q))) (views b r.1 g.1 (told-right a b s))
  views (Binary Gt at a b) h f s =
      let r = both-true (is_certain (n ∷ []) a) (is_certain (n ∷ []) b) h in
      let g = both-true (is_flat (n ∷ []) false a) (is_flat (n ∷ []) false b) f in
      ap (λ z. two_of z (evaluated b u) (λ p q. located w at (result2 Gt p q))) (views a r.0 g.0 (told-left a b s)) ∙ ap (λ z. two_of (evaluated a w) z (λ p q. located w at (result2 Gt p q))) (views b r.1 g.1 (told-right a b s))
  views (Binary Ge at a b) h f s =
      let r = both-true (is_certain (n ∷ []) a) (is_certain (n ∷ []) b) h in
      let g = both-true (is_flat (n ∷ []) false a) (is_flat (n ∷ []) false b) f in
      ap (λ z. two_of z (evaluated b u) (λ p q. located w at (result2 Ge p q))) (views a r.0 g.0 (told-left a b s)) ∙ ap (λ z. two_of (evaluated a w) z (λ p q. located w at (result2 Ge p q))) (views b r.1 g.1 (told-right a b s))
  views (Both a b) h f s =
      let r = both-true (is_certain (n ∷ []) a) (is_certain (n ∷ []) b) h in
      let g = both-true (is_flat (n ∷ []) false a) (is_flat (n ∷ []) false b) f in
      ap (λ z. both z (evaluated b u)) (views a r.0 g.0 (told-left a b s)) ∙ ap (both (evaluated a w)) (views b r.1 g.1 (told-right a b s))
  views (Either a b) h f s =
      let r = both-true (is_certain (n ∷ []) a) (is_certain (n ∷ []) b) h in
      let g = both-true (is_flat (n ∷ []) false a) (is_flat (n ∷ []) false b) f in
      ap (λ z. either z (evaluated b u)) (views a r.0 g.0 (told-left a b s)) ∙ ap (either (evaluated a w)) (views b r.1 g.1 (told-right a b s))
  views (Choose c a b) h f s =
      let r = both-true (is_certain (n ∷ []) c) (is_certain (n ∷ []) a && is_certain (n ∷ []) b) h in
      let r2 = both-true (is_certain (n ∷ []) a) (is_certain (n ∷ []) b) r.1 in
      let g = both-true (is_flat (n ∷ []) false c) (is_flat (n ∷ []) false a && is_flat (n ∷ []) false b) f in
      let g2 = both-true (is_flat (n ∷ []) false a) (is_flat (n ∷ []) false b) g.1 in
      let rest : (y : ℕ) → IsIn y (told_in a ++ told_in b) → it.store.scalar y ≡ at_other.store.scalar y = λ y i. s y (in-right y (told_in c) (told_in a ++ told_in b) i) in
      ap (λ z. choice z (evaluated a u) (evaluated b u)) (views c r.0 g.0 (λ y i. s y (in-left y (told_in c) (told_in a ++ told_in b) i)))
      ∙ ap (λ z. choice (evaluated c w) z (evaluated b u)) (views a r2.0 g2.0 (told-left a b rest)) ∙ ap (choice (evaluated c w) (evaluated a w)) (views b r2.1 g2.1 (told-right a b rest))
  views (Folded fold hd c e) h f s = absurd (both_ways false refl h)

-- what a mask is worth at a node of a loop that begins with a store
abbrev pub mask_value : Loop → Key → Expr → Store → ℕ → Value
mask_value loop k mask s x = value_of (value mask (seen loop k s x))

-- it is worth that in each iteration and inner loop at the node, where the mask reads neither the inner iterator nor what was written
pub mask-held : (loop : Loop) (k : Key) (t : ℕ) (mask : Expr) (s : Store) → is_mask loop.outer mask ≡ true → is_in (told_in mask) t ≡ false → (x : ℕ) → IsIn x (nodes loop.graph) → (m : Mode) (it : Iteration) (j : Key) →
    it.store.scalar loop.outer ≡ At (Some x) → it.store.node ≡ s.node → ((y : ℕ) → nat_eq loop.outer y ≡ false → nat_eq t y ≡ false → it.store.scalar y ≡ s.scalar y) → evaluated mask (view_in loop m it j) ≡ plain (Ok (mask_value loop k mask s x))
mask-held loop k t mask s h out x i m it j holds properties scalars =
    let c = mask-certain loop.outer mask h in
    let f = (both-true (cannot_fail mask) (is_flat (loop.outer ∷ []) false mask) h).1 in
    let less = nodes-below loop.graph x i in
    let start-it = begun (start loop k s x) in
    let r = certain loop Outermost start-it k x less (start-held loop k s x) mask c in
    let is : mask_value loop k mask s x ≡ r.0 = ap (λ a. value_of (settled a)) r.1 in
    views loop m Outermost it start-it j k x less holds (start-held loop k s x) properties mask c f (λ y q. same y q (nat_eq loop.outer y) (nat_eq t y) refl refl)
    ∙ r.1 ∙ ap (λ v. plain (Ok v)) (sym is)
  where
    same : (y : ℕ) → IsIn y (told_in mask) → (a b : Bool) → nat_eq loop.outer y ≡ a → nat_eq t y ≡ b → it.store.scalar y ≡ (start loop k s x).scalar y
    same y q true b e g = ap it.store.scalar (sym (eqb-true loop.outer y e)) ∙ holds ∙ sym (start-held loop k s x) ∙ ap (start loop k s x).scalar (eqb-true loop.outer y e)
    same y q false true e g = absurd (both_ways (is_in (told_in mask) t) out (subst (λ z. is_in (told_in mask) z ≡ true) (sym (eqb-true t y g)) (finds (told_in mask) y q)))
    same y q false false e g = scalars y e g ∙ sym (ap (λ b. cond b (At (Some x)) (s.scalar y)) e)

-- so is a saved value, under any iterator that is not the inner one's
pub saved-held : (loop : Loop) (t m : ℕ) (at : Place) (s : Store) → (x : ℕ) → IsIn x (nodes loop.graph) → (mode : Mode) (it : Iteration) (j : Key) → it.store.scalar loop.outer ≡ At (Some x) → it.store.node ≡ s.node →
    ((y : ℕ) → nat_eq loop.outer y ≡ false → nat_eq t y ≡ false → it.store.scalar y ≡ s.scalar y) → evaluated (Property loop.outer m at) (view_in loop mode it j) ≡ plain (Ok (s.node m x))
saved-held loop t m at s x i mode it j holds properties rest =
    ap plain (outer-held loop mode it j x (nodes-below loop.graph x i) holds loop.outer at (it.store.node m) (eq-eqb loop.outer loop.outer refl) ∙ ap (λ (f : ℕ → ℕ → Value). Ok (f m x)) properties)
