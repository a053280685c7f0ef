-- Loops are cut under masks that stay.
use Rattle.std.proofs.Common.{List, [], ◌∷◌, int_eq, int_lt, int_le, ◌≡◌, ◌<◌, ◌≤◌, arith, ℕ, Bool, true, false, cond, List, refl, sym, ap, subst, ◌∙◌, Some, None, Result, Ok, Err}
use Rattle.std.specs.Prelude.{◌||◌, ◌&&◌, not, nat_eq}
use Rattle.std.proofs.lemmas.Bool.{eq-eqb, eqb-true, ne_eqb, lt-ltb, both_ways}
use Rattle.gm_base.specs.declared.places.Place.{Place}
use Rattle.gm_value.specs.declared.values.Value.{Value}
use Rattle.gm_value.specs.declared.values.Value.TheVariants.{I64, At, Flag}
use Rattle.gm_value.specs.declared.operations.Op2.{Op2}
use Rattle.gm_value.specs.declared.operations.Op1.TheVariants.{Neg, Not, ToI32, ToI64}
use Rattle.gm_value.specs.declared.operations.Op2.TheVariants.{Add, Sub, Mul, Div, Rem, Eq, Ne, Lt, Le, Gt, Ge}
use Rattle.gm_value.specs.Bag.{IsIn}
use Rattle.gm_value.specs.Numbers.{number_of}
use Rattle.gm_value.specs.Operations.{is_true, result1, result2}
use Rattle.gm_model.specs.Graphs.{node_count}
use Rattle.gm_ast.specs.declared.tree.Declaration.{Declaration}
use Rattle.gm_ast.specs.declared.tree.Direction.{Direction}
use Rattle.gm_ast.specs.declared.tree.Direction.TheVariants.{Out, In}
use Rattle.gm_ast.specs.declared.tree.Key.{Key}
use Rattle.gm_ast.specs.Ways.{is_in}
use Rattle.gm_ast.specs.Program.{Expr, Const, Var, Property, EdgeProperty, Degree, NodeCount, EdgeCount, Live, Unary, Binary, Both, Either, Choose, Folded, Stmt, Then}
use Rattle.gm_semantics.specs.declared.faults.Fault.{Fault}
use Rattle.gm_semantics.specs.declared.slots.Slot.{Slot}
use Rattle.gm_semantics.specs.declared.slots.Slot.TheVariants.{Scalar, Node}
use Rattle.gm_semantics.specs.Stores.{Store, read, write}
use Rattle.gm_semantics.specs.Faults.{then_with}
use Rattle.gm_semantics.specs.Levels.{nodes, node_in}
use Rattle.gm_semantics.specs.Expressions.{View, Answer, Evaluated, node_held, at_node, one_of, two_of, both, either, choice, plain, settled, degree_of, evaluated, value, located}
use Rattle.gm_semantics.specs.Iterations.{Loop, Mode, Iteration, begun, with_ok, one_way, as_it_is, Outermost, view_in, does}
use Rattle.gm_semantics.specs.Loops.{iteration, loop_done}
use Rattle.gm_semantics.specs.Frames.{Agree, ReadsBelow, NamesBelow, AlikeStores}
use Rattle.gm_semantics.proofs.ExpressionFrames.{agree-write, evaluated-frame}
use Rattle.gm_semantics.proofs.StatementFrames.{parallel-alike}
use Rattle.gm_forms.specs.Cut.{touched}
use Rattle.gm_forms.specs.Forms.{is_outer_body}
use Rattle.gm_forms.specs.Sharing.{deferred}
use Rattle.gm_forms.specs.Fission.{is_nil, Knows, can_cut}
use Rattle.gm_forms.specs.Reading.{ReadsGood}
use Rattle.gm_forms.proofs.Named.{both-true}
use Rattle.gm_forms.proofs.CutLaws.{fission-holds}
use Rattle.gm_forms.proofs.CutTests.{finds, not-true}
use Rattle.gm_forms.proofs.ReadingFrames.{evaluated-good}
use Rattle.gm_loop_laws.specs.Masks.{Change, looped, in_turn, SameChange, is_certain, spares, is_stable, MasksStay}
use Rattle.gm_loop_laws.proofs.Joins.{map-each}
use Rattle.gm_loop_laws.proofs.Alone.{nodes-below}
use Rattle.gm_loop_laws.proofs.Mays.{nil-parts}
use Rattle.gm_loop_laws.proofs.Kept.{touched-below, Untouched, loop-keeps, loop-edges}

-- stores that agree, one after another
pub agree-trans : (j : ℕ) (s t u : Store) → Agree j s t → Agree j t u → Agree j s u
agree-trans j s t u a b = record { scalar = λ x l. b.scalar x l ∙ a.scalar x l; node = λ p y l. b.node p y l ∙ a.node p y l; edge = λ p e l. b.edge p e l ∙ a.edge p e l }

pub agree-refl : (j : ℕ) (s : Store) → Agree j s s
agree-refl j s = record { scalar = λ x l. refl; node = λ p y l. refl; edge = λ p e l. refl }

pub agree-sym : (j : ℕ) (s t : Store) → Agree j s t → Agree j t s
agree-sym j s t a = record { scalar = λ x l. sym (a.scalar x l); node = λ p y l. sym (a.node p y l); edge = λ p e l. sym (a.edge p e l) }

-- so for what is left
pub alike-trans : (j : ℕ) (a b c : Result Store Fault) → AlikeStores j a b → AlikeStores j b c → AlikeStores j a c
alike-trans j (Ok s) (Ok t) (Ok u) p q = agree-trans j s t u p q
alike-trans j (Ok s) (Ok t) (Err g) p q = absurd q
alike-trans j (Ok s) (Err f) c p q = absurd p
alike-trans j (Err f) (Ok t) c p q = absurd p
alike-trans j (Err f) (Err g) (Ok u) p q = absurd q
alike-trans j (Err f) (Err g) (Err h) p q = q ∙ p

pub alike-sym : (j : ℕ) (a b : Result Store Fault) → AlikeStores j a b → AlikeStores j b a
alike-sym j (Ok s) (Ok t) p = agree-sym j s t p
alike-sym j (Ok s) (Err f) p = absurd p
alike-sym j (Err f) (Ok t) p = absurd p
alike-sym j (Err f) (Err g) p = sym p

-- a change after a change
pub same-turns : (j : ℕ) (f f' g g' : Change) → SameChange j f f' → SameChange j g g' → SameChange j (in_turn f g) (in_turn f' g')
same-turns j f f' g g' p q s t a = by (f s) (f' t) (p s t a)
  where
    by : (x y : Result Store Fault) → AlikeStores j x y → AlikeStores j (then_with x g) (then_with y g')
    by (Ok u) (Ok v) h = q u v h
    by (Ok u) (Err e) h = absurd h
    by (Err e) (Ok v) h = absurd h
    by (Err e) (Err d) h = h

pub same-trans : (j : ℕ) (f g h : Change) → SameChange j f g → SameChange j g h → SameChange j f h
same-trans j f g h p q s t a = alike-trans j (f s) (g s) (h t) (p s s (agree-refl j s)) (q s t a)

-- changes that read what they name alone are the same where each store has one that agrees with it and from which they are
pub same-by : (j : ℕ) (f g : Change) → SameChange j f f → SameChange j g g → ((t : Store) → (u : Store) × Agree j t u × (f u ≡ g u)) → SameChange j f g
same-by j f g p q by s t a =
    let r = by t in
    alike-trans j (f s) (f r.0) (g t) (p s r.0 (agree-trans j s t r.0 a r.1)) (subst (λ z. AlikeStores j z (g t)) (sym r.2) (alike-sym j (g t) (g r.0) (q t r.0 r.1)))

-- the frame of a loop
pub loop-same : (j : ℕ) (loop : Loop) (key : Key) (test : Expr) (body : Stmt) → ReadsBelow j test → NamesBelow j body → SameChange j (looped loop key test body) (looped loop key test body)
loop-same j loop key test body r n s t a = parallel-alike j loop key test body (nodes loop.graph) s t r n a

-- what cannot fault has a value
-- a variable that holds a node of the graph
abbrev pub Holds : Loop → Iteration → ℕ → Type 0
Holds loop it y = (z : ℕ) × (z < node_count loop.graph) × (it.store.scalar y ≡ At (Some z))

module _ (loop : Loop) (m : Mode) (it : Iteration) (k : Key) (its : List ℕ) (known : (y : ℕ) → is_in its y ≡ true → Holds loop it y) where
  abbrev w : View
  w = view_in loop m it k

  abbrev Certain : Expr → Type 0
  Certain e = (v : Value) × (evaluated e w ≡ plain (Ok v))

  held : (y : ℕ) (at : Place) (f : ℕ → Value) (h : is_in its y ≡ true) → at_node w y at f ≡ Ok (f (known y h).0)
  held y at f h =
      let z = known y h in
      ap (λ v. then_with (node_held w at (node_in loop.graph v)) (λ n. Ok (f n))) z.2
      ∙ ap (λ c. then_with (node_held w at (cond c (Some z.0) None)) (λ n. Ok (f n))) (lt-ltb z.0 (node_count loop.graph) z.1)

  one-certain : (a : Evaluated) (v u : Value) (f : Value → Answer) → a ≡ plain (Ok v) → f v ≡ Ok u → one_of a f ≡ plain (Ok u)
  one-certain a v u f p q = ap (λ a. one_of a f) p ∙ ap plain q

  two-certain : (a b : Evaluated) (v u z : Value) (f : Value → Value → Answer) → a ≡ plain (Ok v) → b ≡ plain (Ok u) → f v u ≡ Ok z → two_of a b f ≡ plain (Ok z)
  two-certain a b v u z f p q r = ap (λ a. two_of a b f) p ∙ ap (λ b. two_of (plain (Ok v)) b f) q ∙ ap plain r

  ok-way : (b : Bool) (u v : Value) → cond {A = Answer} b (Ok u) (Ok v) ≡ Ok (cond b u v)
  ok-way true u v = refl
  ok-way false u v = refl

  flagged : (a b : Expr) (op : Op2) (at : Place) (f : Value → Value → Bool) → ((u v : Value) → result2 op u v ≡ Ok (Flag (f u v))) → Certain a → Certain b → Certain (Binary op at a b)
  flagged a b op at f is p q =
      (Flag (f p.0 q.0), two-certain (evaluated a w) (evaluated b w) p.0 q.0 (Flag (f p.0 q.0)) (λ x y. located w at (result2 op x y)) p.1 q.1 (ap (located w at) (is p.0 q.0)))

  pub certain-by : (e : Expr) → is_certain its e ≡ true → Certain e
  certain-by (Const v) h = (v, refl)
  certain-by (Var y at) h = (it.store.scalar y, refl)
  certain-by (Property y p at) h = (it.store.node p (known y h).0, ap plain (held y at (it.store.node p) h))
  certain-by (EdgeProperty y p at) h = (it.store.edge p w.edge, refl)
  certain-by (Degree d y at) h = (degree_of w d (known y h).0, ap plain (held y at (degree_of w d) h))
  certain-by NodeCount h = (_, refl)
  certain-by EdgeCount h = (_, refl)
  certain-by (Live y at) h = (At (Some (known y h).0), ap plain (held y at (λ n. At (Some n)) h))
  certain-by (Unary Neg at e) h = absurd (both_ways false refl h)
  certain-by (Unary Not at e) h = let r = certain-by e h in (Flag (not (is_true r.0)), one-certain (evaluated e w) r.0 (Flag (not (is_true r.0))) (λ v. located w at (result1 Not v)) r.1 refl)
  certain-by (Unary ToI32 at e) h = absurd (both_ways false refl h)
  certain-by (Unary ToI64 at e) h = let r = certain-by e h in (I64 (number_of r.0), one-certain (evaluated e w) r.0 (I64 (number_of r.0)) (λ v. located w at (result1 ToI64 v)) r.1 refl)
  certain-by (Binary Add at a b) h = absurd (both_ways false refl h)
  certain-by (Binary Sub at a b) h = absurd (both_ways false refl h)
  certain-by (Binary Mul at a b) h = absurd (both_ways false refl h)
  certain-by (Binary Div at a b) h = absurd (both_ways false refl h)
  certain-by (Binary Rem at a b) h = absurd (both_ways false refl h)
  certain-by (Binary Eq at a b) h = let r = both-true (is_certain its a) (is_certain its b) h in flagged a b Eq at (λ u v. int_eq (number_of u) (number_of v)) (λ u v. refl) (certain-by a r.0) (certain-by b r.1)
  certain-by (Binary Ne at a b) h = let r = both-true (is_certain its a) (is_certain its b) h in flagged a b Ne at (λ u v. not (int_eq (number_of u) (number_of v))) (λ u v. refl) (certain-by a r.0) (certain-by b r.1)
  certain-by (Binary Lt at a b) h = let r = both-true (is_certain its a) (is_certain its b) h in flagged a b Lt at (λ u v. int_lt (number_of u) (number_of v)) (λ u v. refl) (certain-by a r.0) (certain-by b r.1)
  certain-by (Binary Le at a b) h = let r = both-true (is_certain its a) (is_certain its b) h in flagged a b Le at (λ u v. int_le (number_of u) (number_of v)) (λ u v. refl) (certain-by a r.0) (certain-by b r.1)
  certain-by (Binary Gt at a b) h = let r = both-true (is_certain its a) (is_certain its b) h in flagged a b Gt at (λ u v. int_lt (number_of v) (number_of u)) (λ u v. refl) (certain-by a r.0) (certain-by b r.1)
  certain-by (Binary Ge at a b) h = let r = both-true (is_certain its a) (is_certain its b) h in flagged a b Ge at (λ u v. int_le (number_of v) (number_of u)) (λ u v. refl) (certain-by a r.0) (certain-by b r.1)
  certain-by (Both a b) h =
      let r = both-true (is_certain its a) (is_certain its b) h in
      let p = certain-by a r.0 in
      let q = certain-by b r.1 in
      (cond (is_true p.0) q.0 p.0, ap (λ a. both a (evaluated b w)) p.1 ∙ ap (both (plain (Ok p.0))) q.1 ∙ ap plain (ok-way (is_true p.0) q.0 p.0))
  certain-by (Either a b) h =
      let r = both-true (is_certain its a) (is_certain its b) h in
      let p = certain-by a r.0 in
      let q = certain-by b r.1 in
      (cond (is_true p.0) p.0 q.0, ap (λ a. either a (evaluated b w)) p.1 ∙ ap (either (plain (Ok p.0))) q.1 ∙ ap plain (ok-way (is_true p.0) p.0 q.0))
  certain-by (Choose c a b) h =
      let r = both-true (is_certain its c) (is_certain its a && is_certain its b) h in
      let s = both-true (is_certain its a) (is_certain its b) r.1 in
      let o = certain-by c r.0 in
      let p = certain-by a s.0 in
      let q = certain-by b s.1 in (
        cond (is_true o.0) p.0 q.0,
        ap (λ c. choice c (evaluated a w) (evaluated b w)) o.1 ∙ ap (λ a. choice (plain (Ok o.0)) a (evaluated b w)) p.1 ∙ ap (choice (plain (Ok o.0)) (plain (Ok p.0))) q.1
            ∙ ap plain (ok-way (is_true o.0) p.0 q.0),
      )
  certain-by (Folded f head test e) h = absurd (both_ways false refl h)

-- in an outer body the loop's own iterator does
pub outer-holds : (loop : Loop) (it : Iteration) (x : ℕ) → x < node_count loop.graph → it.store.scalar loop.outer ≡ At (Some x) → (y : ℕ) → is_in (loop.outer ∷ []) y ≡ true → Holds loop it y
outer-holds loop it x less holds y h = by (nat_eq y loop.outer) refl h
  where
    by : (b : Bool) → nat_eq y loop.outer ≡ b → b || false ≡ true → Holds loop it y
    by true e h = (x, less, ap it.store.scalar (eqb-true y loop.outer e) ∙ holds)
    by false e h = absurd (both_ways false refl h)

pub certain : (loop : Loop) (m : Mode) (it : Iteration) (k : Key) (x : ℕ) → x < node_count loop.graph → it.store.scalar loop.outer ≡ At (Some x) → (e : Expr) → is_certain (loop.outer ∷ []) e ≡ true → (v : Value) × (evaluated e (view_in loop m it k) ≡ plain (Ok v))
certain loop m it k x less holds e h = certain-by loop m it k (loop.outer ∷ []) (outer-holds loop it x less holds) e h

pub outer-held : (loop : Loop) (m : Mode) (it : Iteration) (k : Key) (x : ℕ) → x < node_count loop.graph → it.store.scalar loop.outer ≡ At (Some x) → (y : ℕ) (at : Place) (f : ℕ → Value) → nat_eq y loop.outer ≡ true → at_node (view_in loop m it k) y at f ≡ Ok (f x)
outer-held loop m it k x less holds y at f e =
    ap (λ z. at_node (view_in loop m it k) z at f) (eqb-true y loop.outer e)
    ∙ ap (λ v. then_with (node_held (view_in loop m it k) at (node_in loop.graph v)) (λ n. Ok (f n))) holds
    ∙ ap (λ c. then_with (node_held (view_in loop m it k) at (cond c (Some x) None)) (λ n. Ok (f n))) (lt-ltb x (node_count loop.graph) less)

-- it does not depend on the key of its operators' faults
module _ (loop : Loop) (m : Mode) (it : Iteration) (k j : Key) (its : List ℕ) (known : (y : ℕ) → is_in its y ≡ true → Holds loop it y) where
  abbrev u : View
  u = view_in loop m it k

  abbrev other : View
  other = view_in loop m it j

  pub certain-keys : (e : Expr) → is_certain its e ≡ true → evaluated e u ≡ evaluated e other
  certain-keys (Const v) h = refl
  certain-keys (Var y at) h = refl
  certain-keys (Property y p at) h = ap plain (held loop m it k its known y at (it.store.node p) h ∙ sym (held loop m it j its known y at (it.store.node p) h))
  certain-keys (EdgeProperty y p at) h = refl
  certain-keys (Degree d y at) h = ap plain (held loop m it k its known y at (degree_of u d) h ∙ degrees d ∙ sym (held loop m it j its known y at (degree_of other d) h))
    where
      degrees : (d : Direction) → ◌≡◌ {A = Answer} (Ok (degree_of u d (known y h).0)) (Ok (degree_of other d (known y h).0))
      degrees Out = refl
      degrees In = refl
  certain-keys NodeCount h = refl
  certain-keys EdgeCount h = refl
  certain-keys (Live y at) h = ap plain (held loop m it k its known y at (λ n. At (Some n)) h ∙ sym (held loop m it j its known y at (λ n. At (Some n)) h))
  certain-keys (Unary Neg at e) h = absurd (both_ways false refl h)
  certain-keys (Unary Not at e) h = ap (λ a. one_of a (λ v. located other at (result1 Not v))) (certain-keys e h)
  certain-keys (Unary ToI32 at e) h = absurd (both_ways false refl h)
  certain-keys (Unary ToI64 at e) h = ap (λ a. one_of a (λ v. located other at (result1 ToI64 v))) (certain-keys e h)
  certain-keys (Binary Add at a b) h = absurd (both_ways false refl h)
  certain-keys (Binary Sub at a b) h = absurd (both_ways false refl h)
  certain-keys (Binary Mul at a b) h = absurd (both_ways false refl h)
  certain-keys (Binary Div at a b) h = absurd (both_ways false refl h)
  certain-keys (Binary Rem at a b) h = absurd (both_ways false refl h)
  certain-keys (Binary Eq at a b) h = let r = both-true (is_certain its a) (is_certain its b) h in ap (λ z. two_of z (evaluated b u) (λ p q. located other at (result2 Eq p q))) (certain-keys a r.0) ∙ ap (λ z. two_of (evaluated a other) z (λ p q. located other at (result2 Eq p q))) (certain-keys b r.1)
  certain-keys (Binary Ne at a b) h = let r = both-true (is_certain its a) (is_certain its b) h in ap (λ z. two_of z (evaluated b u) (λ p q. located other at (result2 Ne p q))) (certain-keys a r.0) ∙ ap (λ z. two_of (evaluated a other) z (λ p q. located other at (result2 Ne p q))) (certain-keys b r.1)
  certain-keys (Binary Lt at a b) h = let r = both-true (is_certain its a) (is_certain its b) h in ap (λ z. two_of z (evaluated b u) (λ p q. located other at (result2 Lt p q))) (certain-keys a r.0) ∙ ap (λ z. two_of (evaluated a other) z (λ p q. located other at (result2 Lt p q))) (certain-keys b r.1)
  certain-keys (Binary Le at a b) h = let r = both-true (is_certain its a) (is_certain its b) h in ap (λ z. two_of z (evaluated b u) (λ p q. located other at (result2 Le p q))) (certain-keys a r.0) ∙ ap (λ z. two_of (evaluated a other) z (λ p q. located other at (result2 Le p q))) (certain-keys b r.1)
  certain-keys (Binary Gt at a b) h = let r = both-true (is_certain its a) (is_certain its b) h in ap (λ z. two_of z (evaluated b u) (λ p q. located other at (result2 Gt p q))) (certain-keys a r.0) ∙ ap (λ z. two_of (evaluated a other) z (λ p q. located other at (result2 Gt p q))) (certain-keys b r.1)
  certain-keys (Binary Ge at a b) h = let r = both-true (is_certain its a) (is_certain its b) h in ap (λ z. two_of z (evaluated b u) (λ p q. located other at (result2 Ge p q))) (certain-keys a r.0) ∙ ap (λ z. two_of (evaluated a other) z (λ p q. located other at (result2 Ge p q))) (certain-keys b r.1)
  certain-keys (Both a b) h = let r = both-true (is_certain its a) (is_certain its b) h in ap (λ z. both z (evaluated b u)) (certain-keys a r.0) ∙ ap (both (evaluated a other)) (certain-keys b r.1)
  certain-keys (Either a b) h = let r = both-true (is_certain its a) (is_certain its b) h in ap (λ z. either z (evaluated b u)) (certain-keys a r.0) ∙ ap (either (evaluated a other)) (certain-keys b r.1)
  certain-keys (Choose c a b) h =
      let r = both-true (is_certain its c) (is_certain its a && is_certain its b) h in
      let s = both-true (is_certain its a) (is_certain its b) r.1 in
      ap (λ z. choice z (evaluated a u) (evaluated b u)) (certain-keys c r.0) ∙ ap (λ z. choice (evaluated c other) z (evaluated b u)) (certain-keys a s.0) ∙ ap (choice (evaluated c other) (evaluated a other)) (certain-keys b s.1)
  certain-keys (Folded f head test e) h = absurd (both_ways false refl h)

-- what spares some variables reads others
pub not-in : (xs : List ℕ) (x : ℕ) → not (is_in xs x) ≡ true → IsIn x xs → ⊥
not-in xs x h i = both_ways (is_in xs x) (not-true (is_in xs x) h) (finds xs x i)

spared : (xs : List ℕ) (n x : ℕ) (e : Expr) → spares xs e ≡ true → ReadsGood (Untouched xs) n x e
spared xs n x (Const v) h = tt
spared xs n x (Var y at) h = not-in xs y h
spared xs n x (Property y p at) h = let r = both-true (not (is_in xs y)) (not (is_in xs p)) h in (not-in xs y r.0, λ k e. not-in xs p r.1)
spared xs n x (EdgeProperty y p at) h = tt
spared xs n x (Degree d y at) h = not-in xs y h
spared xs n x NodeCount h = tt
spared xs n x EdgeCount h = tt
spared xs n x (Live y at) h = not-in xs y h
spared xs n x (Unary op at e) h = spared xs n x e h
spared xs n x (Binary op at a b) h = let r = both-true (spares xs a) (spares xs b) h in (spared xs n x a r.0, spared xs n x b r.1)
spared xs n x (Both a b) h = let r = both-true (spares xs a) (spares xs b) h in (spared xs n x a r.0, spared xs n x b r.1)
spared xs n x (Either a b) h = let r = both-true (spares xs a) (spares xs b) h in (spared xs n x a r.0, spared xs n x b r.1)
spared xs n x (Choose c a b) h =
    let r = both-true (spares xs c) (spares xs a && spares xs b) h in
    let s = both-true (spares xs a) (spares xs b) r.1 in
    (spared xs n x c r.0, spared xs n x a s.0, spared xs n x b s.1)
spared xs n x (Folded f head test e) h = absurd (both_ways false refl h)

-- the value of an answer
abbrev pub value_of : Answer → Value
value_of (Ok v) = v
value_of (Err f) = Flag false

-- filters of a loop at its nodes
module _ (loop : Loop) (key : Key) where
  abbrev n : ℕ
  n = loop.outer

  abbrev ks : List ℕ
  ks = nodes loop.graph

  abbrev pub start : Store → ℕ → Store
  start s x = write s (Scalar n) (At (Some x))

  abbrev pub seen : Store → ℕ → View
  seen s x = view_in loop Outermost (begun (start s x)) key

  pub start-held : (s : Store) (x : ℕ) → (start s x).scalar n ≡ At (Some x)
  start-held s x = ap (λ b. cond b (At (Some x)) (s.scalar n)) (eq-eqb n n refl)

  -- an iteration under a filter that has a value
  pub turn-by : (e : Expr) (body : Stmt) (s : Store) (x : ℕ) (v : Value) → value e (seen s x) ≡ Ok v → iteration loop key e body s x ≡ one_way (is_true v) (does body Outermost loop) as_it_is (begun (start s x))
  turn-by e body s x v h = ap (λ r. with_ok (begun (start s x)) r (λ v. one_way (is_true v) (does body Outermost loop) as_it_is (begun (start s x)))) h

  pub filters-same : (e f : Expr) (body : Stmt) (s : Store) → ((x : ℕ) → IsIn x ks → value e (seen s x) ≡ value f (seen s x)) → looped loop key e body s ≡ looped loop key f body s
  filters-same e f body s h =
      ap (loop_done s ks)
      (map-each (iteration loop key e body s) (iteration loop key f body s) ks
      (λ x i. ap (λ r. with_ok (begun (start s x)) r (λ v. one_way (is_true v) (does body Outermost loop) as_it_is (begun (start s x)))) (h x i)))

  -- a saved value
  pub saved-value : (m : ℕ) (at : Place) (s : Store) (x : ℕ) → IsIn x ks → value (Property n m at) (seen s x) ≡ Ok (s.node m x)
  saved-value m at s x i = outer-held loop Outermost (begun (start s x)) key x (nodes-below loop.graph x i) (start-held s x) n at (s.node m) (eq-eqb n n refl)

  -- what cannot fault is a value
  pub certain-value : (e : Expr) (s : Store) (x : ℕ) → is_certain (n ∷ []) e ≡ true → IsIn x ks → value e (seen s x) ≡ Ok (value_of (value e (seen s x)))
  certain-value e s x h i =
      let r = certain loop Outermost (begun (start s x)) key x (nodes-below loop.graph x i) (start-held s x) e h in
      ap settled r.1 ∙ sym (ap (λ a. Ok (value_of (settled a))) r.1)

  -- a value that nothing touches
  pub value-stays : (xs : List ℕ) (e : Expr) (s t : Store) (x : ℕ) → spares xs e ≡ true → ((slot : Slot) → Untouched xs slot → read t slot ≡ read s slot) → t.edge ≡ s.edge → value e (seen t x) ≡ value e (seen s x)
  value-stays xs e s t x h same edges =
      ap settled (evaluated-good (Untouched xs) n x (seen s x) (start t x) (record { at = λ slot free. started slot free; edge = edges }) (start-held s x) e (spared xs n x e h))
    where
      started : (slot : Slot) → Untouched xs slot → read (start t x) slot ≡ read (start s x) slot
      started (Scalar y) free = ap (λ v. cond (nat_eq n y) (At (Some x)) v) (same (Scalar y) free)
      started (Node p k) free = same (Node p k) free

-- the form of a body that is cut
pub cut-form : (ds : List Declaration) (n m : ℕ) (key : Key) (at : Place) (pushed : List ℕ) (a b : Stmt) → can_cut ds n m key at pushed a b ≡ true → (is_outer_body ds false n a ≡ true) × (is_nil (deferred a) ≡ true)
cut-form ds n m key at pushed a b h =
    let p = both-true (is_outer_body ds false n (Then a b)) _ h in
    let q = both-true (is_nil (deferred (Then a b))) _ p.1 in
    ((both-true (is_outer_body ds false n a) (is_outer_body ds false n b) p.0).0, (nil-parts (deferred a) (deferred b) q.0).0)

-- what stays after a part of a body
module _ (ds : List Declaration) (loop : Loop) (key : Key) (test : Expr) (a : Stmt) (flat-body : is_outer_body ds false loop.outer a ≡ true) (none : is_nil (deferred a) ≡ true) (u v : Store) (e : looped loop key test a u ≡ Ok v) where
  pub stays : (mask : Expr) (x : ℕ) → is_stable loop.outer a mask ≡ true → value mask (seen loop key v x) ≡ value mask (seen loop key u x)
  stays mask x stable =
      let p = both-true (is_certain (loop.outer ∷ []) mask) (not (is_in (touched a) loop.outer) && spares (touched a) mask) stable in
      let q = both-true (not (is_in (touched a) loop.outer)) (spares (touched a) mask) p.1 in
      value-stays loop key (touched a) mask u v x q.1 (loop-keeps ds loop key test a flat-body none (not-in (touched a) loop.outer q.0) u v e) (loop-edges ds loop key test a flat-body none (not-in (touched a) loop.outer q.0) u v e)

  pub slot-stays : (m x : ℕ) → not (is_in (touched a) loop.outer) ≡ true → (IsIn m (touched a) → ⊥) → v.node m x ≡ u.node m x
  slot-stays m x out free = loop-keeps ds loop key test a flat-body none (not-in (touched a) loop.outer out) u v e (Node m x) free

module _ (j : ℕ) (ds : List Declaration) (pushed : List ℕ) (loop : Loop) (m : ℕ) (key : Key) (at : Place) (mask : Expr) (a b : Stmt) (knows : Knows ds pushed loop) (fresh : j ≤ m) (reads : ReadsBelow j mask) (names : NamesBelow j a)
    (test : can_cut ds loop.outer m key at pushed a b ≡ true) (stable : is_stable loop.outer a mask ≡ true) (t : Store) where
  sure : is_certain (loop.outer ∷ []) mask ≡ true
  sure = (both-true (is_certain (loop.outer ∷ []) mask) (not (is_in (touched a) loop.outer) && spares (touched a) mask) stable).0

  off : not (is_in (touched a) loop.outer) ≡ true
  off = (both-true (not (is_in (touched a) loop.outer)) (spares (touched a) mask) (both-true (is_certain (loop.outer ∷ []) mask) (not (is_in (touched a) loop.outer) && spares (touched a) mask) stable).1).0

  -- the store in which the mask is saved
  abbrev pub saved : Store
  saved = record t { node = λ p k. cond (nat_eq m p) (value_of (value mask (seen loop key t k))) (t.node p k) }

  pub saved-agrees : Agree j t saved
  saved-agrees = record { scalar = λ x l. refl; node = λ p k l. ap (λ b. cond b (value_of (value mask (seen loop key t k))) (t.node p k)) (ne_eqb m p (λ e. omega arith)); edge = λ p e l. refl }

  pub shown : (x : ℕ) → IsIn x (nodes loop.graph) → value (Property loop.outer m at) (seen loop key saved x) ≡ value mask (seen loop key saved x)
  shown x i =
      saved-value loop key m at saved x i
      ∙ ap (λ c. Ok (cond c (value_of (value mask (seen loop key t x))) (t.node m x))) (eq-eqb m m refl)
      ∙ sym (certain-value loop key mask t x sure i)
      ∙ sym (ap settled (evaluated-frame j mask (seen loop key t x) (start loop key saved x) reads (agree-write j t saved (Scalar loop.outer) (At (Some x)) saved-agrees)))

  behind : (r : Result Store Fault) → looped loop key mask a saved ≡ r → then_with r (looped loop key (Property loop.outer m at) b) ≡ then_with r (looped loop key mask b)
  behind (Err f) e = refl
  behind (Ok v) e =
      let form = cut-form ds loop.outer m key at pushed a b test in
      filters-same loop key (Property loop.outer m at) mask b v (λ x i.
      saved-value loop key m at v x i
      ∙ ap Ok (slot-stays ds loop key mask a form.0 form.1 saved v e m x off (λ k. let l = touched-below j a names m k in omega arith))
      ∙ sym (saved-value loop key m at saved x i)
      ∙ shown x i
      ∙ sym (stays ds loop key mask a form.0 form.1 saved v e mask x stable))

  mask-cut : looped loop key mask (Then a b) saved ≡ in_turn (looped loop key mask a) (looped loop key mask b) saved
  mask-cut =
      sym (filters-same loop key (Property loop.outer m at) mask (Then a b) saved shown)
      ∙ fission-holds ds pushed loop m key at a b saved knows test
      ∙ ap (λ r. then_with r (looped loop key (Property loop.outer m at) b)) (filters-same loop key (Property loop.outer m at) mask a saved shown)
      ∙ behind (looped loop key mask a saved) refl

-- the law of masks that stay
pub masks-stay : MasksStay
masks-stay = λ j ds pushed loop m key at mask a b knows fresh reads names-a names-b test stable.
    same-by j (looped loop key mask (Then a b)) (in_turn (looped loop key mask a) (looped loop key mask b))
    (loop-same j loop key mask (Then a b) reads (names-a, names-b))
    (same-turns j (looped loop key mask a) (looped loop key mask a) (looped loop key mask b) (looped loop key mask b) (loop-same j loop key mask a reads names-a) (loop-same j loop key mask b reads names-b))
    (λ t. (saved j ds pushed loop m key at mask a b knows fresh reads names-a test stable t, saved-agrees j ds pushed loop m key at mask a b knows fresh reads names-a test stable t, mask-cut j ds pushed loop m key at mask a b knows fresh reads names-a test stable t))
