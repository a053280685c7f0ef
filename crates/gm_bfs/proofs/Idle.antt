-- A part that does nothing and cannot fault may be left out.
use Rattle.std.proofs.Common.{◌≡◌, ◌<◌, ℕ, Bool, true, false, cond, List, [], ◌∷◌, map, refl, sym, ap, subst, ◌∙◌, Option, Some, None, Ok}
use Rattle.std.specs.Prelude.{◌&&◌, not, filter, nat_eq, int_lt, int_le}
use Rattle.std.specs.Ordering.{int_eq}
use Rattle.std.proofs.lemmas.Bool.{lt-ltb, eqb-true, eq-eqb}
use Rattle.gm_base.specs.declared.places.Place.{Place}
use Rattle.gm_value.specs.declared.operations.Op1.TheVariants.{Neg, Not, ToI32, ToI64}
use Rattle.gm_value.specs.declared.operations.Op2.{Op2}
use Rattle.gm_value.specs.declared.operations.Op2.TheVariants.{Add, Sub, Mul, Div, Rem, Eq, Ne, Lt, Le, Gt, Ge}
use Rattle.gm_value.specs.declared.values.Value.{Value}
use Rattle.gm_value.specs.declared.values.Value.TheVariants.{I64, Flag, At}
use Rattle.gm_value.specs.Bag.{IsIn}
use Rattle.gm_value.specs.Numbers.{number_of}
use Rattle.gm_value.specs.Operations.{is_true, result1, result2}
use Rattle.gm_model.specs.Graphs.{node_count}
use Rattle.gm_ast.specs.declared.tree.Key.{Key}
use Rattle.gm_ast.specs.Program.{Expr, Const, Var, Property, EdgeProperty, Degree, NodeCount, EdgeCount, Live, Unary, Binary, Both, Either, Choose, Folded, Stmt, Skip, Then, Declare, DeclareEdge, Assign, Defer, Combine, Group, Foreach, For, If, While, Do, InBfs, InBfsBoth, Return}
use Rattle.gm_semantics.specs.declared.faults.Fault.{Fault}
use Rattle.gm_semantics.specs.declared.slots.Slot.TheVariants.{Scalar, Node}
use Rattle.gm_semantics.specs.Faults.{then_with}
use Rattle.gm_semantics.specs.Levels.{node_in}
use Rattle.gm_semantics.specs.Stores.{Store, write}
use Rattle.gm_semantics.specs.Contributions.{settled_store}
use Rattle.gm_semantics.specs.Expressions.{View, Answer, node_held, at_node, plain, settled, one_of, two_of, both, either, choice, degree_of, located, evaluated}
use Rattle.gm_semantics.specs.Iterations.{Loop, Iteration, begun, unless_failed, go_on, with_ok, one_way, as_it_is, Outermost, view_in, does}
use Rattle.gm_semantics.specs.Loops.{iteration, own_left, loop_done, parallel}
use Rattle.gm_semantics.specs.Frames.{Agree, AlikeStores}
use Rattle.gm_semantics.proofs.TargetLaws.{never, value-away}
use Rattle.gm_forms.proofs.Named.{both-true}
use Rattle.gm_bfs.specs.Searches.{is_idle, is_safe}
use Rattle.gm_bfs.proofs.Dropped.{Quiet, drop-loop}

-- a part that does nothing and cannot fault may be left out
idle-does : (b : Stmt) (loop : Loop) (it : Iteration) → is_idle b ≡ true → does b Outermost loop it ≡ it
idle-does Skip loop it h = refl
idle-does (Then a b) loop it h =
    let r = both-true (is_idle a) (is_idle b) h in
    ap (λ i. go_on i (does b Outermost loop)) (idle-does a loop it r.0) ∙ by it.fault (idle-does b loop it r.1)
  where
    by : (o : Option Fault) → does b Outermost loop it ≡ it → unless_failed o it (does b Outermost loop) ≡ it
    by None e = e
    by (Some f) e = refl
idle-does (Declare key y e) loop it h = never h refl
idle-does (DeclareEdge y z at) loop it h = never h refl
idle-does (Assign key t e) loop it h = never h refl
idle-does (Defer key t e) loop it h = never h refl
idle-does (Combine key total r ts es) loop it h = never h refl
idle-does (Group key at y p e) loop it h = never h refl
idle-does (Foreach key at head test body) loop it h = never h refl
idle-does (For key at head test body) loop it h = never h refl
idle-does (If key c a b) loop it h = never h refl
idle-does (While key at c body) loop it h = never h refl
idle-does (Do key at body c) loop it h = never h refl
idle-does (InBfs key at search c body) loop it h = never h refl
idle-does (InBfsBoth key at search c body back_key d back) loop it h = never h refl
idle-does (Return key at e) loop it h = never h refl

-- a value is there where nothing can fault
module _ (loop : Loop) (it : Iteration) (key : Key) (n : ℕ) (within : n < node_count loop.graph) (holds : it.store.scalar loop.outer ≡ At (Some n)) where
  abbrev w : View
  w = view_in loop Outermost it key

  abbrev Sure : Expr → Type 0
  Sure e = (v : Value) × (evaluated e w ≡ plain (Ok v))

  held : (y : ℕ) (at : Place) (f : ℕ → Value) → nat_eq y loop.outer ≡ true → at_node w y at f ≡ Ok (f n)
  held y at f e =
      ap (λ v. then_with (node_held w at (node_in loop.graph v)) (λ i. Ok (f i))) (ap it.store.scalar (eqb-true y loop.outer e) ∙ holds)
      ∙ ap (λ c. then_with (node_held w at (cond c (Some n) None)) (λ i. Ok (f i))) (lt-ltb n (node_count loop.graph) within)

  ok-way : (b : Bool) (u v : Value) → cond {A = Answer} b (Ok u) (Ok v) ≡ Ok (cond b u v)
  ok-way true u v = refl
  ok-way false u v = refl

  sure-two : (a b : Expr) (op : Op2) (at : Place) (g : Value → Value → Bool) → ((u v : Value) → result2 op u v ≡ Ok (Flag (g u v))) → Sure a → Sure b → Sure (Binary op at a b)
  sure-two a b op at g is p q =
      (Flag (g p.0 q.0), ap (λ z. two_of z (evaluated b w) (λ x y. located w at (result2 op x y))) p.1 ∙ ap (λ z. two_of (plain (Ok p.0)) z (λ x y. located w at (result2 op x y))) q.1 ∙ ap (λ r. plain (located w at r)) (is p.0 q.0))

  sure : (e : Expr) → is_safe loop.outer e ≡ true → Sure e
  sure (Const v) h = (v, refl)
  sure (Var y at) h = (it.store.scalar y, refl)
  sure (Property y p at) h = (it.store.node p n, ap plain (held y at (it.store.node p) h))
  sure (EdgeProperty y p at) h = (it.store.edge p w.edge, refl)
  sure (Degree d y at) h = (degree_of w d n, ap plain (held y at (degree_of w d) h))
  sure NodeCount h = (_, refl)
  sure EdgeCount h = (_, refl)
  sure (Live y at) h = never h refl
  sure (Unary Neg at e) h = never h refl
  sure (Unary Not at e) h = let r = sure e h in (Flag (not (is_true r.0)), ap (λ a. one_of a (λ v. located w at (result1 Not v))) r.1)
  sure (Unary ToI32 at e) h = never h refl
  sure (Unary ToI64 at e) h = let r = sure e h in (I64 (number_of r.0), ap (λ a. one_of a (λ v. located w at (result1 ToI64 v))) r.1)
  sure (Binary Add at a b) h = never h refl
  sure (Binary Sub at a b) h = never h refl
  sure (Binary Mul at a b) h = never h refl
  sure (Binary Div at a b) h = never h refl
  sure (Binary Rem at a b) h = never h refl
  sure (Binary Eq at a b) h = let r = both-true (is_safe loop.outer a) (is_safe loop.outer b) h in sure-two a b Eq at (λ u v. int_eq (number_of u) (number_of v)) (λ u v. refl) (sure a r.0) (sure b r.1)
  sure (Binary Ne at a b) h = let r = both-true (is_safe loop.outer a) (is_safe loop.outer b) h in sure-two a b Ne at (λ u v. not (int_eq (number_of u) (number_of v))) (λ u v. refl) (sure a r.0) (sure b r.1)
  sure (Binary Lt at a b) h = let r = both-true (is_safe loop.outer a) (is_safe loop.outer b) h in sure-two a b Lt at (λ u v. int_lt (number_of u) (number_of v)) (λ u v. refl) (sure a r.0) (sure b r.1)
  sure (Binary Le at a b) h = let r = both-true (is_safe loop.outer a) (is_safe loop.outer b) h in sure-two a b Le at (λ u v. int_le (number_of u) (number_of v)) (λ u v. refl) (sure a r.0) (sure b r.1)
  sure (Binary Gt at a b) h = let r = both-true (is_safe loop.outer a) (is_safe loop.outer b) h in sure-two a b Gt at (λ u v. int_lt (number_of v) (number_of u)) (λ u v. refl) (sure a r.0) (sure b r.1)
  sure (Binary Ge at a b) h = let r = both-true (is_safe loop.outer a) (is_safe loop.outer b) h in sure-two a b Ge at (λ u v. int_le (number_of v) (number_of u)) (λ u v. refl) (sure a r.0) (sure b r.1)
  sure (Both a b) h =
      let r = both-true (is_safe loop.outer a) (is_safe loop.outer b) h in
      let p = sure a r.0 in
      let q = sure b r.1 in
      (cond (is_true p.0) q.0 p.0, ap (λ a. both a (evaluated b w)) p.1 ∙ ap (both (plain (Ok p.0))) q.1 ∙ ap plain (ok-way (is_true p.0) q.0 p.0))
  sure (Either a b) h =
      let r = both-true (is_safe loop.outer a) (is_safe loop.outer b) h in
      let p = sure a r.0 in
      let q = sure b r.1 in
      (cond (is_true p.0) p.0 q.0, ap (λ a. either a (evaluated b w)) p.1 ∙ ap (either (plain (Ok p.0))) q.1 ∙ ap plain (ok-way (is_true p.0) p.0 q.0))
  sure (Choose c a b) h =
      let r = both-true (is_safe loop.outer c) (is_safe loop.outer a && is_safe loop.outer b) h in
      let s = both-true (is_safe loop.outer a) (is_safe loop.outer b) r.1 in
      let o = sure c r.0 in
      let p = sure a s.0 in
      let q = sure b s.1 in (
        cond (is_true o.0) p.0 q.0,
        ap (λ c. choice c (evaluated a w) (evaluated b w)) o.1 ∙ ap (λ a. choice (plain (Ok o.0)) a (evaluated b w)) p.1 ∙ ap (choice (plain (Ok o.0)) (plain (Ok p.0))) q.1
            ∙ ap plain (ok-way (is_true o.0) p.0 q.0),
      )
  sure (Folded f head test e) h = never h refl

filter-nothing : {A : Type 0} (xs : List A) → filter (λ x. false) xs ≡ []
filter-nothing [] = refl
filter-nothing (x ∷ xs) = filter-nothing xs

-- so its loop leaves all as it was
pub idle-loop : (k : ℕ) (loop : Loop) (key : Key) (test : Expr) (body : Stmt) (ks : List ℕ) (s t : Store) → is_idle body ≡ true → is_safe loop.outer test ≡ true → ((n : ℕ) → IsIn n ks → n < node_count loop.graph) → Agree k s t →
    AlikeStores k (parallel loop key test body ks s) (Ok t)
idle-loop k loop key test body ks s t idle safe inside agree =
    subst (λ r. AlikeStores k r (Ok t)) (sym is) (record {
      scalar = λ y b. agree.scalar y b ∙ sym (value-away (own_left s [] []) (Scalar y) [] (λ c i. absurd i));
      node = λ p m b. agree.node p m b ∙ sym (value-away (own_left s [] []) (Node p m) [] (λ c i. absurd i));
      edge = agree.edge;
    })
  where
    turn : (n : ℕ) → n < node_count loop.graph → iteration loop key test body s n ≡ begun (write s (Scalar loop.outer) (At (Some n)))
    turn n within =
        let start = begun (write s (Scalar loop.outer) (At (Some n))) in
        let v = sure loop start key n within (ap (λ c. cond c (At (Some n)) (s.scalar loop.outer)) (eq-eqb loop.outer loop.outer refl)) test safe in
        ap (λ a. with_ok start (settled a) (λ v. one_way (is_true v) (does body Outermost loop) as_it_is start)) v.1
        ∙ way (is_true v.0) start
      where
        way : (b : Bool) (it : Iteration) → one_way b (does body Outermost loop) as_it_is it ≡ it
        way true it = idle-does body loop it idle
        way false it = refl

    is : parallel loop key test body ks s ≡ Ok (settled_store (own_left s [] []) [])
    is =
        drop-loop (λ n. false) (iteration loop key test body s) (iteration loop key test body s) s ks (λ n i on. never on refl)
        (λ n i out. subst Quiet (sym (turn n (inside n i))) (record { inner = refl; outermost = refl; deferred = refl; fault = refl }))
        (λ n i out q m e. ap (λ (it : Iteration). it.store.node q m) (turn n (inside n i)))
        ∙ ap (λ (ns : List ℕ). loop_done s ns (map (iteration loop key test body s) ns)) (filter-nothing ks)
