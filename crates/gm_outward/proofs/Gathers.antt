-- An inner loop whose conditions are gathered runs as the inner loop.
use Rattle.std.proofs.Common.{◌≡◌, ◌<◌, ℕ, Bool, true, false, cond, List, [], ◌∷◌, map, refl, sym, ap, subst, ◌∙◌, Option, Some, None, Result, Ok, Err}
use Rattle.std.proofs.Math.Path.{fun_ext}
use Rattle.std.specs.Prelude.{◌&&◌, ◌||◌, not, nat_eq}
use Rattle.std.proofs.lemmas.Bool.{both_ways, eqb-true, eq-eqb}
use Rattle.gm_base.specs.declared.places.Place.{Place}
use Rattle.gm_value.specs.Bag.{IsIn}
use Rattle.gm_value.specs.Operations.{is_true}
use Rattle.gm_value.specs.declared.values.Value.{Value}
use Rattle.gm_value.specs.declared.values.Value.TheVariants.{At}
use Rattle.gm_model.specs.Graphs.{IsGraph, Step, node_count}
use Rattle.gm_ast.specs.declared.tree.Declaration.{Declaration}
use Rattle.gm_ast.specs.declared.tree.Head.{Head}
use Rattle.gm_ast.specs.declared.tree.Key.{Key}
use Rattle.gm_ast.specs.Ways.{is_in}
use Rattle.gm_ast.specs.Program.{Expr, always, Both, Stmt, Skip, Then, Declare, DeclareEdge, Assign, Defer, Combine, Group, Foreach, For, If, While, Do, InBfs, InBfsBoth, Return}
use Rattle.gm_semantics.specs.declared.faults.Fault.{Fault}
use Rattle.gm_semantics.specs.declared.slots.Slot.TheVariants.{Scalar}
use Rattle.gm_semantics.specs.Stores.{Store, write}
use Rattle.gm_semantics.specs.Levels.{nodes, node_in, no_levels}
use Rattle.gm_semantics.specs.Expressions.{View, evaluated, settled, plain, value, steps_in}
use Rattle.gm_semantics.specs.Iterations.{Loop, Mode, Outermost, AtEdge, Iteration, begun, go_on, unless_failed, with_ok, one_way, as_it_is, view_in, turn_at, inner_done, does}
use Rattle.gm_semantics.specs.Loops.{pushes, iteration, loop_done, parallel}
use Rattle.gm_semantics.specs.Statements.{Run, State, with_value, with_store, loop_of, sequential}
use Rattle.gm_forms.specs.Forms.{is_flat, is_inner_body}
use Rattle.gm_forms.specs.Order.{cannot_fail}
use Rattle.gm_forms.proofs.CutTests.{flat}
use Rattle.gm_forms.proofs.Named.{both-true}
use Rattle.gm_forms.proofs.Steps.{step-within}
use Rattle.gm_loop_laws.proofs.Alone.{nodes-below, hoists-nothing}
use Rattle.gm_loop_laws.proofs.Joins.{map-each}
use Rattle.gm_loop_laws.proofs.Masks.{Holds, certain-by, certain-keys, start, start-held, seen}
use Rattle.gm_flip.proofs.Basics.{none}
use Rattle.gm_outward.specs.Gathered.{together, is_idle, is_one_reduction, conditions, reduction}
use Rattle.gm_outward.proofs.Lone.{by-lone, conditions-flat}
use Rattle.gm_outward.proofs.Masks.{certain-of}
use Rattle.gm_outward.proofs.Turns.{follows, follows-by}
use Rattle.gm_outward.proofs.Values.{Passing, passed, also, P, together-is}

-- what does nothing leaves an iteration as it is
skips : (it : Iteration) (f : Iteration → Iteration) → ((i : Iteration) → f i ≡ i) → go_on it f ≡ it
skips it f h = by it.fault
  where
    by : (o : Option Fault) → unless_failed o it f ≡ it
    by None = h it
    by (Some g) = refl

idle-does : (s : Stmt) (m : Mode) (loop : Loop) → is_idle s ≡ true → (it : Iteration) → does s m loop it ≡ it
idle-does Skip m loop h it = refl
idle-does (Then a b) m loop h it = let q = both-true (is_idle a) (is_idle b) h in ap (λ i. go_on i (does b m loop)) (idle-does a m loop q.0 it) ∙ skips it (does b m loop) (idle-does b m loop q.1)
idle-does (DeclareEdge x y at) m loop h it = refl
idle-does (Declare k x e) m loop h it = none h
idle-does (Assign k t e) m loop h it = none h
idle-does (Defer k t e) m loop h it = none h
idle-does (Combine k total r ts es) m loop h it = none h
idle-does (Group k at g p e) m loop h it = none h
idle-does (Foreach k at hd c s) m loop h it = none h
idle-does (For k at hd c s) m loop h it = none h
idle-does (If k c a b) m loop h it = none h
idle-does (While k at c s) m loop h it = none h
idle-does (Do k at s c) m loop h it = none h
idle-does (InBfs k at hd c s) m loop h it = none h
idle-does (InBfsBoth k at hd c s bk d u) m loop h it = none h
idle-does (Return k at e) m loop h it = none h

-- a body that is one reduction does it where its conditions pass
module _ (ds : List Declaration) (edge : Bool) (loop : Loop) (m : Mode) (it : Iteration) (j : Key) (its : List ℕ) (known : (y : ℕ) → is_in its y ≡ true → Holds loop it y) (fine : it.fault ≡ None) where
  abbrev w : View
  w = view_in loop m it j

  abbrev Inner : Stmt → Type 0
  Inner s = is_inner_body ds its edge s ≡ true

  abbrev Does : Stmt → Type 0
  Does s = is_one_reduction s ≡ true → Inner s → does s m loop it ≡ follows it (P w (conditions s)) (does (reduction s) m loop)

  goes-on : (f : Iteration → Iteration) → go_on it f ≡ f it
  goes-on f = ap (λ o. unless_failed o it f) fine

  one-of : (b : Bool) (p : Passing) (f g h : Iteration → Iteration) → f it ≡ follows it p h → g it ≡ it → one_way b f g it ≡ follows it (also (Ok b) p) h
  one-of true p f g h e i = e
  one-of false p f g h e i = i

  pub does-lone : (s : Stmt) → Does s
  does-lone (Then a b) l i = by (is_idle a) refl l (does-lone a) (does-lone b)
    where
      halves : Inner a × Inner b
      halves = both-true (is_inner_body ds its edge a) (is_inner_body ds its edge b) i

      by : (c : Bool) → is_idle a ≡ c → cond c (is_one_reduction b) (is_one_reduction a && is_idle b) ≡ true → Does a → Does b →
          does (Then a b) m loop it ≡ follows it (P w (cond (is_idle a) (conditions b) (conditions a))) (does (cond (is_idle a) (reduction b) (reduction a)) m loop)
      by true e h f g =
          ap (λ i. go_on i (does b m loop)) (idle-does a m loop e it) ∙ goes-on (does b m loop) ∙ g h halves.1
          ∙ sym (ap (λ c. follows it (P w (cond c (conditions b) (conditions a))) (does (cond c (reduction b) (reduction a)) m loop)) e)
      by false e h f g =
          let q = both-true (is_one_reduction a) (is_idle b) h in
          skips (does a m loop it) (does b m loop) (idle-does b m loop q.1) ∙ f q.0 halves.0
          ∙ sym (ap (λ c. follows it (P w (cond c (conditions b) (conditions a))) (does (cond c (reduction b) (reduction a)) m loop)) e)
  does-lone (If k c a b) l i =
      let p = both-true (cannot_fail c) (is_one_reduction a && is_idle b) l in
      let q = both-true (is_one_reduction a) (is_idle b) p.1 in
      let u = both-true (is_flat its edge c) (is_inner_body ds its edge a && is_inner_body ds its edge b) i in
      let v = both-true (is_inner_body ds its edge a) (is_inner_body ds its edge b) u.1 in
      let sure = certain-of its edge c p.0 u.0 in
      let r = certain-by loop m it j its known c sure in
      let way = one-of (is_true r.0) (P w (conditions a)) (does a m loop) (does b m loop) (does (reduction a) m loop) (does-lone a q.0 v.0) (idle-does b m loop q.1 it) in
      ap (λ z. with_ok it (settled z) (λ v. one_way (is_true v) (does a m loop) (does b m loop) it)) (certain-keys loop m it k j its known c sure ∙ r.1)
      ∙ way
      ∙ sym (ap (λ z. follows it (also z (P w (conditions a))) (does (reduction a) m loop)) (ap (λ v. passed (settled v)) r.1))
      ∙ sym (ap (λ z. follows it z (does (reduction a) m loop)) (together-is w c (conditions a) (hoists-nothing loop m it j (conditions a) (flat its edge (conditions a) (conditions-flat ds its edge a q.0 v.0)))))
  does-lone (Combine k total r ts es) l i = refl
  does-lone Skip l i = none l
  does-lone (Declare k x e) l i = none l
  does-lone (DeclareEdge x y at) l i = none l
  does-lone (Assign k t e) l i = none l
  does-lone (Defer k t e) l i = none l
  does-lone (Group k at g p e) l i = none l
  does-lone (Foreach k at hd c s) l i = none l
  does-lone (For k at hd c s) l i = none l
  does-lone (While k at c s) l i = none l
  does-lone (Do k at s c) l i = none l
  does-lone (InBfs k at hd c s) l i = none l
  does-lone (InBfsBoth k at hd c s bk d u) l i = none l
  does-lone (Return k at e) l i = none l

-- what it reduces elsewhere
or-none : (c : Bool) → c || false ≡ c
or-none true = refl
or-none false = refl

idle-pushes : (x p : ℕ) (s : Stmt) → is_idle s ≡ true → pushes s x p ≡ false
idle-pushes x p Skip h = refl
idle-pushes x p (Then a b) h = let q = both-true (is_idle a) (is_idle b) h in ap (λ c. c || pushes b x p) (idle-pushes x p a q.0) ∙ idle-pushes x p b q.1
idle-pushes x p (DeclareEdge y z at) h = refl
idle-pushes x p (Declare k y e) h = none h
idle-pushes x p (Assign k t e) h = none h
idle-pushes x p (Defer k t e) h = none h
idle-pushes x p (Combine k total r ts es) h = none h
idle-pushes x p (Group k at g q e) h = none h
idle-pushes x p (Foreach k at hd c s) h = none h
idle-pushes x p (For k at hd c s) h = none h
idle-pushes x p (If k c a b) h = none h
idle-pushes x p (While k at c s) h = none h
idle-pushes x p (Do k at s c) h = none h
idle-pushes x p (InBfs k at hd c s) h = none h
idle-pushes x p (InBfsBoth k at hd c s bk d u) h = none h
idle-pushes x p (Return k at e) h = none h

pushes-same : (x p : ℕ) (s : Stmt) → is_one_reduction s ≡ true → pushes (reduction s) x p ≡ pushes s x p
pushes-same x p s h = by-lone (λ s. pushes (reduction s) x p ≡ pushes s x p)
    (λ a b e f. ap (λ c. pushes (cond c (reduction b) (reduction a)) x p) e ∙ f ∙ sym (ap (λ c. c || pushes b x p) (idle-pushes x p a e)))
    (λ a b e i f. ap (λ c. pushes (cond c (reduction b) (reduction a)) x p) e ∙ f ∙ sym (ap (λ c. pushes a x p || c) (idle-pushes x p b i) ∙ or-none (pushes a x p)))
    (λ k c a b q i f. f ∙ sym (ap (λ c. pushes a x p || c) (idle-pushes x p b i) ∙ or-none (pushes a x p)))
    (λ k total r ts es. refl) s h

-- at the edges of a node
module _ (ds : List Declaration) (loop : Loop) (k j : Key) (here : Place) (i : Head) (test : Expr) (body : Stmt) (is : IsGraph loop.graph) (apart : nat_eq i.iterator loop.outer ≡ false)
    (inner : is_inner_body ds (loop.outer ∷ i.iterator ∷ []) true body ≡ true) (lone : is_one_reduction body ≡ true) (s : Store) (x : ℕ) (among : IsIn x (nodes loop.graph)) where
  abbrev n : ℕ
  n = loop.outer

  abbrev t : ℕ
  t = i.iterator

  abbrev it0 : Iteration
  it0 = begun (start loop k s x)

  abbrev at_edge : Step → Iteration
  at_edge e = begun (write it0.store (Scalar t) (At (Some e.node)))

  abbrev seen_at : Step → View
  seen_at e = view_in loop (AtEdge e.edge) (at_edge e) j

  less : x < node_count loop.graph
  less = nodes-below loop.graph x among

  holds : (e : Step) → (at_edge e).store.scalar n ≡ At (Some x)
  holds e = ap (λ b. cond b (At (Some e.node)) (it0.store.scalar n)) apart ∙ start-held loop k s x

  inner-holds : (e : Step) → (at_edge e).store.scalar t ≡ At (Some e.node)
  inner-holds e = ap (λ b. cond b (At (Some e.node)) (it0.store.scalar t)) (eq-eqb t t refl)

  knows : (e : Step) → e.node < node_count loop.graph → (y : ℕ) → is_in (n ∷ t ∷ []) y ≡ true → Holds loop (at_edge e) y
  knows e l y h = by (nat_eq y n) (nat_eq y t) refl refl h
    where
      by : (b c : Bool) → nat_eq y n ≡ b → nat_eq y t ≡ c → b || (c || false) ≡ true → Holds loop (at_edge e) y
      by true c p q r = (x, less, ap (at_edge e).store.scalar (eqb-true y n p) ∙ holds e)
      by false true p q r = (e.node, l, ap (at_edge e).store.scalar (eqb-true y t q) ∙ inner-holds e)
      by false false p q r = absurd (both_ways false refl r)

  abbrev turn : Expr → Stmt → Step → Iteration
  turn f b e = turn_at loop (AtEdge e.edge) j f (does b (AtEdge e.edge) loop) t e.node it0.store

  abbrev both : Expr
  both = together test (conditions body)

  under : (e : Step) (p : Passing) → follows (at_edge e) (also p (P (seen_at e) (conditions body))) (does (reduction body) (AtEdge e.edge) loop) ≡ follows (at_edge e) p (λ it. follows it (P (seen_at e) (conditions body)) (does (reduction body) (AtEdge e.edge) loop))
  under e (Ok true) = refl
  under e (Ok false) = refl
  under e (Err f) = refl

  at-true : (e : Step) (p : Passing) (f g : Iteration → Iteration) → f (at_edge e) ≡ g (at_edge e) → follows (at_edge e) p f ≡ follows (at_edge e) p g
  at-true e (Ok true) f g h = h
  at-true e (Ok false) f g h = refl
  at-true e (Err d) f g h = refl

  turn-same : (e : Step) → e.node < node_count loop.graph → turn both (reduction body) e ≡ turn test body e
  turn-same e l =
      follows-by (at_edge e) (value both (seen_at e)) (does (reduction body) (AtEdge e.edge) loop)
      ∙ ap (λ z. follows (at_edge e) z (does (reduction body) (AtEdge e.edge) loop))
      (together-is (seen_at e) test (conditions body) (hoists-nothing loop (AtEdge e.edge) (at_edge e) j (conditions body) (flat (n ∷ t ∷ []) true (conditions body) (conditions-flat ds (n ∷ t ∷ []) true body lone inner))))
      ∙ under e (P (seen_at e) test)
      ∙ at-true e (P (seen_at e) test) (λ it. follows it (P (seen_at e) (conditions body)) (does (reduction body) (AtEdge e.edge) loop)) (does body (AtEdge e.edge) loop) (sym (does-lone ds true loop (AtEdge e.edge) (at_edge e) j (n ∷ t ∷ []) (knows e l) refl body lone inner))
      ∙ sym (follows-by (at_edge e) (value test (seen_at e)) (does body (AtEdge e.edge) loop))

  pub inner-same : does (Foreach j here i both (reduction body)) Outermost loop it0 ≡ does (Foreach j here i test body) Outermost loop it0
  inner-same =
      let steps = steps_in (view_in loop Outermost it0 j) i in
      ap (inner_done it0) (map-each (turn both (reduction body)) (turn test body) steps (λ e q. turn-same e (step-within (view_in loop Outermost it0 j) is i.domain (node_in loop.graph (it0.store.scalar i.owner)) e q)))

-- the loop runs as it did
module _ (run : Run) (k j : Key) (at here : Place) (h i : Head) (test : Expr) (body : Stmt) (is : IsGraph run.graph) (apart : nat_eq i.iterator h.iterator ≡ false)
    (inner : is_inner_body run.declarations (h.iterator ∷ i.iterator ∷ []) true body ≡ true) (lone : is_one_reduction body ≡ true) where
  abbrev old : Stmt
  old = Foreach j here i test body

  abbrev new : Stmt
  new = Foreach j here i (together test (conditions body)) (reduction body)

  abbrev with_pushed : (ℕ → Bool) → Loop
  with_pushed f = record (loop_of run no_levels h.iterator old) { pushed = f }

  abbrev loop : Loop
  loop = loop_of run no_levels h.iterator old

  pushed-same : pushes new h.iterator ≡ pushes old h.iterator
  pushed-same = fun_ext (λ p. pushes-same h.iterator p body lone)

  pub gathered-same : (mask : Expr) (u : State) → sequential (Foreach k at h mask new) run u ≡ sequential (Foreach k at h mask old) run u
  gathered-same mask u =
      ap (λ f. with_value (parallel (with_pushed f) k mask new (nodes run.graph) u.store) (with_store u)) pushed-same
      ∙ ap (λ l. with_value (loop_done u.store (nodes run.graph) l) (with_store u))
      (map-each (iteration loop k mask new u.store) (iteration loop k mask old u.store) (nodes run.graph)
      (λ x among. follows-by (begun (start loop k u.store x)) (value mask (seen loop k u.store x)) (does new Outermost loop)
      ∙ by x (passed (value mask (seen loop k u.store x))) (inner-same run.declarations loop k j here i test body is apart inner lone u.store x among)
      ∙ sym (follows-by (begun (start loop k u.store x)) (value mask (seen loop k u.store x)) (does old Outermost loop))))
    where
      by : (x : ℕ) (p : Passing) → does new Outermost loop (begun (start loop k u.store x)) ≡ does old Outermost loop (begun (start loop k u.store x)) →
          follows (begun (start loop k u.store x)) p (does new Outermost loop) ≡ follows (begun (start loop k u.store x)) p (does old Outermost loop)
      by x (Ok true) e = e
      by x (Ok false) e = refl
      by x (Err f) e = refl
