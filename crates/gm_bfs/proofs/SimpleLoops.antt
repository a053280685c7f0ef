-- Loops over all nodes whose iterations do not fault.
use Rattle.std.proofs.Common.{◌≡◌, ◌<◌, ◌≤◌, ◌+◌, ℕ, zero, suc, Bool, true, false, cond, List, [], ◌∷◌, ◌++◌, map, length, refl, sym, ap, subst, ◌∙◌, arith, Some, None, Ok, ⊎_elim, inl, inr}
use Rattle.std.specs.Prelude.{◌≢◌, ◌&&◌, nat_eq}
use Rattle.std.proofs.lemmas.Bool.{lt-ltb, eqb-true, eq-eqb}
use Rattle.gm_base.specs.declared.places.Place.{Place}
use Rattle.gm_value.specs.declared.operations.Op2.TheVariants.{Eq}
use Rattle.gm_value.specs.declared.values.Value.{Value}
use Rattle.gm_value.specs.declared.values.Value.TheVariants.{Flag, At}
use Rattle.gm_value.specs.Bag.{IsIn}
use Rattle.gm_value.specs.Operations.{result2}
use Rattle.gm_model.specs.Graphs.{NumberedGraph, node_count}
use Rattle.gm_ast.specs.declared.tree.Key.{Key}
use Rattle.gm_ast.specs.declared.tree.Target.TheVariants as T
use Rattle.gm_ast.specs.Program.{Expr, always, Property, Stmt, sequence}
use Rattle.gm_semantics.specs.declared.slots.Slot.{Slot}
use Rattle.gm_semantics.specs.declared.slots.Slot.TheVariants.{Scalar, Node}
use Rattle.gm_semantics.specs.Faults.{then_with, least, unless_fault, somes, joined}
use Rattle.gm_semantics.specs.Levels.{nodes, node_in, no_levels}
use Rattle.gm_semantics.specs.Stores.{Store, read, write, overlaid}
use Rattle.gm_semantics.specs.Contributions.{Contribution, settled_store, total_faults}
use Rattle.gm_semantics.specs.Expressions.{View, node_held, node_of, at_node, plain, early, two_of, located, evaluated}
use Rattle.gm_semantics.specs.Iterations.{Loop, Iteration, begun, unless_failed, go_on, with_ok, Outermost, view_in, assigned, wrote, does}
use Rattle.gm_semantics.specs.Loops.{iteration, left_at, own_left, parallel}
use Rattle.gm_semantics.specs.Statements.{Run, loop_of}
use Rattle.gm_semantics.proofs.TargetLaws.{never, read-settled, value-away}
use Rattle.gm_forms.proofs.ReadingFrames.{nat_eq-apart}
use Rattle.gm_forms.specs.Order.{first_key}
use Rattle.gm_bfs.specs.declared.fresh.Fresh.{Fresh}
use Rattle.gm_bfs.specs.declared.fresh.Site.{Site}
use Rattle.gm_bfs.specs.Variables.{copy_of, body_key}
use Rattle.gm_bfs.specs.Copies.{is_marked}
use Rattle.gm_bfs.specs.Searches.{equal, scalar, each_node, set_at, copy_property, copies_from}
use Rattle.gm_bfs.specs.Searches as Searches
use Rattle.gm_bfs.proofs.LevelFacts.{in-node, node-in}

-- a variable that holds a node
pub node-own : (w : View) (x n : ℕ) (at : Place) → n < node_count w.graph → w.store.scalar x ≡ At (Some n) → node_of w x at ≡ Ok n
node-own w x n at within holds =
    ap (λ v. node_held w at (node_in w.graph v)) holds ∙ ap (λ c. node_held w at (cond c (Some n) None)) (lt-ltb n (node_count w.graph) within)

pub read-own : (w : View) (x n p : ℕ) (at : Place) → w.parallel ≡ true → n < node_count w.graph → w.store.scalar x ≡ At (Some n) → evaluated (Property x p at) w ≡ plain (Ok (w.store.node p n))
read-own w x n p at parallel within holds =
    ap (λ b. cond b (plain (at_node w x at (w.store.node p))) (early (at_node w x at (w.store.node p)))) parallel
    ∙ ap (λ r. plain (then_with r (λ i. Ok (w.store.node p i)))) (node-own w x n at within holds)

-- a property of the node compared with a scalar
pub equal-told : (s : Site) (w : View) (x n p y : ℕ) (b : Bool) → w.parallel ≡ true → n < node_count w.graph → w.store.scalar x ≡ At (Some n) → result2 Eq (w.store.node p n) (w.store.scalar y) ≡ Ok (Flag b) →
    evaluated (equal s (Searches.at_node s x p) (scalar s y)) w ≡ plain (Ok (Flag b))
equal-told s w x n p y b parallel within holds told =
    ap (λ a. two_of a (plain (Ok (w.store.scalar y))) (λ u v. located w s.place (result2 Eq u v))) (read-own w x n p s.place parallel within holds)
    ∙ ap (λ r. plain (located w s.place r)) told

-- an iteration that does not fault and gives some contributions
pub record Simple (given : List Contribution) (it : Iteration) : Type 0 where
  pub outermost : it.with_outermost ≡ given
  pub deferred : it.deferred ≡ []
  pub fault : it.fault ≡ None

module _ (loop : Loop) (key : Key) (test : Expr) (body : Stmt) (s : Store) where
  abbrev pub turn : ℕ → Iteration
  turn n = iteration loop key test body s n

  -- the store after the own writes
  abbrev pub own : Store
  own = own_left s (nodes loop.graph) (map turn (nodes loop.graph))

  left-in : (ks : List ℕ) (p m : ℕ) → IsIn m ks → left_at ks (map turn ks) s p m ≡ (turn m).store.node p m
  left-in [] p m i = absurd i
  left-in (k ∷ ks) p m i = by (nat_eq k m) refl (left-in ks p m)
    where
      by : (b : Bool) → nat_eq k m ≡ b → (IsIn m ks → left_at ks (map turn ks) s p m ≡ (turn m).store.node p m) → cond b ((turn k).store.node p m) (left_at ks (map turn ks) s p m) ≡ (turn m).store.node p m
      by true e rest = ap (λ j. (turn j).store.node p m) (eqb-true k m e)
      by false e rest = ⊎_elim (λ (here : m ≡ k). never (eq-eqb k m (sym here)) e) rest i

  left-same : (ks : List ℕ) (p m : ℕ) → ((n : ℕ) → IsIn n ks → (turn n).store.node p m ≡ s.node p m) → left_at ks (map turn ks) s p m ≡ s.node p m
  left-same [] p m h = refl
  left-same (k ∷ ks) p m h = by (nat_eq k m) (left-same ks p m (λ n i. h n (inr i)))
    where
      by : (b : Bool) → left_at ks (map turn ks) s p m ≡ s.node p m → cond b ((turn k).store.node p m) (left_at ks (map turn ks) s p m) ≡ s.node p m
      by true rest = h k (inl refl)
      by false rest = rest

  pub own-in : (p m : ℕ) → m < node_count loop.graph → own.node p m ≡ (turn m).store.node p m
  own-in p m b = left-in (nodes loop.graph) p m (node-in loop.graph m b)

  pub own-same : (p m : ℕ) → ((n : ℕ) → n < node_count loop.graph → (turn n).store.node p m ≡ s.node p m) → own.node p m ≡ s.node p m
  own-same p m h = left-same (nodes loop.graph) p m (λ n i. h n (in-node loop.graph n i))

  module _ (given : ℕ → List Contribution) (simple : (n : ℕ) → n < node_count loop.graph → Simple (given n) (turn n)) where
    abbrev pub all-given : List Contribution
    all-given = joined (map given (nodes loop.graph))

    joined-given : (ks : List ℕ) → ((n : ℕ) → IsIn n ks → Simple (given n) (turn n)) → joined (map (λ (it : Iteration). it.with_outermost) (map turn ks)) ≡ joined (map given ks)
    joined-given [] h = refl
    joined-given (k ∷ ks) h = ap (λ cs. cs ++ joined (map (λ (it : Iteration). it.with_outermost) (map turn ks))) (h k (inl refl)).outermost ∙ ap (λ cs. given k ++ cs) (joined-given ks (λ n i. h n (inr i)))

    joined-deferred : (ks : List ℕ) → ((n : ℕ) → IsIn n ks → Simple (given n) (turn n)) → joined (map (λ (it : Iteration). it.deferred) (map turn ks)) ≡ []
    joined-deferred [] h = refl
    joined-deferred (k ∷ ks) h = ap (λ ws. ws ++ joined (map (λ (it : Iteration). it.deferred) (map turn ks))) (h k (inl refl)).deferred ∙ joined-deferred ks (λ n i. h n (inr i))

    no-faults : (ks : List ℕ) → ((n : ℕ) → IsIn n ks → Simple (given n) (turn n)) → somes (map (λ (it : Iteration). it.fault) (map turn ks)) ≡ []
    no-faults [] h = refl
    no-faults (k ∷ ks) h = ap (λ o. somes (o ∷ map (λ (it : Iteration). it.fault) (map turn ks))) (h k (inl refl)).fault ∙ no-faults ks (λ n i. h n (inr i))

    pub simple-loop : total_faults own all-given ≡ [] → parallel loop key test body (nodes loop.graph) s ≡ Ok (settled_store own all-given)
    simple-loop fine =
        let each : (n : ℕ) → IsIn n (nodes loop.graph) → Simple (given n) (turn n) = λ n i. simple n (in-node loop.graph n i) in
        ap (λ cs. unless_fault (least (somes (map (λ (it : Iteration). it.fault) (map turn (nodes loop.graph))) ++ total_faults own cs)) (Ok (overlaid (settled_store own cs) (joined (map (λ (it : Iteration). it.deferred) (map turn (nodes loop.graph))))))) (joined-given (nodes loop.graph) each)
        ∙ ap (λ fs. unless_fault (least (fs ++ total_faults own all-given)) (Ok (overlaid (settled_store own all-given) (joined (map (λ (it : Iteration). it.deferred) (map turn (nodes loop.graph))))))) (no-faults (nodes loop.graph) each)
        ∙ ap (λ fs. unless_fault (least fs) (Ok (overlaid (settled_store own all-given) (joined (map (λ (it : Iteration). it.deferred) (map turn (nodes loop.graph))))))) fine
        ∙ ap (λ ws. Ok (overlaid (settled_store own all-given) ws)) (joined-deferred (nodes loop.graph) each)

  abbrev nothing-given : ℕ → List Contribution
  nothing-given n = []

  joined-nothing : (ks : List ℕ) → joined (map nothing-given ks) ≡ []
  joined-nothing [] = refl
  joined-nothing (k ∷ ks) = joined-nothing ks

  -- where nothing is given, the own writes are all that is left
  pub quiet-loop : ((n : ℕ) → n < node_count loop.graph → Simple [] (turn n)) → (t : Store) × (parallel loop key test body (nodes loop.graph) s ≡ Ok t) × ((slot : Slot) → read t slot ≡ read own slot) × (t.edge ≡ s.edge)
  quiet-loop simple =
      let nothing = joined-nothing (nodes loop.graph) in
      (settled_store own [], simple-loop nothing-given simple (ap (total_faults own) nothing) ∙ ap (λ cs. Ok (settled_store own cs)) nothing, λ slot. read-settled own [] slot ∙ value-away own slot [] (λ c i. absurd i), refl)

-- what a loop leaves that assigns a property at each node
pub record Assigned (g : NumberedGraph) (p : ℕ) (val : ℕ → Value) (s t : Store) : Type 0 where
  pub scalar : (y : ℕ) → t.scalar y ≡ s.scalar y
  pub value : (n : ℕ) → n < node_count g → t.node p n ≡ val n
  pub others : (q m : ℕ) → q ≢ p → t.node q m ≡ s.node q m
  pub edge : t.edge ≡ s.edge

module _ (s : Site) (f : Fresh) (run : Run) (p : ℕ) (e : Expr) (val : ℕ → Value) (t : Store) where
  abbrev body' : Stmt
  body' = set_at s f.node p e

  abbrev loop' : Loop
  loop' = loop_of run no_levels f.node body'

  abbrev start : ℕ → Iteration
  start n = begun (write t (Scalar f.node) (At (Some n)))

  start-holds : (n : ℕ) → (start n).store.scalar f.node ≡ At (Some n)
  start-holds n = ap (λ c. cond c (At (Some n)) (t.scalar f.node)) (eq-eqb f.node f.node refl)

  pub assign-loop : ((n : ℕ) → n < node_count run.graph → evaluated e (view_in loop' Outermost (start n) (body_key s)) ≡ plain (Ok (val n))) → (u : Store) × (parallel loop' first_key always body' (nodes run.graph) t ≡ Ok u) × Assigned run.graph p val t u
  assign-loop told =
      let q = quiet-loop loop' first_key always body' t (λ n b. subst (Simple []) (sym (is n b)) (record { outermost = refl; deferred = refl; fault = refl })) in (
        q.0,
        q.1,
        record {
          scalar = λ y. q.2 (Scalar y);
          value = λ n b. q.2 (Node p n) ∙ own-in loop' first_key always body' t p n b ∙ ap (λ (it : Iteration). it.store.node p n) (is n b) ∙ here n;
          others = λ r m off. q.2 (Node r m) ∙ own-same loop' first_key always body' t r m (λ n b. ap (λ (it : Iteration). it.store.node r m) (is n b) ∙ ap (λ c. cond (c && nat_eq n m) (val n) (t.node r m)) (nat_eq-apart p r (λ k. off (sym k))));
          edge = q.3;
        },
      )
    where
      is : (n : ℕ) → n < node_count run.graph → iteration loop' first_key always body' t n ≡ wrote (start n) (Node p n, val n)
      is n b =
          let w = view_in loop' Outermost (start n) (body_key s) in
          ap (λ v. with_ok (start n) (assigned w (T.Property f.node p s.place) v) (wrote (start n))) (told n b)
          ∙ ap (λ r. with_ok (start n) (then_with (then_with r (λ i. Ok (Node p i))) (λ a. Ok (a, val n))) (wrote (start n))) (node-own w f.node n s.place b (start-holds n))

      here : (n : ℕ) → cond (nat_eq p p && nat_eq n n) (val n) (t.node p n) ≡ val n
      here n = ap (λ c. cond (c && nat_eq n n) (val n) (t.node p n)) (eq-eqb p p refl) ∙ ap (λ c. cond c (val n) (t.node p n)) (eq-eqb n n refl)

-- several assignments to copies, one after another
module _ (s : Site) (f : Fresh) (k : ℕ) (high : k ≤ f.copies) (loop : Loop) (out : loop.outer ≡ f.node) (n : ℕ) (within : n < node_count loop.graph) where
  -- what they leave of an iteration
  pub record Copies (p : ℕ) (marks : List Bool) (it after : Iteration) : Type 0 where
    pub simple : Simple it.with_outermost after
    pub scalar : (y : ℕ) → after.store.scalar y ≡ it.store.scalar y
    pub below : (q m : ℕ) → q < f.copies → after.store.node q m ≡ it.store.node q m
    pub earlier : (q : ℕ) → q < p → after.store.node (f.copies + q) n ≡ it.store.node (f.copies + q) n
    pub done : (i : ℕ) → is_marked marks i ≡ true → after.store.node (f.copies + (p + i)) n ≡ it.store.node (p + i) n

  pub copies-done : (p : ℕ) (marks : List Bool) (it : Iteration) → p + length marks ≤ k → it.store.scalar f.node ≡ At (Some n) → it.fault ≡ None → it.deferred ≡ [] → Copies p marks it (does (sequence (copies_from s f p marks)) Outermost loop it)
  copies-done p [] it small holds fine none = record { simple = record { outermost = refl; deferred = none; fault = fine }; scalar = λ y. refl; below = λ q m b. refl; earlier = λ q b. refl; done = λ i e. never e (unmarked i) }
    where
      unmarked : (i : ℕ) → is_marked [] i ≡ false
      unmarked i = refl
  copies-done p (false ∷ marks) it small holds fine none =
      let r = copies-done (suc p) marks it (omega arith) holds fine none in
      record { simple = r.simple; scalar = r.scalar; below = r.below; earlier = λ q b. r.earlier q (omega arith); done = done r.done }
    where
      done : ((i : ℕ) → is_marked marks i ≡ true → (does (sequence (copies_from s f (suc p) marks)) Outermost loop it).store.node (f.copies + (suc p + i)) n ≡ it.store.node (suc p + i) n) →
          (i : ℕ) → is_marked (false ∷ marks) i ≡ true → (does (sequence (copies_from s f (suc p) marks)) Outermost loop it).store.node (f.copies + (p + i)) n ≡ it.store.node (p + i) n
      done r zero e = never e refl
      done r (suc i) e = let is : p + suc i ≡ suc p + i = omega arith in subst (λ j. (does (sequence (copies_from s f (suc p) marks)) Outermost loop it).store.node (f.copies + j) n ≡ it.store.node j n) (sym is) (r i e)
  copies-done p (true ∷ marks) it small holds fine none =
      let w = view_in loop Outermost it (body_key s) in
      let first : does (copy_property s f p) Outermost loop it ≡ next =
      ap (λ v. with_ok it (assigned w (T.Property f.node (copy_of f p) s.place) v) (wrote it)) (read-own w f.node n p s.place refl within holds)
      ∙ ap (λ r. with_ok it (then_with (then_with r (λ i. Ok (Node (copy_of f p) i))) (λ a. Ok (a, it.store.node p n))) (wrote it)) (node-own w f.node n s.place within holds) in
      let all : does (sequence (copies_from s f p (true ∷ marks))) Outermost loop it ≡ does rest' Outermost loop next =
      ap (λ i. go_on i (does rest' Outermost loop)) first ∙ ap (λ o. unless_failed o next (does rest' Outermost loop)) fine in
      let r = copies-done (suc p) marks next (omega arith) holds fine none in
      subst (Copies p (true ∷ marks) it) (sym all) (record {
        simple = r.simple;
        scalar = r.scalar;
        below = λ q m b. r.below q m b ∙ apart q m (λ e. omega arith);
        earlier = λ q b. r.earlier q (omega arith) ∙ apart (f.copies + q) n (λ e. omega arith);
        done = done r.earlier r.done;
      })
    where
      rest' : Stmt
      rest' = sequence (copies_from s f (suc p) marks)

      next : Iteration
      next = wrote it (Node (copy_of f p) n, it.store.node p n)

      apart : (q m : ℕ) → f.copies + p ≢ q → next.store.node q m ≡ it.store.node q m
      apart q m off = ap (λ c. cond (c && nat_eq n m) (it.store.node p n) (it.store.node q m)) (nat_eq-apart (f.copies + p) q off)

      here : next.store.node (f.copies + p) n ≡ it.store.node p n
      here =
          ap (λ c. cond (c && nat_eq n n) (it.store.node p n) (it.store.node (f.copies + p) n)) (eq-eqb (f.copies + p) (f.copies + p) refl)
          ∙ ap (λ c. cond c (it.store.node p n) (it.store.node (f.copies + p) n)) (eq-eqb n n refl)

      later : Iteration
      later = does rest' Outermost loop next

      done : ((q : ℕ) → q < suc p → later.store.node (f.copies + q) n ≡ next.store.node (f.copies + q) n) → ((i : ℕ) → is_marked marks i ≡ true → later.store.node (f.copies + (suc p + i)) n ≡ next.store.node (suc p + i) n) →
          (i : ℕ) → is_marked (true ∷ marks) i ≡ true → later.store.node (f.copies + (p + i)) n ≡ it.store.node (p + i) n
      done early r zero e = let is : p + 0 ≡ p = omega arith in subst (λ j. later.store.node (f.copies + j) n ≡ it.store.node j n) (sym is) (early p (omega arith) ∙ here)
      done early r (suc i) e =
          let is : p + suc i ≡ suc p + i = omega arith in
          let inside = marked-inside marks i e in
          subst (λ j. later.store.node (f.copies + j) n ≡ it.store.node j n) (sym is) (r i e ∙ apart (suc p + i) n (λ k. omega arith))
        where
          marked-inside : (marks : List Bool) (i : ℕ) → is_marked marks i ≡ true → i < length marks
          marked-inside [] i e = never e refl
          marked-inside (b ∷ marks) zero e = omega arith
          marked-inside (b ∷ marks) (suc i) e = let r = marked-inside marks i e in omega arith
