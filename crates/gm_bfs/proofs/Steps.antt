-- The statements that keep levels, one by one.
use Rattle.std.proofs.Common.{◌≡◌, ◌<◌, ◌≤◌, ◌+◌, ℕ, zero, suc, Bool, true, false, cond, List, [], ◌∷◌, length, refl, sym, ap, subst, ◌∙◌, arith, Some, Ok}
use Rattle.std.specs.Prelude.{◌≢◌, pos}
use Rattle.std.proofs.lemmas.Bool.{eq-eqb}
use Rattle.gm_value.specs.declared.operations.Op2.TheVariants.{Add, Sub, Eq}
use Rattle.gm_value.specs.declared.values.Value.{Value}
use Rattle.gm_value.specs.declared.values.Value.TheVariants.{I32, Flag, At}
use Rattle.gm_value.specs.Operations.{result2}
use Rattle.gm_model.specs.Graphs.{node_count}
use Rattle.gm_ast.specs.Program.{Expr, always, Binary, Stmt, Then, sequence}
use Rattle.gm_semantics.specs.declared.slots.Slot.TheVariants.{Scalar, Node}
use Rattle.gm_semantics.specs.Levels.{no_levels}
use Rattle.gm_semantics.specs.Stores.{Store, write}
use Rattle.gm_semantics.specs.Expressions.{plain, located, two_of, evaluated}
use Rattle.gm_semantics.specs.Iterations.{Loop, Iteration, begun, Outermost, view_in, does}
use Rattle.gm_semantics.specs.Statements.{Run, State, Goes, loop_of, view_of, with_value, with_store, then_do, writes, sequential}
use Rattle.gm_semantics.specs.Iterations as Iterations
use Rattle.gm_ast.specs.declared.tree.Target.TheVariants as T
use Rattle.gm_semantics.specs.Frames.{Agree}
use Rattle.gm_semantics.proofs.TargetLaws.{never}
use Rattle.gm_forms.proofs.ReadingFrames.{nat_eq-apart}
use Rattle.gm_forms.specs.Order.{first_key}
use Rattle.gm_bfs.specs.declared.fresh.Fresh.{Fresh}
use Rattle.gm_bfs.specs.declared.fresh.Site.{Site}
use Rattle.gm_bfs.specs.Variables.{fresh_from, copy_of, body_key}
use Rattle.gm_bfs.specs.Copies.{is_marked}
use Rattle.gm_bfs.specs.Searches.{number, scalar, set, equal, each_node, next_level, level_before, activate, copies_from, unless_empty, copy, where_asked}
use Rattle.gm_bfs.specs.Searches as Searches
use Rattle.gm_bfs.proofs.Cells.{before, one-more, one-less}
use Rattle.gm_bfs.proofs.Expressions.{Copied}
use Rattle.gm_bfs.proofs.SimpleLoops.{equal-told, own-in, own-same, quiet-loop, Assigned, assign-loop, Copies, copies-done}

-- a statement goes on with another store
abbrev pub To : Run → Stmt → State → Store → Type 0
To run a st t = sequential a run st ≡ Goes (record st { store = t })

pub then-to : (run : Run) (a b : Stmt) (st : State) (t : Store) → To run a st t → sequential (Then a b) run st ≡ sequential b run (record st { store = t })
then-to run a b st t h = ap (λ c. then_do c (sequential b run)) h

-- an assignment to a scalar
pub set-to : (run : Run) (s : Site) (y : ℕ) (e : Expr) (v : Value) (st : State) → evaluated e (view_of run st (body_key s)) ≡ plain (Ok v) → To run (set s y e) st (write st.store (Scalar y) v)
set-to run s y e v st h = ap (λ a. writes st (Iterations.assigned (view_of run st (body_key s)) (T.Scalar y s.place) a)) h

pub written : (t : Store) (y : ℕ) (v : Value) → (write t (Scalar y) v).scalar y ≡ v
written t y v = ap (λ c. cond c v (t.scalar y)) (eq-eqb y y refl)

pub unwritten : (t : Store) (y z : ℕ) (v : Value) → y ≢ z → (write t (Scalar y) v).scalar z ≡ t.scalar z
unwritten t y z v off = ap (λ c. cond c v (t.scalar z)) (nat_eq-apart y z off)

-- the store that a reading pass agrees with
pub agree-step : (k : ℕ) (a t u : Store) → Agree k a t → ((y : ℕ) → y < k → u.scalar y ≡ t.scalar y) → ((p m : ℕ) → p < k → u.node p m ≡ t.node p m) → u.edge ≡ t.edge → Agree k a u
agree-step k a t u h s n e = record { scalar = λ y b. s y b ∙ h.scalar y b; node = λ p m b. n p m b ∙ h.node p m b; edge = λ p i b. ap (λ f. f p i) e ∙ h.edge p i b }

module _ (s : Site) (k : ℕ) (run : Run) where
  abbrev f : Fresh
  f = fresh_from k

  -- the level below the current one
  pub next_level-to : (st : State) (j : ℕ) → suc j ≤ 2147483647 → st.store.scalar f.current ≡ I32 (pos j) → To run (next_level s f) st (write st.store (Scalar f.down) (I32 (pos (suc j))))
  next_level-to st j small e =
      set-to run s f.down (Binary Add s.place (scalar s f.current) (number 1)) (I32 (pos (suc j))) st
      (ap (λ v. two_of (plain (Ok v)) (plain (Ok (I32 (pos 1)))) (λ a b. located (view_of run st (body_key s)) s.place (result2 Add a b))) e
      ∙ ap (λ r. plain (located (view_of run st (body_key s)) s.place r)) (one-more j small))

  -- the level above it
  pub level_before-to : (st : State) (x j : ℕ) → j ≤ 2147483647 → st.store.scalar f.current ≡ I32 (pos j) → To run (level_before s f x) st (write st.store (Scalar x) (I32 (before j)))
  level_before-to st x j small e =
      set-to run s x (Binary Sub s.place (scalar s f.current) (number 1)) (I32 (before j)) st
      (ap (λ v. two_of (plain (Ok v)) (plain (Ok (I32 (pos 1)))) (λ a b. located (view_of run st (body_key s)) s.place (result2 Sub a b))) e
      ∙ ap (λ r. plain (located (view_of run st (body_key s)) s.place r)) (one-less j small))

  -- a statement where it is asked for
  pub asked-to : (asked : Bool) (a : Stmt) (y : ℕ) (v : Value) (st : State) → To run a st (write st.store (Scalar y) v) → To run (where_asked asked a) st (cond asked (write st.store (Scalar y) v) st.store)
  asked-to true a y v st h = h
  asked-to false a y v st h = refl

  pub asked-scalar : (asked : Bool) (t : Store) (y z : ℕ) (v : Value) → y ≢ z → (cond asked (write t (Scalar y) v) t).scalar z ≡ t.scalar z
  asked-scalar true t y z v off = unwritten t y z v off
  asked-scalar false t y z v off = refl

  pub asked-written : (asked : Bool) (t : Store) (y : ℕ) (v : Value) → asked ≡ true → (cond asked (write t (Scalar y) v) t).scalar y ≡ v
  asked-written true t y v e = written t y v
  asked-written false t y v e = never e refl

  pub asked-node : (asked : Bool) (t : Store) (y : ℕ) (v : Value) (p m : ℕ) → (cond asked (write t (Scalar y) v) t).node p m ≡ t.node p m
  asked-node true t y v p m = refl
  asked-node false t y v p m = refl

  pub asked-edge : (asked : Bool) (t : Store) (y : ℕ) (v : Value) → (cond asked (write t (Scalar y) v) t).edge ≡ t.edge
  asked-edge true t y v = refl
  asked-edge false t y v = refl

  -- the nodes of the current level become active
  pub activate-to : (st : State) (active : ℕ → Bool) → ((n : ℕ) → n < node_count run.graph → result2 Eq (st.store.node f.level n) (st.store.scalar f.current) ≡ Ok (Flag (active n))) →
      (u : Store) × To run (activate s f) st u × Assigned run.graph f.active (λ n. Flag (active n)) st.store u
  activate-to st active told =
      let compare = equal s (Searches.at_node s f.node f.level) (scalar s f.current) in
      let r = assign-loop s f run f.active compare (λ n. Flag (active n)) st.store (λ n b.
      let u = begun (write st.store (Scalar f.node) (At (Some n))) in
      let w = view_in (loop_of run no_levels f.node (Searches.set_at s f.node f.active compare)) Outermost u (body_key s) in
      equal-told s w f.node n f.level f.current (active n) refl b (written st.store f.node (At (Some n))) (ap (result2 Eq (st.store.node f.level n)) (unwritten st.store f.node f.current (At (Some n)) (λ h. omega arith)) ∙ told n b)) in
      (r.0, ap (λ a. with_value a (with_store st)) r.1, r.2)

  -- copies of properties
  pub record Copying (marks : List Bool) (t u : Store) : Type 0 where
    pub scalar : (y : ℕ) → u.scalar y ≡ t.scalar y
    pub below : (q m : ℕ) → q < f.copies → u.node q m ≡ t.node q m
    pub copied : (m : ℕ) → m < node_count run.graph → Copied f marks k u m
    pub edge : u.edge ≡ t.edge

  unmarked : (p : ℕ) (marks : List Bool) → copies_from s f p marks ≡ [] → (i : ℕ) → is_marked marks i ≡ true → ⊥
  unmarked p [] e i h = never h refl
  unmarked p (true ∷ marks) e i h = cc
  unmarked p (false ∷ marks) e zero h = never h refl
  unmarked p (false ∷ marks) e (suc i) h = unmarked (suc p) marks e i h

  pub copy-to : (marks : List Bool) (st : State) → length marks ≤ k → (u : Store) × To run (copy s f marks) st u × Copying marks st.store u
  copy-to marks st small = by (copies_from s f 0 marks) refl
    where
      by : (cs : List Stmt) → copies_from s f 0 marks ≡ cs → (u : Store) × To run (unless_empty s f cs) st u × Copying marks st.store u
      by [] e = (st.store, refl, record { scalar = λ y. refl; below = λ q m b. refl; copied = λ m b p l h. absurd (unmarked 0 marks e p h); edge = refl })
      by (c ∷ cs) e =
          let body = sequence (c ∷ cs) in
          let loop : Loop = loop_of run no_levels f.node body in
          let turns : ℕ → Iteration = λ n. begun (write st.store (Scalar f.node) (At (Some n))) in
          let each : (n : ℕ) (b : n < node_count run.graph) → Copies s f k (omega arith) loop refl n b 0 marks (turns n) (does body Outermost loop (turns n)) =
          λ n b. subst (λ ds. Copies s f k (omega arith) loop refl n b 0 marks (turns n) (does (sequence ds) Outermost loop (turns n))) e
          (copies-done s f k (omega arith) loop refl n b 0 marks (turns n) (omega arith) (written st.store f.node (At (Some n))) refl refl) in
          let q = quiet-loop loop first_key always body st.store (λ n b. (each n b).simple) in (
            q.0,
            ap (λ a. with_value a (with_store st)) q.1,
            record {
              scalar = λ y. q.2 (Scalar y);
              below = λ r m b. q.2 (Node r m) ∙ own-same loop first_key always body st.store r m (λ n l. (each n l).below r m b);
              copied = λ m b p l h.
                  let low : p < f.copies = omega arith in
                  let zero-in : 0 + p ≡ p = omega arith in
                  q.2 (Node (copy_of f p) m) ∙ own-in loop first_key always body st.store (copy_of f p) m b
                  ∙ ap (λ i. (does body Outermost loop (turns m)).store.node (f.copies + i) m) (sym zero-in) ∙ (each m b).done p h ∙ ap (λ i. st.store.node i m) zero-in
                  ∙ sym (q.2 (Node p m) ∙ own-same loop first_key always body st.store p m (λ n i. (each n i).below p m low));
              edge = q.3;
            },
          )
