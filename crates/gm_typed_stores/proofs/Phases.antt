-- Parallel loops and sequential phases keep the types of stores.
use Rattle.std.proofs.Common.{◌≡◌, ◌<◌, ℕ, zero, suc, Bool, true, false, List, [], ◌∷◌, ◌++◌, map, refl, sym, ap, subst, Option, Some, None, Result, Ok, Err, IfOk}
use Rattle.std.specs.Cmp.Derive.{both_true}
use Rattle.std.specs.Prelude.{◌&&◌, ◌||◌, length, nat_eq, nat_lt, filter, reverse}
use Rattle.std.proofs.lemmas.Bool.{both_ways}
use Rattle.gm_value.specs.declared.values.VType.{VType}
use Rattle.gm_value.specs.declared.values.VType.TheVariants as V
use Rattle.gm_value.specs.declared.values.Value.{Value}
use Rattle.gm_value.specs.declared.values.Value.TheVariants.{At}
use Rattle.gm_value.specs.Numbers.{zero_of}
use Rattle.gm_value.specs.Operations.{is_true}
use Rattle.gm_model.specs.Graphs.{NumberedGraph, node_count}
use Rattle.gm_ast.specs.declared.tree.Declaration.{Declaration}
use Rattle.gm_ast.specs.declared.tree.Key.{Key}
use Rattle.gm_ast.specs.declared.tree.Sort.{Sort}
use Rattle.gm_ast.specs.declared.tree.Sort.TheVariants as Sorts
use Rattle.gm_ast.specs.declared.tree.Target.TheVariants as T
use Rattle.gm_ast.specs.Program.{Expr, always, Stmt, Skip, Then, Declare, DeclareEdge, Assign, Defer, Combine, Group, Foreach, For, If, While, Do, InBfs, InBfsBoth, Return}
use Rattle.gm_semantics.specs.declared.faults.Fault.{Fault}
use Rattle.gm_semantics.specs.declared.slots.Slot.{Slot}
use Rattle.gm_semantics.specs.declared.slots.Slot.TheVariants.{Scalar}
use Rattle.gm_semantics.specs.Levels.{nodes, level_of, levels, no_levels, is_level, is_some_node}
use Rattle.gm_semantics.specs.Stores.{Store, write, write_all, overlaid}
use Rattle.gm_semantics.specs.Faults.{least, somes, joined}
use Rattle.gm_semantics.specs.Contributions.{settled_store, total_faults}
use Rattle.gm_semantics.specs.Expressions.{Answer, evaluated, value, node_of}
use Rattle.gm_semantics.specs.Iterations.{Loop, Iteration, Outermost, does, assigned, at_once}
use Rattle.gm_semantics.specs.Loops.{iteration, left_at, own_left, loop_done, parallel}
use Rattle.gm_semantics.specs.Statements.{Run, State, Course, Goes, Returns, Faults, Stops, variable_at, loop_of, view_of, with_value, then_do, either_way, with_store, stopped, begin_turn, repeated, in_turns, loops, declared, searched, sequential}
use Rattle.gm_semantics.specs.Outcomes.{is_of}
use Rattle.gm_forms.specs.Typing.{type_at, type_in, has_type, target_type, returns_type, is_typed_in}
use Rattle.gm_ast.specs.declared.tree.Variable.{Variable}
use Rattle.gm_ast.specs.Names.{is, is_node_type}
use Rattle.gm_forms.specs.Uses.{Use, Iterates, Owner, Written, NodeValue, suits, has_role, use_as, uses_of_head, uses_of_search, uses_in, uses_of_target, uses_of}
use Rattle.gm_forms.proofs.Named.{both-true}
use Rattle.gm_typed_stores.specs.Values.{IsValue, AreValues, Each}
use Rattle.gm_typed_stores.specs.Tells.{TypeTable, takes_nodes, tells, tells_in}
use Rattle.gm_typed_stores.specs.Stores.{IsTypedStore, IsGraphBelow, IsTypedView, slot_type, IsTypedContribution, IsTypedWrite, IsTypedIteration, IsTypedLoop, IsTypedResult, IsTypedCourse}
use Rattle.gm_typed_stores.proofs.Eaches.{each-map, each-weaker, each-joined, each-kept, each-reverse, if-unless, if-value}
use Rattle.gm_typed_stores.proofs.Values.{zero-value}
use Rattle.gm_typed_stores.proofs.Kept.{nodes-within, node_of-within, weaken, enter, write-value, write_all-values, fill-value, overlaid-values}
use Rattle.gm_typed_stores.proofs.Expressions.{is-type, Suit, split, evaluated-gives, value-gives}
use Rattle.gm_typed_stores.proofs.Settling.{settled-values}
use Rattle.gm_typed_stores.proofs.Bodies.{IsGivenTo, assigned-typed, at_once-typed, turn-keeps, does-keeps}

-- ---- levels are lists of nodes

abbrev NodesOf : NumberedGraph → List ℕ → Type 0
NodesOf g ks = Each (λ k. k < node_count g) ks

level-lists : (g : NumberedGraph) (root : ℕ) (ks : List ℕ) → Each (NodesOf g) (map (λ k. filter (λ n. is_level (level_of g root n) k) (nodes g)) ks)
level-lists g root [] = tt
level-lists g root (k ∷ ks) = (each-kept (λ k. k < node_count g) (λ n. is_level (level_of g root n) k) (nodes g) (nodes-within g), level-lists g root ks)

levels-within : (g : NumberedGraph) (root : ℕ) → Each (NodesOf g) (levels g root)
levels-within g root =
    let lists = map (λ k. filter (λ n. is_level (level_of g root n) k) (nodes g)) (nodes g) in
    each-kept (NodesOf g) is_some_node lists (level-lists g root (nodes g))

iterates-owner : (v : Variable) → has_role v Iterates ≡ true → has_role v Owner ≡ true
iterates-owner v h = by (is Sorts.Iterator v) (is Sorts.Scalar v && is_node_type v.vtype) (is Sorts.Graph v) h
  where
    by : (a b c : Bool) → a || c ≡ true → (a || b) || c ≡ true
    by true b c h = refl
    by false true c h = refl
    by false false c h = h

module _ (table : TypeTable) where
  abbrev limit : ℕ
  limit = table.limit

  abbrev ds : List Declaration
  ds = table.declarations

  -- ---- parallel loops

  left-value : (its : List ℕ) (i : ℕ) (ks : List ℕ) (turns : List Iteration) (s : Store) (p n : ℕ) → Each (IsTypedIteration table (i ∷ its)) turns → IsTypedStore table its s → is_of ds Sorts.NodeProperty p ≡ true → IsValue limit (type_at ds p) (left_at ks turns s p n)
  left-value its i [] turns s p n each h e = h.node p n e
  left-value its i (k ∷ ks) [] s p n each h e = h.node p n e
  left-value its i (k ∷ ks) (t ∷ turns) s p n each h e =
      if-value (IsValue limit (type_at ds p)) (nat_eq k n) (t.store.node p n) (left_at ks turns s p n) (λ here. each.0.store.node p n e) (λ apart. left-value its i ks turns s p n each.1 h e)

  done-keeps : (its : List ℕ) (i : ℕ) (ks : List ℕ) (turns : List Iteration) (s : Store) → Each (IsTypedIteration table (i ∷ its)) turns → IsTypedStore table its s → IfOk (loop_done s ks turns) (IsTypedStore table its)
  done-keeps its i ks turns s each h =
      let own = own_left s ks turns in
      let contributions = joined (map (λ (t : Iteration). t.with_outermost) turns) in
      let late = joined (map (λ (t : Iteration). t.deferred) turns) in
      let is_own : IsTypedStore table its own = record { scalar = h.scalar; node = λ p n e. left-value its i ks turns s p n each h e; edge = h.edge } in
      let given : Each (IsTypedContribution table) contributions = each-joined (IsTypedContribution table) (map (λ (t : Iteration). t.with_outermost) turns)
      (each-map (Each (IsTypedContribution table)) (λ (t : Iteration). t.with_outermost) turns (each-weaker (IsTypedIteration table (i ∷ its)) (λ (t : Iteration). Each (IsTypedContribution table) t.with_outermost) turns (λ t g. g.with_outermost) each)) in
      let deferred : Each (IsTypedWrite table) late = each-joined (IsTypedWrite table) (map (λ (t : Iteration). t.deferred) turns)
      (each-map (Each (IsTypedWrite table)) (λ (t : Iteration). t.deferred) turns (each-weaker (IsTypedIteration table (i ∷ its)) (λ (t : Iteration). Each (IsTypedWrite table) t.deferred) turns (λ t g. g.deferred) each)) in
      if-unless (IsTypedStore table its) (least (somes (map (λ (t : Iteration). t.fault) turns) ++ total_faults own contributions)) (Ok (overlaid (settled_store own contributions) late))
      (overlaid-values table its (settled_store own contributions) late deferred (settled-values table its own contributions given is_own))

  pub parallel-keeps : (its : List ℕ) (result : Option VType) (loop : Loop) (key : Key) (test : Expr) (body : Stmt) (ks : List ℕ) (s : Store) → IsTypedLoop table loop → takes_nodes table loop.outer ≡ true → Each (λ k. k < node_count loop.graph) ks →
      has_type ds V.Flag test ≡ true → Suit ds (uses_in test) → tells table (loop.outer ∷ its) test ≡ true →
      is_typed_in ds result body ≡ true → Suit ds (uses_of body) → tells_in table (loop.outer ∷ its) body ≡ true →
      IsTypedStore table its s → IfOk (parallel loop key test body ks s) (IsTypedStore table its)
  parallel-keeps its result loop key test body ks s l takes low e u k be bu bk h =
      let i = loop.outer in
      done-keeps its i ks (map (iteration loop key test body s) ks) s
      (each-map (IsTypedIteration table (i ∷ its)) (iteration loop key test body s) ks
      (each-weaker (λ k. k < node_count loop.graph) (λ n. IsTypedIteration table (i ∷ its) (iteration loop key test body s n)) ks
      (λ n in_graph. turn-keeps table its i loop Outermost key test (does body Outermost loop) n s l takes in_graph e u k (λ t g. does-keeps table body (i ∷ its) result Outermost loop t l be bu bk g) h) low)) h

  -- ---- courses

  module _ (result : Option VType) where
    abbrev Led : List ℕ → Course → Type 0
    Led its c = IsTypedCourse table result its c

    pub led-weaken : (its : List ℕ) (i : ℕ) (c : Course) → Led (i ∷ its) c → Led its c
    led-weaken its i (Goes s) h = weaken table its i s.store h
    led-weaken its i (Returns v s) h = (h.0, weaken table its i s.store h.1)
    led-weaken its i (Faults f) h = tt
    led-weaken its i Stops h = tt

    pub led-with : {A : Type 0} (P : A → Type 0) (its : List ℕ) (r : Result A Fault) (f : A → Course) → IfOk r P → ((a : A) → P a → Led its (f a)) → Led its (with_value r f)
    led-with P its (Ok a) f h k = k a h
    led-with P its (Err e) f h k = tt

    led-then : (its : List ℕ) (c : Course) (f : State → Course) → Led its c → ((s : State) → IsTypedStore table its s.store → Led its (f s)) → Led its (then_do c f)
    led-then its (Goes s) f h k = k s h
    led-then its (Returns v s) f h k = h
    led-then its (Faults e) f h k = tt
    led-then its Stops f h k = tt

    pub led-either : (its : List ℕ) (b : Bool) (f g : State → Course) (s : State) → Led its (f s) → Led its (g s) → Led its (either_way b f g s)
    led-either its true f g s h k = h
    led-either its false f g s h k = k

    led-turn : (its : List ℕ) (run : Run) (f : State → Course) (s : State) → IsTypedStore table its s.store → ((t : State) → IsTypedStore table its t.store → Led its (f t)) → Led its (begin_turn run f s)
    led-turn its run f s h k = led-either its (nat_lt s.turns run.bound) f stopped (record s { turns = suc s.turns }) (k (record s { turns = suc s.turns }) h) tt

    led-repeated : (its : List ℕ) (n : ℕ) (run : Run) (test : State → Answer) (body : State → Course) (s : State) → IsTypedStore table its s.store →
        ((t : State) → IsTypedStore table its t.store → Led its (body t)) → Led its (repeated n run test body s)
    led-repeated its zero run test body s h each_keeps = tt
    led-repeated its (suc n) run test body s h each_keeps = by (test s) (λ u i. led-repeated its n run test body u i each_keeps)
      where
        by : (r : Answer) → ((u : State) → IsTypedStore table its u.store → Led its (repeated n run test body u)) → Led its (with_value r (λ v. either_way (is_true v) (begin_turn run (λ t. then_do (body t) (repeated n run test body))) Goes s))
        by (Ok v) again =
            led-either its (is_true v) (begin_turn run (λ t. then_do (body t) (repeated n run test body))) Goes s
            (led-turn its run (λ t. then_do (body t) (repeated n run test body)) s h (λ t g. led-then its (body t) (repeated n run test body) (each_keeps t g) again)) h
        by (Err f) again = tt

    led-in_turns : {A : Type 0} (P : A → Type 0) (its : List ℕ) (run : Run) (xs : List A) (body : A → State → Course) (s : State) → Each P xs → IsTypedStore table its s.store →
        ((x : A) → P x → (t : State) → IsTypedStore table its t.store → Led its (body x t)) → Led its (in_turns run xs body s)
    led-in_turns P its run [] body s each h each_keeps = h
    led-in_turns P its run (x ∷ xs) body s each h each_keeps =
        led-turn its run (λ t. then_do (body x t) (in_turns run xs body)) s h
        (λ t g. led-then its (body x t) (in_turns run xs body) (each_keeps x each.0 t g) (λ u i. led-in_turns P its run xs body u each.1 i each_keeps))

    -- ---- statements

    module _ (run : Run) (graph : IsGraphBelow limit run.graph) (same : run.declarations ≡ ds) where
      view-typed : (its : List ℕ) (s : State) (key : Key) → IsTypedStore table its s.store → IsTypedView table its (view_of run s key)
      view-typed its s key h = record { graph = graph; store = h }

      loop-typed : (levels : ℕ → Option ℕ) (x : ℕ) (body : Stmt) → IsTypedLoop table (loop_of run levels x body)
      loop-typed levels x body = record { graph = graph; types = λ y. ap (λ es. type_at es y) same }

      led-loops : (its : List ℕ) (levels : ℕ → Option ℕ) (x : ℕ) (key : Key) (test : Expr) (body : Stmt) (ks : List ℕ) (s : State) → takes_nodes table x ≡ true → NodesOf run.graph ks →
          has_type ds V.Flag test ≡ true → Suit ds (uses_in test) → tells table (x ∷ its) test ≡ true →
          is_typed_in ds result body ≡ true → Suit ds (uses_of body) → tells_in table (x ∷ its) body ≡ true →
          IsTypedStore table its s.store → Led its (loops run levels x key test body ks s)
      led-loops its levels x key test body ks s takes low e u k be bu bk h =
          led-with (IsTypedStore table its) its (parallel (loop_of run levels x body) key test body ks s.store) (with_store s)
          (parallel-keeps its result (loop_of run levels x body) key test body ks s.store (loop-typed levels x body) takes low e u k be bu bk h) (λ t g. g)

      led-searched : (its : List ℕ) (root : ℕ) (lists : List (List ℕ)) (key : Key) (x : ℕ) (test : Expr) (body : Stmt) (s : State) → takes_nodes table x ≡ true → Each (NodesOf run.graph) lists →
          has_type ds V.Flag test ≡ true → Suit ds (uses_in test) → tells table (x ∷ its) test ≡ true →
          is_typed_in ds result body ≡ true → Suit ds (uses_of body) → tells_in table (x ∷ its) body ≡ true →
          IsTypedStore table its s.store → Led its (searched run root lists key x test body s)
      led-searched its root lists key x test body s takes low e u k be bu bk h =
          led-in_turns (NodesOf run.graph) its run lists (loops run (level_of run.graph root) x key test body) s low h
          (λ ks in_graph t g. led-loops its (level_of run.graph root) x key test body ks t takes in_graph e u k be bu bk g)

      declared-keeps : (its : List ℕ) (sort : Sort) (t : VType) (x : ℕ) (s : Store) → type_at ds x ≡ t → IsTypedStore table its s → IsTypedStore table its (declared sort t x s)
      declared-keeps its Sorts.Graph t x s e h = h
      declared-keeps its Sorts.Iterator t x s e h = h
      declared-keeps its Sorts.Scalar t x s e h = write-value table its s (Scalar x) (zero_of t) (subst (λ (u : VType). IsValue limit u (zero_of t)) (sym e) (zero-value limit t)) h
      declared-keeps its Sorts.Edge t x s e h = h
      declared-keeps its Sorts.NodeProperty t x s e h = fill-value table its s x (zero_of t) (subst (λ (u : VType). IsValue limit u (zero_of t)) (sym e) (zero-value limit t)) h
      declared-keeps its Sorts.EdgeProperty t x s e h = h

      returned-value : (answer : Answer) (e : Expr) (r : Option VType) → returns_type ds r (Some e) ≡ true → ((t : VType) → type_in ds e ≡ Some t → IfOk answer (IsValue limit t)) → IfOk answer (λ v. IsTypedResult limit r (Some v))
      returned-value answer e None h k = absurd (both_ways false refl h)
      returned-value (Ok v) e (Some t) h k = k t (is-type t (type_in ds e) h)
      returned-value (Err f) e (Some t) h k = tt

      returned-nothing : (r : Option VType) → returns_type ds r None ≡ true → IsTypedResult limit r None
      returned-nothing None h = tt
      returned-nothing (Some t) h = absurd (both_ways false refl h)

      -- the node variable of a group assignment is the graph's
      group-suits : (g p : ℕ) (us : List Use) → Suit ds (use_as Iterates g) → Suit ds (use_as NodeValue p) → Suit ds us → Suit ds ((use_as Owner g ++ use_as NodeValue p) ++ us)
      group-suits g p us h k m =
          let a = both-true (suits ds (record { variable = g; role = Iterates })) true h in
          let b = both-true (nat_lt g (length ds)) (has_role (variable_at ds g) Iterates) a.0 in
          let c = both-true (suits ds (record { variable = p; role = NodeValue })) true k in
          let o : has_role (variable_at ds g) Owner ≡ true = iterates-owner (variable_at ds g) b.1 in
          both_true (both_true b.0 o) (both_true c.0 m)

      value-typed : (e : Expr) (its : List ℕ) (s : State) (key : Key) (t : VType) → IsTypedStore table its s.store → has_type ds t e ≡ true → Suit ds (uses_in e) → tells table its e ≡ true → IfOk (value e (view_of run s key)) (IsValue limit t)
      value-typed e its s key t h is u k = value-gives table e its (view_of run s key) t (view-typed its s key h) (is-type t (type_in ds e) is) u k

      pub sequential-keeps : (s : Stmt) (its : List ℕ) (state : State) → is_typed_in ds result s ≡ true → Suit ds (uses_of s) → tells_in table its s ≡ true → IsTypedStore table its state.store → IsTypedCourse table result its (sequential s run state)
      sequential-keeps Skip its state e u k h = h
      sequential-keeps (Then a b) its state e u k h =
          let q = both-true (is_typed_in ds result a) (is_typed_in ds result b) e in
          let r = split ds (uses_of a) (uses_of b) u in
          let j = both-true (tells_in table its a) (tells_in table its b) k in
          led-then its (sequential a run state) (sequential b run) (sequential-keeps a its state q.0 r.0 j.0 h) (λ t g. sequential-keeps b its t q.1 r.1 j.1 g)
      sequential-keeps (Declare key x None) its state e u k h =
          let v = variable_at run.declarations x in
          declared-keeps its v.sort v.vtype x state.store (ap (λ es. type_at es x) (sym same)) h
      sequential-keeps (Declare key x (Some a)) its state e u k h =
          let r = split ds (use_as Written x) (uses_in a) u in
          led-with (IsValue limit (type_at ds x)) its (value a (view_of run state key)) (λ v. with_store state (write state.store (Scalar x) v))
          (value-typed a its state key (type_at ds x) h e r.1 k) (λ v g. write-value table its state.store (Scalar x) v g h)
      sequential-keeps (DeclareEdge x y at) its state e u k h = h
      sequential-keeps (Assign key t a) its state e u k h =
          let w = view_of run state key in
          let r = split ds (uses_of_target t) (uses_in a) u in
          led-with (IsGivenTo table) its (assigned w t (evaluated a w)) (λ p. with_store state (write state.store p.0 p.1))
          (assigned-typed table w t (evaluated a w) r.0 (evaluated-gives table a its w (target_type ds t) (view-typed its state key h) (is-type (target_type ds t) (type_in ds a) e) r.1 k))
          (λ p g. write-value table its state.store p.0 p.1 g h)
      sequential-keeps (Defer key t a) its state e u k h = h
      sequential-keeps (Combine key total r ts es) its state e u k h =
          let w = view_of run state key in
          led-with (λ (p : List Slot × List Value). AreValues limit (map (slot_type table) p.0) p.1) its (at_once w total.place r ts es) (λ p. with_store state (write_all state.store p.0 p.1))
          (at_once-typed table its w total.place r ts es (view-typed its state key h) e u k) (λ p g. write_all-values table its state.store p.0 p.1 g h)
      sequential-keeps (Group key at g p a) its state e u k h =
          let j = both-true (takes_nodes table g) (tells table (g ∷ its) a) k in
          let r = split ds (use_as Iterates g) (use_as NodeValue p ++ uses_in a) u in
          let r' = split ds (use_as NodeValue p) (uses_in a) r.1 in
          led-loops its no_levels g key always (Assign key (T.Property g p at) a) (nodes run.graph) state j.0 (nodes-within run.graph) refl refl refl e (group-suits g p (uses_in a) r.0 r'.0 r'.1) j.1 h
      sequential-keeps (Foreach key at head test body) its state e u k h =
          let i = head.iterator in
          let q = both-true (has_type ds V.Flag test) (is_typed_in ds result body) e in
          let r = split ds (uses_of_head head) (uses_in test ++ uses_of body) u in
          let r' = split ds (uses_in test) (uses_of body) r.1 in
          let j = both-true (takes_nodes table i) (tells table (i ∷ its) test && tells_in table (i ∷ its) body) k in
          let j' = both-true (tells table (i ∷ its) test) (tells_in table (i ∷ its) body) j.1 in
          led-loops its no_levels i key test body (nodes run.graph) state j.0 (nodes-within run.graph) q.0 r'.0 j'.0 q.1 r'.1 j'.1 h
      sequential-keeps (For key at head test body) its state e u k h =
          let i = head.iterator in
          let q = both-true (has_type ds V.Flag test) (is_typed_in ds result body) e in
          let r = split ds (uses_of_head head) (uses_in test ++ uses_of body) u in
          let r' = split ds (uses_in test) (uses_of body) r.1 in
          let j = both-true (takes_nodes table i) (tells table (i ∷ its) test && tells_in table (i ∷ its) body) k in
          let j' = both-true (tells table (i ∷ its) test) (tells_in table (i ∷ its) body) j.1 in
          led-in_turns (λ n. n < node_count run.graph) its run (nodes run.graph)
          (λ n t.
          let v : State = record t { store = write t.store (Scalar i) (At (Some n)) } in
          with_value (value test (view_of run v key)) (λ x. either_way (is_true x) (sequential body run) Goes v)) state (nodes-within run.graph) h
          (λ n low t g.
          let v : State = record t { store = write t.store (Scalar i) (At (Some n)) } in
          let entered = enter table its i n run.graph t.store graph j.0 low g in
          led-weaken its i (with_value (value test (view_of run v key)) (λ x. either_way (is_true x) (sequential body run) Goes v))
          (led-with (IsValue limit V.Flag) (i ∷ its) (value test (view_of run v key)) (λ x. either_way (is_true x) (sequential body run) Goes v)
          (value-typed test (i ∷ its) v key V.Flag entered q.0 r'.0 j'.0)
          (λ x p. led-either (i ∷ its) (is_true x) (sequential body run) Goes v (sequential-keeps body (i ∷ its) v q.1 r'.1 j'.1 entered) entered)))
      sequential-keeps (If key test a b) its state e u k h =
          let q = both-true (has_type ds V.Flag test) (is_typed_in ds result a && is_typed_in ds result b) e in
          let q' = both-true (is_typed_in ds result a) (is_typed_in ds result b) q.1 in
          let r = split ds (uses_in test) (uses_of a ++ uses_of b) u in
          let r' = split ds (uses_of a) (uses_of b) r.1 in
          let j = both-true (tells table its test) (tells_in table its a && tells_in table its b) k in
          let j' = both-true (tells_in table its a) (tells_in table its b) j.1 in
          led-with (IsValue limit V.Flag) its (value test (view_of run state key)) (λ v. either_way (is_true v) (sequential a run) (sequential b run) state)
          (value-typed test its state key V.Flag h q.0 r.0 j.0)
          (λ v g. led-either its (is_true v) (sequential a run) (sequential b run) state (sequential-keeps a its state q'.0 r'.0 j'.0 h) (sequential-keeps b its state q'.1 r'.1 j'.1 h))
      sequential-keeps (While key at test body) its state e u k h =
          let q = both-true (has_type ds V.Flag test) (is_typed_in ds result body) e in
          let r = split ds (uses_in test) (uses_of body) u in
          let j = both-true (tells table its test) (tells_in table its body) k in
          led-repeated its (suc run.bound) run (λ t. value test (view_of run t key)) (sequential body run) state h (λ t g. sequential-keeps body its t q.1 r.1 j.1 g)
      sequential-keeps (Do key at body test) its state e u k h =
          let q = both-true (is_typed_in ds result body) (has_type ds V.Flag test) e in
          let r = split ds (uses_of body) (uses_in test) u in
          let j = both-true (tells_in table its body) (tells table its test) k in
          led-turn its run (λ t. then_do (sequential body run t) (repeated (suc run.bound) run (λ u. value test (view_of run u key)) (sequential body run))) state h
          (λ t g. led-then its (sequential body run t) (repeated (suc run.bound) run (λ u. value test (view_of run u key)) (sequential body run)) (sequential-keeps body its t q.0 r.0 j.0 g)
          (λ v i. led-repeated its (suc run.bound) run (λ t. value test (view_of run t key)) (sequential body run) v i (λ t g. sequential-keeps body its t q.0 r.0 j.0 g)))
      sequential-keeps (InBfs key at search test body) its state e u k h =
          let i = search.iterator in
          let q = both-true (has_type ds V.Flag test) (is_typed_in ds result body) e in
          let r = split ds (uses_of_search search) (uses_in test ++ uses_of body) u in
          let r' = split ds (uses_in test) (uses_of body) r.1 in
          let j = both-true (takes_nodes table i) (tells table (i ∷ its) test && tells_in table (i ∷ its) body) k in
          let j' = both-true (tells table (i ∷ its) test) (tells_in table (i ∷ its) body) j.1 in
          led-with (λ n. n < node_count run.graph) its (node_of (view_of run state key) search.root search.place) (λ root. searched run root (levels run.graph root) key i test body state)
          (node_of-within (view_of run state key) search.root search.place)
          (λ root low. led-searched its root (levels run.graph root) key i test body state j.0 (levels-within run.graph root) q.0 r'.0 j'.0 q.1 r'.1 j'.1 h)
      sequential-keeps (InBfsBoth key at search test body back_key back_test back) its state e u k h =
          let i = search.iterator in
          let back_fine = has_type ds V.Flag back_test && is_typed_in ds result back in
          let q = both-true (has_type ds V.Flag test) (is_typed_in ds result body && back_fine) e in
          let q' = both-true (is_typed_in ds result body) back_fine q.1 in
          let q'' = both-true (has_type ds V.Flag back_test) (is_typed_in ds result back) q'.1 in
          let r = split ds (uses_of_search search) (uses_in test ++ (uses_of body ++ (uses_in back_test ++ uses_of back))) u in
          let r1 = split ds (uses_in test) (uses_of body ++ (uses_in back_test ++ uses_of back)) r.1 in
          let r2 = split ds (uses_of body) (uses_in back_test ++ uses_of back) r1.1 in
          let r3 = split ds (uses_in back_test) (uses_of back) r2.1 in
          let its' = i ∷ its in
          let back_tells = tells table its' back_test && tells_in table its' back in
          let j = both-true (takes_nodes table i) (tells table its' test && (tells_in table its' body && back_tells)) k in
          let j1 = both-true (tells table its' test) (tells_in table its' body && back_tells) j.1 in
          let j2 = both-true (tells_in table its' body) back_tells j1.1 in
          let j3 = both-true (tells table its' back_test) (tells_in table its' back) j2.1 in
          led-with (λ n. n < node_count run.graph) its (node_of (view_of run state key) search.root search.place)
          (λ root. then_do (searched run root (levels run.graph root) key i test body state) (searched run root (reverse (levels run.graph root)) back_key i back_test back))
          (node_of-within (view_of run state key) search.root search.place)
          (λ root low. led-then its (searched run root (levels run.graph root) key i test body state) (searched run root (reverse (levels run.graph root)) back_key i back_test back)
          (led-searched its root (levels run.graph root) key i test body state j.0 (levels-within run.graph root) q.0 r1.0 j1.0 q'.0 r2.0 j2.0 h)
          (λ t g. led-searched its root (reverse (levels run.graph root)) back_key i back_test back t j.0 (each-reverse (NodesOf run.graph) (levels run.graph root) (levels-within run.graph root)) q''.0 r3.0 j3.0 q''.1 r3.1 j3.1 g))
      sequential-keeps (Return key at None) its state e u k h = (returned-nothing result e, h)
      sequential-keeps (Return key at (Some a)) its state e u k h =
          let w = view_of run state key in
          led-with (λ v. IsTypedResult limit result (Some v)) its (value a w) (λ v. Returns (Some v) state)
          (returned-value (value a w) a result e (λ t is. value-gives table a its w t (view-typed its state key h) is u k)) (λ v g. (g, h))
