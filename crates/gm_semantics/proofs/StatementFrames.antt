-- Loops and statements of a sequential phase read what they name alone.
use Rattle.std.proofs.Common.{◌≡◌, ◌<◌, ℕ, zero, suc, Bool, true, false, List, [], ◌∷◌, ◌++◌, map, refl, sym, ap, subst, ◌∙◌, Option, Some, None, Result, Ok, Err}
use Rattle.std.specs.Prelude.{nat_eq, nat_lt, if◌then◌else◌, reverse}
use Rattle.gm_value.specs.declared.values.VType.{VType}
use Rattle.gm_value.specs.declared.values.Value.{Value}
use Rattle.gm_value.specs.declared.values.Value.TheVariants.{At}
use Rattle.gm_value.specs.Numbers.{zero_of}
use Rattle.gm_value.specs.Operations.{is_true}
use Rattle.gm_ast.specs.declared.tree.Key.{Key}
use Rattle.gm_ast.specs.declared.tree.Sort.{Sort}
use Rattle.gm_ast.specs.declared.tree.Sort.TheVariants as Sorts
use Rattle.gm_ast.specs.declared.tree.Target.TheVariants as T
use Rattle.gm_ast.specs.Program.{Expr, always, Stmt, Skip, Then, Declare, DeclareEdge, Assign, Defer, Combine, Group, Foreach, For, If, While, Do, InBfs, InBfsBoth, Return}
use Rattle.gm_semantics.specs.declared.faults.Fault.{Fault}
use Rattle.gm_semantics.specs.declared.slots.Slot.{Slot}
use Rattle.gm_semantics.specs.declared.slots.Slot.TheVariants.{Scalar}
use Rattle.gm_semantics.specs.declared.slots.Write.{Write}
use Rattle.gm_semantics.specs.Levels.{nodes, level_of, levels, no_levels}
use Rattle.gm_semantics.specs.Stores.{Store, write, overlaid}
use Rattle.gm_semantics.specs.Faults.{least, unless_fault, somes, joined}
use Rattle.gm_semantics.specs.Contributions.{settled_store, total_faults}
use Rattle.gm_semantics.specs.Expressions.{Answer, value, settled}
use Rattle.gm_semantics.specs.Iterations.{Loop, Iteration, Outermost, does}
use Rattle.gm_semantics.specs.Loops.{iteration, left_at, own_left, loop_done, parallel}
use Rattle.gm_semantics.specs.Statements.{Run, State, Course, Goes, Returns, Faults, Stops, variable_at, loop_of, view_of, with_value, then_do, either_way, with_store, stopped, begin_turn, repeated, in_turns, writes, writes_all, loops, declared, sequential}
use Rattle.gm_semantics.specs.Frames.{Agree, ReadsBelow, NamesBelow, AlikeStores, AlikeStates, AlikeCourses}
use Rattle.gm_semantics.proofs.ExpressionFrames.{agree-write, node_of-frame, evaluated-frame}
use Rattle.gm_semantics.proofs.BodyFrames.{agree-write_all, at_once-frame, assign-frame, settled-agree, total_faults-agree, EachAlike, each-mapped, outermost-joined, deferred-joined, faults-mapped, outermost-all_below, turn-alike, does-alike}

module _ (k : ℕ) where
  left-agree : (ks : List ℕ) (xs ys : List Iteration) (s t : Store) → EachAlike k xs ys → Agree k s t → (p n : ℕ) → p < k → left_at ks ys t p n ≡ left_at ks xs s p n
  left-agree [] xs ys s t each h p n b = h.node p n b
  left-agree (i ∷ ks) [] [] s t each h p n b = h.node p n b
  left-agree (i ∷ ks) [] (y ∷ ys) s t each h p n b = absurd each
  left-agree (i ∷ ks) (x ∷ xs) [] s t each h p n b = absurd each
  left-agree (i ∷ ks) (x ∷ xs) (y ∷ ys) s t each h p n b =
      ap (λ v. if nat_eq i n then v else left_at ks ys t p n) (each.0.store.node p n b) ∙ ap (λ v. if nat_eq i n then x.store.node p n else v) (left-agree ks xs ys s t each.1 h p n b)

  overlaid-agree : (ws : List Write) (s t : Store) → Agree k s t → Agree k (overlaid s ws) (overlaid t ws)
  overlaid-agree [] s t h = h
  overlaid-agree (w ∷ ws) s t h = overlaid-agree ws _ _ (agree-write k s t w.slot w.value h)

  stores-alike : (o : Option Fault) (s t : Store) → Agree k s t → AlikeStores k (unless_fault o (Ok s)) (unless_fault o (Ok t))
  stores-alike None s t h = h
  stores-alike (Some f) s t h = refl

  done-alike : (ks : List ℕ) (xs ys : List Iteration) (s t : Store) → EachAlike k xs ys → Agree k s t → AlikeStores k (loop_done s ks xs) (loop_done t ks ys)
  done-alike ks xs ys s t each h =
      let own = own_left s ks xs in
      let own' = own_left t ks ys in
      let cs = joined (map (λ (it : Iteration). it.with_outermost) xs) in
      let ds = joined (map (λ (it : Iteration). it.with_outermost) ys) in
      let ws = joined (map (λ (it : Iteration). it.deferred) xs) in
      let us = joined (map (λ (it : Iteration). it.deferred) ys) in
      let o = least (somes (map (λ (it : Iteration). it.fault) xs) ++ total_faults own cs) in
      let agree : Agree k own own' = record { scalar = h.scalar; node = left-agree ks xs ys s t each h; edge = h.edge } in
      let faults : least (somes (map (λ (it : Iteration). it.fault) ys) ++ total_faults own' ds) ≡ o =
      ap (λ os. least (somes os ++ total_faults own' ds)) (faults-mapped k xs ys each)
      ∙ ap (λ ds. least (somes (map (λ (it : Iteration). it.fault) xs) ++ total_faults own' ds)) (outermost-joined k xs ys each)
      ∙ ap (λ fs. least (somes (map (λ (it : Iteration). it.fault) xs) ++ fs)) (total_faults-agree k own own' cs (outermost-all_below k xs ys each) agree) in
      subst (λ q. AlikeStores k (unless_fault o (Ok (overlaid (settled_store own cs) ws))) (unless_fault q (Ok (overlaid (settled_store own' ds) us)))) (sym faults)
      (subst (λ ds. AlikeStores k (unless_fault o (Ok (overlaid (settled_store own cs) ws))) (unless_fault o (Ok (overlaid (settled_store own' ds) us)))) (sym (outermost-joined k xs ys each))
      (subst (λ us. AlikeStores k (unless_fault o (Ok (overlaid (settled_store own cs) ws))) (unless_fault o (Ok (overlaid (settled_store own' cs) us)))) (sym (deferred-joined k xs ys each))
      (stores-alike o _ _ (overlaid-agree ws _ _ (settled-agree k own own' cs (outermost-all_below k xs ys each) agree)))))

  -- the frame of a parallel loop
  pub parallel-alike : (loop : Loop) (key : Key) (test : Expr) (body : Stmt) (ks : List ℕ) (s t : Store) → ReadsBelow k test → NamesBelow k body → Agree k s t →
      AlikeStores k (parallel loop key test body ks s) (parallel loop key test body ks t)
  parallel-alike loop key test body ks s t b n h =
      done-alike ks _ _ s t
      (each-mapped k (iteration loop key test body s) (iteration loop key test body t) ks
      (λ i. turn-alike k loop Outermost key test (does body Outermost loop) loop.outer i s t b h (λ x y g. does-alike k body Outermost loop x y n g))) h

  -- courses
  courses-with : {A : Type 0} (r q : Result A Fault) (f g : A → Course) → q ≡ r → ((x : A) → AlikeCourses k (f x) (g x)) → AlikeCourses k (with_value r f) (with_value q g)
  courses-with {A = A} r q f g e each = subst (λ q. AlikeCourses k (with_value r f) (with_value q g)) (sym e) (same r)
    where
      same : (r : Result A Fault) → AlikeCourses k (with_value r f) (with_value r g)
      same (Ok x) = each x
      same (Err f) = refl

  courses-then : (c d : Course) (f g : State → Course) → AlikeCourses k c d → ((s t : State) → AlikeStates k s t → AlikeCourses k (f s) (g t)) → AlikeCourses k (then_do c f) (then_do d g)
  courses-then (Goes s) (Goes t) f g h each = each s t h
  courses-then (Goes s) (Returns u t) f g h each = absurd h
  courses-then (Goes s) (Faults e) f g h each = absurd h
  courses-then (Goes s) Stops f g h each = absurd h
  courses-then (Returns v s) (Goes t) f g h each = absurd h
  courses-then (Returns v s) (Returns u t) f g h each = h
  courses-then (Returns v s) (Faults e) f g h each = absurd h
  courses-then (Returns v s) Stops f g h each = absurd h
  courses-then (Faults e) (Goes t) f g h each = absurd h
  courses-then (Faults e) (Returns u t) f g h each = absurd h
  courses-then (Faults e) (Faults e') f g h each = h
  courses-then (Faults e) Stops f g h each = absurd h
  courses-then Stops (Goes t) f g h each = absurd h
  courses-then Stops (Returns u t) f g h each = absurd h
  courses-then Stops (Faults e) f g h each = absurd h
  courses-then Stops Stops f g h each = tt

  courses-either : (b : Bool) (f g f' g' : State → Course) (s t : State) → AlikeCourses k (f s) (f' t) → AlikeCourses k (g s) (g' t) → AlikeCourses k (either_way b f g s) (either_way b f' g' t)
  courses-either true f g f' g' s t h i = h
  courses-either false f g f' g' s t h i = i

  goes-write : (s t : State) (slot : Slot) (v : Value) → AlikeStates k s t → AlikeStates k (record s { store = write s.store slot v }) (record t { store = write t.store slot v })
  goes-write s t slot v h = record { store = agree-write k s.store t.store slot v h.store; turns = h.turns }

  courses-writes : (s t : State) (r q : Result (Slot × Value) Fault) → q ≡ r → AlikeStates k s t → AlikeCourses k (writes s r) (writes t q)
  courses-writes s t r q e h = courses-with r q _ _ e (λ p. goes-write s t p.0 p.1 h)

  courses-writes_all : (s t : State) (r q : Result (List Slot × List Value) Fault) → q ≡ r → AlikeStates k s t → AlikeCourses k (writes_all s r) (writes_all t q)
  courses-writes_all s t r q e h = courses-with r q _ _ e (λ p. record { store = agree-write_all k s.store t.store p.0 p.1 h.store; turns = h.turns })

  courses-turn : (run : Run) (f g : State → Course) (s t : State) → AlikeStates k s t → ((a b : State) → AlikeStates k a b → AlikeCourses k (f a) (g b)) → AlikeCourses k (begin_turn run f s) (begin_turn run g t)
  courses-turn run f g s t h each =
      subst (λ n. AlikeCourses k (begin_turn run f s) (either_way (nat_lt n run.bound) g stopped (record { store = t.store; turns = suc n }))) (sym h.turns)
      (courses-either (nat_lt s.turns run.bound) f stopped g stopped _ _ (each _ _ (record { store = h.store; turns = refl })) tt)

  value-same : (e : Expr) (run : Run) (key : Key) (s t : State) → ReadsBelow k e → AlikeStates k s t → value e (view_of run t key) ≡ value e (view_of run s key)
  value-same e run key s t b h = ap settled (evaluated-frame k e (view_of run s key) t.store b h.store)

  courses-repeated : (n : ℕ) (run : Run) (test : State → Answer) (body : State → Course) (s t : State) → AlikeStates k s t →
      ((a b : State) → AlikeStates k a b → test b ≡ test a) → ((a b : State) → AlikeStates k a b → AlikeCourses k (body a) (body b)) →
      AlikeCourses k (repeated n run test body s) (repeated n run test body t)
  courses-repeated zero run test body s t h asks does = tt
  courses-repeated (suc n) run test body s t h asks does =
      courses-with (test s) (test t) _ _ (asks s t h)
      (λ v. courses-either (is_true v) _ Goes _ Goes s t
      (courses-turn run _ _ s t h (λ a b g. courses-then (body a) (body b) _ _ (does a b g) (λ c d i. courses-repeated n run test body c d i asks does))) h)

  courses-in_turns : {A : Type 0} (run : Run) (xs : List A) (body : A → State → Course) (s t : State) → AlikeStates k s t →
      ((x : A) (a b : State) → AlikeStates k a b → AlikeCourses k (body x a) (body x b)) → AlikeCourses k (in_turns run xs body s) (in_turns run xs body t)
  courses-in_turns run [] body s t h does = h
  courses-in_turns run (x ∷ xs) body s t h does =
      courses-turn run _ _ s t h (λ a b g. courses-then (body x a) (body x b) _ _ (does x a b g) (λ c d i. courses-in_turns run xs body c d i does))

  courses-stores : (s t : State) (r q : Result Store Fault) → AlikeStores k r q → AlikeStates k s t → AlikeCourses k (with_value r (with_store s)) (with_value q (with_store t))
  courses-stores s t (Ok u) (Ok v) a h = record { store = a; turns = h.turns }
  courses-stores s t (Ok u) (Err f) a h = absurd a
  courses-stores s t (Err f) (Ok v) a h = absurd a
  courses-stores s t (Err f) (Err g) a h = a

  courses-loops : (run : Run) (ls : ℕ → Option ℕ) (x : ℕ) (key : Key) (test : Expr) (body : Stmt) (ks : List ℕ) (s t : State) → ReadsBelow k test → NamesBelow k body → AlikeStates k s t →
      AlikeCourses k (loops run ls x key test body ks s) (loops run ls x key test body ks t)
  courses-loops run ls x key test body ks s t b n h =
      courses-stores s t _ _ (parallel-alike (loop_of run ls x body) key test body ks s.store t.store b n h.store) h

  declared-agree : (sort : Sort) (ty : VType) (x : ℕ) (s t : Store) → Agree k s t → Agree k (declared sort ty x s) (declared sort ty x t)
  declared-agree Sorts.Graph ty x s t h = h
  declared-agree Sorts.Iterator ty x s t h = h
  declared-agree Sorts.Scalar ty x s t h = agree-write k s t (Scalar x) (zero_of ty) h
  declared-agree Sorts.Edge ty x s t h = h
  declared-agree Sorts.NodeProperty ty x s t h = record { scalar = h.scalar; node = λ q m b. ap (λ u. if nat_eq x q then zero_of ty else u) (h.node q m b); edge = h.edge }
  declared-agree Sorts.EdgeProperty ty x s t h = h

  -- the frame of a statement of a sequential phase
  pub sequential-alike : (s : Stmt) (run : Run) (a b : State) → NamesBelow k s → AlikeStates k a b → AlikeCourses k (sequential s run a) (sequential s run b)
  sequential-alike Skip run a b n h = h
  sequential-alike (Then s u) run a b n h = courses-then _ _ _ _ (sequential-alike s run a b n.0 h) (λ c d g. sequential-alike u run c d n.1 g)
  sequential-alike (Declare key x None) run a b n h =
      record { store = declared-agree (variable_at run.declarations x).sort (variable_at run.declarations x).vtype x a.store b.store h.store; turns = h.turns }
  sequential-alike (Declare key x (Some e)) run a b n h = courses-with _ _ _ _ (value-same e run key a b n.1 h) (λ v. goes-write a b (Scalar x) v h)
  sequential-alike (DeclareEdge x y at) run a b n h = h
  sequential-alike (Assign key t e) run a b n h = courses-writes a b _ _ (assign-frame k (view_of run a key) b.store t e n.0 n.1 h.store) h
  sequential-alike (Defer key t e) run a b n h = h
  sequential-alike (Combine key total r ts es) run a b n h =
      courses-writes_all a b _ _ (at_once-frame k (view_of run a key) b.store total.place r ts es n.0 n.1 h.store) h
  sequential-alike (Group key at g p e) run a b n h =
      courses-loops run no_levels g key always (Assign key (T.Property g p at) e) (nodes run.graph) a b tt ((n.0, n.1), n.2) h
  sequential-alike (Foreach key at head test body) run a b n h = courses-loops run no_levels head.iterator key test body (nodes run.graph) a b n.2 n.3 h
  sequential-alike (For key at head test body) run a b n h =
      courses-in_turns run (nodes run.graph) _ a b h (λ i c d g.
      let u = goes-write c d (Scalar head.iterator) (At (Some i)) g in
      courses-with _ _ _ _ (value-same test run key _ _ n.2 u) (λ v. courses-either (is_true v) _ Goes _ Goes _ _ (sequential-alike body run _ _ n.3 u) u))
  sequential-alike (If key c s u) run a b n h =
      courses-with _ _ _ _ (value-same c run key a b n.0 h) (λ v. courses-either (is_true v) _ _ _ _ a b (sequential-alike s run a b n.1 h) (sequential-alike u run a b n.2 h))
  sequential-alike (While key at c body) run a b n h =
      courses-repeated (suc run.bound) run _ _ a b h (λ s t g. value-same c run key s t n.0 g) (λ s t g. sequential-alike body run s t n.1 g)
  sequential-alike (Do key at body c) run a b n h =
      courses-turn run _ _ a b h (λ s t g. courses-then _ _ _ _ (sequential-alike body run s t n.0 g)
      (λ u v i. courses-repeated (suc run.bound) run _ _ u v i (λ s t g. value-same c run key s t n.1 g) (λ s t g. sequential-alike body run s t n.0 g)))
  sequential-alike (InBfs key at search c body) run a b n h =
      courses-with _ _ _ _ (node_of-frame k (view_of run a key) b.store search.root search.place n.1 h.store)
      (λ r. courses-in_turns run (levels run.graph r) _ a b h (λ ks s t g. courses-loops run (level_of run.graph r) search.iterator key c body ks s t n.2 n.3 g))
  sequential-alike (InBfsBoth key at search c body back_key d back) run a b n h =
      courses-with _ _ _ _ (node_of-frame k (view_of run a key) b.store search.root search.place n.1 h.store)
      (λ r. courses-then _ _ _ _
      (courses-in_turns run (levels run.graph r) _ a b h (λ ks s t g. courses-loops run (level_of run.graph r) search.iterator key c body ks s t n.2 n.3 g))
      (λ u v i. courses-in_turns run (reverse (levels run.graph r)) _ u v i (λ ks s t g. courses-loops run (level_of run.graph r) search.iterator back_key d back ks s t n.4 n.5 g)))
  sequential-alike (Return key at None) run a b n h = (refl, h)
  sequential-alike (Return key at (Some e)) run a b n h = courses-with _ _ _ _ (value-same e run key a b n h) (λ v. (refl, h))
