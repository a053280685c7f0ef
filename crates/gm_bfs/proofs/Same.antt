-- A program means the same when its searches are loops.
use Rattle.std.proofs.Common.{◌≡◌, ◌<◌, ◌≤◌, ◌+◌, ℕ, zero, suc, Bool, true, false, cond, List, [], ◌∷◌, ◌++◌, map, length, reverse, refl, sym, ap, subst, ◌∙◌, arith, Option, Some, None, Result, Ok, Err}
use Rattle.std.specs.Prelude.{◌&&◌, nat_lt, nat_le}
use Rattle.std.specs.List.{list_all}
use Rattle.std.proofs.lemmas.Bool.{leb-true, ltb-true}
use Rattle.gm_base.specs.declared.places.Place.{Place}
use Rattle.gm_value.specs.declared.values.Value.{Value}
use Rattle.gm_value.specs.declared.values.Value.TheVariants.{I32, I64, Flag, At}
use Rattle.gm_value.specs.declared.operations.Op2.TheVariants.{Ge}
use Rattle.gm_value.specs.Operations.{is_true}
use Rattle.gm_model.specs.Graphs.{NumberedGraph, IsGraph, node_count}
use Rattle.gm_ast.specs.declared.tree.Declaration.{Declaration}
use Rattle.gm_ast.specs.declared.tree.Key.{Key}
use Rattle.gm_ast.specs.declared.tree.Search.{Search}
use Rattle.gm_ast.specs.Program.{Expr, Binary, Stmt, Skip, Then, Declare, DeclareEdge, Assign, Defer, Combine, Group, Foreach, For, If, While, Do, InBfs, InBfsBoth, Return, Program, sequence}
use Rattle.gm_semantics.specs.declared.faults.Fault.{Fault}
use Rattle.gm_semantics.specs.declared.slots.Slot.TheVariants.{Scalar}
use Rattle.gm_semantics.specs.Levels.{numbers_from, nodes, node_in, level_of, levels}
use Rattle.gm_semantics.specs.Stores.{write}
use Rattle.gm_semantics.specs.Expressions.{Answer, node_held, value, settled}
use Rattle.gm_semantics.specs.Statements.{Run, State, Course, Goes, Returns, Faults, Stops, variable_at, view_of, with_value, then_do, either_way, stopped, begin_turn, repeated, in_turns, loops, searched, sequential}
use Rattle.gm_semantics.specs.Frames.{ReadsBelow, NamesBelow, AlikeStates, AlikeCourses}
use Rattle.gm_semantics.proofs.ExpressionFrames.{agree-write, evaluated-frame}
use Rattle.gm_semantics.proofs.StatementFrames.{sequential-alike}
use Rattle.gm_forms.specs.Extends.{Extends, run_of, start_of}
use Rattle.gm_forms.specs.Forms.{is_flat_loop, is_phase, is_told, is_desugared}
use Rattle.gm_forms.specs.Meanings.{SameMeaning}
use Rattle.gm_forms.specs.Uses.{Iterates, Anything, Owner, use_as, suits, uses_of_head, uses_of_search, uses_in, uses_of, is_named}
use Rattle.gm_forms.proofs.Named.{both-true, all-append, names-below}
use Rattle.gm_forms.proofs.Tables.{same-alike}
use Rattle.gm_bfs.specs.declared.fresh.Fresh.{Fresh}
use Rattle.gm_bfs.specs.declared.fresh.Site.{Site}
use Rattle.gm_bfs.specs.Variables.{filter_key, fresh_from, fresh_declarations, copy_declaration, with_fresh}
use Rattle.gm_bfs.specs.Copies.{copied}
use Rattle.gm_bfs.specs.Searches.{number, scalar, begin, forward, back_turn, backward, level_before, site_of, search_out, search_both}
use Rattle.gm_bfs.specs.Levelled.{searches_out, has_search, levelled}
use Rattle.gm_bfs.proofs.LevelFacts.{level-below, root-level}
use Rattle.gm_bfs.proofs.Cells.{before}
use Rattle.gm_bfs.proofs.Depths.{at-level, some-on, AllLevels, all-levels}
use Rattle.gm_bfs.proofs.Visits.{Part}
use Rattle.gm_bfs.proofs.Steps.{then-to, written, unwritten, agree-step, level_before-to}
use Rattle.gm_bfs.proofs.Turns.{Follow, follow-then, follow-after, follow-alike}
use Rattle.gm_bfs.proofs.Forward.{Head}
use Rattle.gm_bfs.proofs.Whiles.{forward-levels}
use Rattle.gm_bfs.proofs.Begins.{begins, begin-faults}
use Rattle.gm_bfs.proofs.Backward.{Left, backward-levels}
use Rattle.gm_bfs.proofs.Parts.{Scalars, Properties, part-of, copied-short}
use Rattle.gm_bfs.proofs.Form.{variable-before, depth-fresh}

-- three courses one after another
then-then : (c : Course) (f g : State → Course) → then_do (then_do c f) g ≡ then_do c (λ s. then_do (f s) g)
then-then (Goes s) f g = refl
then-then (Returns v s) f g = refl
then-then (Faults e) f g = refl
then-then Stops f g = refl

-- courses that are alike, one after another
module _ (k : ℕ) where
  with-alike : {A : Type 0} (r q : Result A Fault) (f g : A → Course) → q ≡ r → ((x : A) → AlikeCourses k (f x) (g x)) → AlikeCourses k (with_value r f) (with_value q g)
  with-alike {A = A} r q f g e each = subst (λ q. AlikeCourses k (with_value r f) (with_value q g)) (sym e) (same r)
    where
      same : (r : Result A Fault) → AlikeCourses k (with_value r f) (with_value r g)
      same (Ok x) = each x
      same (Err f) = refl

  then-alike : (c d : Course) (f g : State → Course) → AlikeCourses k c d → ((s t : State) → AlikeStates k s t → AlikeCourses k (f s) (g t)) → AlikeCourses k (then_do c f) (then_do d g)
  then-alike (Goes s) (Goes t) f g h each = each s t h
  then-alike (Goes s) (Returns u t) f g h each = absurd h
  then-alike (Goes s) (Faults e) f g h each = absurd h
  then-alike (Goes s) Stops f g h each = absurd h
  then-alike (Returns v s) (Goes t) f g h each = absurd h
  then-alike (Returns v s) (Returns u t) f g h each = h
  then-alike (Returns v s) (Faults e) f g h each = absurd h
  then-alike (Returns v s) Stops f g h each = absurd h
  then-alike (Faults e) (Goes t) f g h each = absurd h
  then-alike (Faults e) (Returns u t) f g h each = absurd h
  then-alike (Faults e) (Faults e') f g h each = h
  then-alike (Faults e) Stops f g h each = absurd h
  then-alike Stops (Goes t) f g h each = absurd h
  then-alike Stops (Returns u t) f g h each = absurd h
  then-alike Stops (Faults e) f g h each = absurd h
  then-alike Stops Stops f g h each = tt

  way-alike : (b : Bool) (f g f' g' : State → Course) (s t : State) → AlikeCourses k (f s) (f' t) → AlikeCourses k (g s) (g' t) → AlikeCourses k (either_way b f g s) (either_way b f' g' t)
  way-alike true f g f' g' s t h i = h
  way-alike false f g f' g' s t h i = i

  turn-alike : (run : Run) (f g : State → Course) (s t : State) → AlikeStates k s t → ((a b : State) → AlikeStates k a b → AlikeCourses k (f a) (g b)) → AlikeCourses k (begin_turn run f s) (begin_turn run g t)
  turn-alike run f g s t h each =
      subst (λ n. AlikeCourses k (begin_turn run f s) (either_way (nat_lt n run.bound) g stopped (record { store = t.store; turns = suc n }))) (sym h.turns)
      (way-alike (nat_lt s.turns run.bound) f stopped g stopped _ _ (each _ _ (record { store = h.store; turns = refl })) tt)

  value-alike : (e : Expr) (run : Run) (key : Key) (s t : State) → ReadsBelow k e → AlikeStates k s t → value e (view_of run t key) ≡ value e (view_of run s key)
  value-alike e run key s t b h = ap settled (evaluated-frame k e (view_of run s key) t.store b h.store)

  repeated-alike : (n : ℕ) (run : Run) (test : State → Answer) (f g : State → Course) (s t : State) → AlikeStates k s t → ((a b : State) → AlikeStates k a b → test b ≡ test a) → ((a b : State) → AlikeStates k a b → AlikeCourses k (f a) (g b)) →
      AlikeCourses k (repeated n run test f s) (repeated n run test g t)
  repeated-alike zero run test f g s t h asks does = tt
  repeated-alike (suc n) run test f g s t h asks does =
      with-alike (test s) (test t) _ _ (asks s t h)
      (λ v. way-alike (is_true v) _ Goes _ Goes s t (turn-alike run _ _ s t h (λ a b i. then-alike (f a) (g b) _ _ (does a b i) (λ c d j. repeated-alike n run test f g c d j asks does))) h)

  in_turns-alike : (run : Run) (xs : List ℕ) (f g : ℕ → State → Course) (s t : State) → AlikeStates k s t → ((x : ℕ) (a b : State) → AlikeStates k a b → AlikeCourses k (f x a) (g x b)) → AlikeCourses k (in_turns run xs f s) (in_turns run xs g t)
  in_turns-alike run [] f g s t h does = h
  in_turns-alike run (x ∷ xs) f g s t h does = turn-alike run _ _ s t h (λ a b i. then-alike (f x a) (g x b) _ _ (does x a b i) (λ c d j. in_turns-alike run xs f g c d j does))

-- a value that is a node of the graph
node-within : (g : NumberedGraph) (v : Value) (r : ℕ) → node_in g v ≡ Some r → r < node_count g
node-within g (At (Some n)) r e = by (nat_lt n (node_count g)) refl e
  where
    by : (b : Bool) → nat_lt n (node_count g) ≡ b → cond b (Some n) None ≡ Some r → r < node_count g
    by true h e = let is : n ≡ r = cc in let l = ltb-true n (node_count g) h in omega arith
    by false h e = absurd (cc)
node-within g (At None) r e = absurd (cc)
node-within g (I32 z) r e = absurd (cc)
node-within g (I64 z) r e = absurd (cc)
node-within g (Flag b) r e = absurd (cc)

module _ (ds : List Declaration) (run : Run) (ok : IsGraph run.graph) (table : run.declarations ≡ with_fresh ds) where
  abbrev k : ℕ
  k = length ds

  abbrev f : Fresh
  f = fresh_from k

  plain-found : (variable_at run.declarations f.found).depth ≡ 0
  plain-found = ap (λ (es : List Declaration). (variable_at es f.found).depth) table ∙ depth-fresh ds 5

  P-below : (y : ℕ) → Scalars ds k y → y < k
  P-below y h = h.0

  Q-below : (p : ℕ) → Properties ds k p → p < k
  Q-below p h = h

  -- one search
  module _ (key : Key) (search : Search) (us ts : State) (alike : AlikeStates k us ts) (root-low : search.root < k) where
    abbrev s : Site
    s = site_of key search

    roots-same : ts.store.scalar search.root ≡ us.store.scalar search.root
    roots-same = alike.store.scalar search.root root-low

    module _ (r : ℕ) (within : r < node_count run.graph) (holds : node_in run.graph (us.store.scalar search.root) ≡ Some r) (test : Expr) (body : Stmt) (part : Part (Scalars ds k) (Properties ds k) k search.iterator test body) where
      abbrev all : AllLevels run.graph r within
      all = all-levels run.graph r within

      abbrev Found : State → State → Type 0
      Found = Head (Scalars ds k) (Properties ds k) k P-below Q-below run ok r within plain-found s key search.iterator test body part (copied k body) (copied-short k body) all.depth

      -- the levels from the root's on
      forward-same : Follow Found (searched run r (levels run.graph r) key search.iterator test body us) (sequential (Then (begin s f key search.root) (forward s f k key search.iterator test body)) run ts)
      forward-same =
          let b = begins s k run r within key search.root ts (ap (node_in run.graph) roots-same ∙ holds) in
          let at : State = record ts { store = b.0 } in
          subst (λ xs. Follow Found (in_turns run xs (loops run (level_of run.graph r) search.iterator key test body) us) (sequential (Then (begin s f key search.root) (forward s f k key search.iterator test body)) run ts)) (sym all.lists)
          (subst (Follow Found (in_turns run (map (at-level run.graph r within) (numbers_from 0 all.depth)) (loops run (level_of run.graph r) search.iterator key test body) us))
          (sym (then-to run (begin s f key search.root) (forward s f k key search.iterator test body) ts b.0 b.1))
          (forward-levels (Scalars ds k) (Properties ds k) k P-below Q-below run ok r within plain-found s key search.iterator test body part (copied k body) (copied-short k body) all all.depth 0 run.bound (omega arith) us at
          (record {
            agree = agree-step k us.store ts.store b.0 alike.store b.2.scalar b.2.node b.2.edge;
            turns = alike.turns;
            found = b.2.found;
            current = b.2.current;
            more = b.2.more ∙ ap Flag (sym (some-on run.graph r within 0 (r, root-level run.graph r within)));
          })
          (omega arith)))

      depth-small : all.depth ≤ 2147483647
      depth-small = by all.depth (all.full)
        where
          by : (d : ℕ) → ((i : ℕ) → i < d → (n : ℕ) × (level_of run.graph r n ≡ Some i)) → d ≤ 2147483647
          by zero full = omega arith
          by (suc i) full = let h = full i (omega arith) in let b = level-below run.graph r within h.0 i h.1 in let n = ok.few_nodes in omega arith

      -- and back
      module _ (back_key : Key) (back_test : Expr) (back : Stmt) (back_part : Part (Scalars ds k) (Properties ds k) k search.iterator back_test back) where
        abbrev Back : State → State → Type 0
        Back = Left (Scalars ds k) (Properties ds k) k P-below Q-below run ok r within plain-found s back_key search.iterator back_test back back_part (copied k back) (copied-short k back) all.depth 0

        backward-same : (us' ts' : State) → Found us' ts' → Follow Back (searched run r (reverse (levels run.graph r)) back_key search.iterator back_test back us') (sequential (backward s f k back_key search.iterator back_test back) run ts')
        backward-same us' ts' h =
            let u = write ts'.store (Scalar f.current) (I32 (before all.depth)) in
            let at : State = record ts' { store = u } in
            let loop = While (filter_key s) s.place (Binary Ge s.place (scalar s f.current) (number 0)) (back_turn s f k back_key search.iterator back_test back) in
            let levels-back = backward-levels (Scalars ds k) (Properties ds k) k P-below Q-below run ok r within plain-found s back_key search.iterator back_test back back_part (copied k back) (copied-short k back) all.depth all.full all.depth run.bound (omega arith) us' at
            (record {
              agree = agree-step k us'.store ts'.store u h.agree (λ y b. unwritten ts'.store f.current y (I32 (before all.depth)) (λ e. omega arith)) (λ p m b. refl) refl;
              turns = h.turns;
              found = h.found;
              current = written ts'.store f.current (I32 (before all.depth));
            })
            (omega arith) in
            subst (λ xs. Follow Back (in_turns run (reverse xs) (loops run (level_of run.graph r) search.iterator back_key back_test back) us') (sequential (backward s f k back_key search.iterator back_test back) run ts')) (sym all.lists)
            (subst (Follow Back (in_turns run (reverse (map (at-level run.graph r within) (numbers_from 0 all.depth))) (loops run (level_of run.graph r) search.iterator back_key back_test back) us'))
            (sym (then-to run (level_before s f f.current) (sequence (loop ∷ [])) ts' u (level_before-to s k run ts' f.current all.depth depth-small h.current)))
            (follow-after Back Back (in_turns run (reverse (map (at-level run.graph r within) (numbers_from 0 all.depth))) (loops run (level_of run.graph r) search.iterator back_key back_test back) us') (sequential loop run at) (sequential Skip run) levels-back (λ a b l. l)))

        pub both-ways-same : AlikeCourses k (then_do (searched run r (levels run.graph r) key search.iterator test body us) (searched run r (reverse (levels run.graph r)) back_key search.iterator back_test back))
            (sequential (search_both f k key search test body back_key back_test back) run ts)
        both-ways-same =
            follow-alike k Back _ _
            (subst (Follow Back (then_do (searched run r (levels run.graph r) key search.iterator test body us) (searched run r (reverse (levels run.graph r)) back_key search.iterator back_test back)))
            (then-then (sequential (begin s f key search.root) run ts) (sequential (forward s f k key search.iterator test body) run) (sequential (Then (backward s f k back_key search.iterator back_test back) Skip) run))
            (follow-then Found Back (searched run r (levels run.graph r) key search.iterator test body us) (sequential (Then (begin s f key search.root) (forward s f k key search.iterator test body)) run ts)
            (searched run r (reverse (levels run.graph r)) back_key search.iterator back_test back) (sequential (Then (backward s f k back_key search.iterator back_test back) Skip) run) forward-same
            (λ us' ts' h. follow-after Back Back (searched run r (reverse (levels run.graph r)) back_key search.iterator back_test back us') (sequential (backward s f k back_key search.iterator back_test back) run ts') (sequential Skip run)
            (backward-same us' ts' h) (λ a b l. l))))
            (λ a b l. record { store = l.agree; turns = l.turns })

      one-way-same : AlikeCourses k (searched run r (levels run.graph r) key search.iterator test body us) (sequential (search_out f k key search test body) run ts)
      one-way-same =
          follow-alike k Found _ _
          (subst (Follow Found (searched run r (levels run.graph r) key search.iterator test body us))
          (then-then (sequential (begin s f key search.root) run ts) (sequential (forward s f k key search.iterator test body) run) (sequential Skip run))
          (follow-after Found Found (searched run r (levels run.graph r) key search.iterator test body us) (sequential (Then (begin s f key search.root) (forward s f k key search.iterator test body)) run ts) (sequential Skip run) forward-same (λ a b h. h)))
          (λ a b h. record { store = h.agree; turns = h.turns })

    -- where the root is no node both fault
    no-root : (rest : Stmt) (next : ℕ → Course) → node_in run.graph (us.store.scalar search.root) ≡ None → AlikeCourses k (with_value {A = ℕ} (node_held (view_of run us key) search.place None) next) (sequential (Then (begin s f key search.root) rest) run ts)
    no-root rest next none =
        subst (AlikeCourses k (with_value (node_held (view_of run us key) search.place None) next)) (sym (begin-faults s k run key search.root ts rest (ap (node_in run.graph) roots-same ∙ none))) refl

    search-same : (at : Place) (test : Expr) (body : Stmt) → Part (Scalars ds k) (Properties ds k) k search.iterator test body → AlikeCourses k (sequential (InBfs key at search test body) run us) (sequential (search_out f k key search test body) run ts)
    search-same at test body part = by (node_in run.graph (us.store.scalar search.root)) refl
      where
        by : (o : Option ℕ) → node_in run.graph (us.store.scalar search.root) ≡ o →
            AlikeCourses k (with_value (node_held (view_of run us key) search.place o) (λ r. searched run r (levels run.graph r) key search.iterator test body us)) (sequential (search_out f k key search test body) run ts)
        by None e = no-root (sequence (forward s f k key search.iterator test body ∷ [])) (λ r. searched run r (levels run.graph r) key search.iterator test body us) e
        by (Some r) e = one-way-same r (node-within run.graph (us.store.scalar search.root) r e) e test body part

    both-same : (at : Place) (test : Expr) (body : Stmt) (back_key : Key) (back_test : Expr) (back : Stmt) → Part (Scalars ds k) (Properties ds k) k search.iterator test body → Part (Scalars ds k) (Properties ds k) k search.iterator back_test back →
        AlikeCourses k (sequential (InBfsBoth key at search test body back_key back_test back) run us) (sequential (search_both f k key search test body back_key back_test back) run ts)
    both-same at test body back_key back_test back part back_part = by (node_in run.graph (us.store.scalar search.root)) refl
      where
        by : (o : Option ℕ) → node_in run.graph (us.store.scalar search.root) ≡ o →
            AlikeCourses k
            (with_value (node_held (view_of run us key) search.place o) (λ r. then_do (searched run r (levels run.graph r) key search.iterator test body us) (searched run r (reverse (levels run.graph r)) back_key search.iterator back_test back)))
            (sequential (search_both f k key search test body back_key back_test back) run ts)
        by None e =
            no-root (sequence (forward s f k key search.iterator test body ∷ backward s f k back_key search.iterator back_test back ∷ []))
            (λ r. then_do (searched run r (levels run.graph r) key search.iterator test body us) (searched run r (reverse (levels run.graph r)) back_key search.iterator back_test back)) e
        by (Some r) e = both-ways-same r (node-within run.graph (us.store.scalar search.root) r e) e test body part back_key back_test back back_part

  -- a whole phase
  abbrev Phase : Stmt → Type 0
  Phase b = is_phase (is_flat_loop ds false) (is_flat_loop ds true) ds b ≡ true

  phase-same : (b : Stmt) → list_all (suits ds) (uses_of b) ≡ true → NamesBelow k b → Phase b → (us ts : State) → AlikeStates k us ts → AlikeCourses k (sequential b run us) (sequential (searches_out f k b) run ts)
  phase-same Skip uses names form us ts alike = alike
  phase-same (Then a b) uses names form us ts alike =
      let u = all-append (suits ds) (uses_of a) (uses_of b) uses in
      let q = both-true (is_phase (is_flat_loop ds false) (is_flat_loop ds true) ds a) (is_phase (is_flat_loop ds false) (is_flat_loop ds true) ds b) form in
      then-alike k _ _ _ _ (phase-same a u.0 names.0 q.0 us ts alike) (λ c d h. phase-same b u.1 names.1 q.1 c d h)
  phase-same (Declare key x e) uses names form us ts alike = sequential-alike k (Declare key x e) run us ts names alike
  phase-same (DeclareEdge x y at) uses names form us ts alike = alike
  phase-same (Assign key t e) uses names form us ts alike = sequential-alike k (Assign key t e) run us ts names alike
  phase-same (Defer key t e) uses names form us ts alike = alike
  phase-same (Combine key total r vs es) uses names form us ts alike = sequential-alike k (Combine key total r vs es) run us ts names alike
  phase-same (Group key at g p e) uses names form us ts alike = sequential-alike k (Group key at g p e) run us ts names alike
  phase-same (Foreach key at head test body) uses names form us ts alike = sequential-alike k (Foreach key at head test body) run us ts names alike
  phase-same (For key at head test body) uses names form us ts alike =
      let u = all-append (suits ds) (uses_of_head head) (uses_in test ++ uses_of body) uses in
      let v = all-append (suits ds) (uses_in test) (uses_of body) u.1 in
      let q = both-true (is_told test) (is_phase (is_flat_loop ds false) (is_flat_loop ds true) ds body) form in
      in_turns-alike k run (nodes run.graph) _ _ us ts alike (λ n a b h.
      let at' : AlikeStates k (record a { store = write a.store (Scalar head.iterator) (At (Some n)) }) (record b { store = write b.store (Scalar head.iterator) (At (Some n)) }) =
      record { store = agree-write k a.store b.store (Scalar head.iterator) (At (Some n)) h.store; turns = h.turns } in
      with-alike k _ _ _ _ (value-alike k test run key _ _ names.2 at') (λ w. way-alike k (is_true w) _ Goes _ Goes _ _ (phase-same body v.1 names.3 q.1 _ _ at') at'))
  phase-same (If key c a b) uses names form us ts alike =
      let u = all-append (suits ds) (uses_in c) (uses_of a ++ uses_of b) uses in
      let v = all-append (suits ds) (uses_of a) (uses_of b) u.1 in
      let q = both-true (is_told c) (is_phase (is_flat_loop ds false) (is_flat_loop ds true) ds a && is_phase (is_flat_loop ds false) (is_flat_loop ds true) ds b) form in
      let r = both-true (is_phase (is_flat_loop ds false) (is_flat_loop ds true) ds a) (is_phase (is_flat_loop ds false) (is_flat_loop ds true) ds b) q.1 in
      with-alike k _ _ _ _ (value-alike k c run key us ts names.0 alike) (λ w. way-alike k (is_true w) _ _ _ _ us ts (phase-same a v.0 names.1 r.0 us ts alike) (phase-same b v.1 names.2 r.1 us ts alike))
  phase-same (While key at c body) uses names form us ts alike =
      let u = all-append (suits ds) (uses_in c) (uses_of body) uses in
      let q = both-true (is_told c) (is_phase (is_flat_loop ds false) (is_flat_loop ds true) ds body) form in
      repeated-alike k (suc run.bound) run _ _ _ us ts alike (λ a b h. value-alike k c run key a b names.0 h) (λ a b h. phase-same body u.1 names.1 q.1 a b h)
  phase-same (Do key at body c) uses names form us ts alike =
      let u = all-append (suits ds) (uses_of body) (uses_in c) uses in
      let q = both-true (is_phase (is_flat_loop ds false) (is_flat_loop ds true) ds body) (is_told c) form in
      turn-alike k run _ _ us ts alike (λ a b h. then-alike k _ _ _ _ (phase-same body u.0 names.0 q.0 a b h)
      (λ c' d i. repeated-alike k (suc run.bound) run _ _ _ c' d i (λ a b h. value-alike k c run key a b names.1 h) (λ a b h. phase-same body u.0 names.0 q.0 a b h)))
  phase-same (InBfs key at search test body) uses names form us ts alike =
      let u = all-append (suits ds) (uses_of_search search) (uses_in test ++ uses_of body) uses in
      let v = all-append (suits ds) (uses_in test) (uses_of body) u.1 in
      let it = all-append (suits ds) (use_as Iterates search.iterator) (use_as Anything search.graph ++ use_as Owner search.root) u.0 in
      search-same key search us ts alike names.1 at test body (part-of ds k search.iterator test body names.0 it.0 names.2 names.3 v.1 form)
  phase-same (InBfsBoth key at search test body back_key back_test back) uses names form us ts alike =
      let u = all-append (suits ds) (uses_of_search search) (uses_in test ++ (uses_of body ++ (uses_in back_test ++ uses_of back))) uses in
      let v = all-append (suits ds) (uses_in test) (uses_of body ++ (uses_in back_test ++ uses_of back)) u.1 in
      let w = all-append (suits ds) (uses_of body) (uses_in back_test ++ uses_of back) v.1 in
      let z = all-append (suits ds) (uses_in back_test) (uses_of back) w.1 in
      let it = all-append (suits ds) (use_as Iterates search.iterator) (use_as Anything search.graph ++ use_as Owner search.root) u.0 in
      let q = both-true (is_flat_loop ds true search.iterator test body) (is_flat_loop ds true search.iterator back_test back) form in
      both-same key search us ts alike names.1 at test body back_key back_test back (part-of ds k search.iterator test body names.0 it.0 names.2 names.3 w.0 q.0) (part-of ds k search.iterator back_test back names.0 it.0 names.4 names.5 z.1 q.1)
  phase-same (Return key at e) uses names form us ts alike = sequential-alike k (Return key at e) run us ts names alike

-- the law of the pass
pub levelled-same : (p : Program) → is_named p ≡ true → is_desugared p ≡ true → SameMeaning p (levelled p)
levelled-same p named form = by (has_search p.body)
  where
    by : (b : Bool) → SameMeaning p (cond b (record p { declarations = with_fresh p.declarations; body = searches_out (fresh_from (length p.declarations)) (length p.declarations) p.body }) p)
    by false = record { fits = λ g args h. h; same = λ g args bound h. refl }
    by true =
        let ds : List Declaration = p.declarations in
        let q : Program = record p { declarations = with_fresh ds; body = searches_out (fresh_from (length ds)) (length ds) p.body } in
        let u = both-true (nat_le (p.inputs + p.outputs) (length ds)) (list_all (suits ds) (uses_of p.body)) named in
        let names = names-below ds p.body u.1 in
        let more : Extends (length ds) p q = record { inputs = refl; outputs = refl; result = refl; within = leb-true (p.inputs + p.outputs) (length ds) u.0; variables = variable-before ds (fresh_declarations ++ map copy_declaration ds) } in
        same-alike (length ds) p q more names
        (λ g args bound fits. phase-same ds (run_of q g bound) fits.graph refl p.body u.1 names form (start_of q g args) (start_of q g args)
        (record { store = record { scalar = λ x b. refl; node = λ x n b. refl; edge = λ x e b. refl }; turns = refl }))
