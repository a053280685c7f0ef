-- A sequential phase with the reductions of its loops and searches as inner loops goes alike.
use Rattle.std.proofs.Common.{◌≡◌, ◌≤◌, ◌<◌, ◌+◌, ◌++◌, ℕ, suc, Bool, true, false, List, [], ◌∷◌, length, refl, sym, ap, subst, ◌∙◌, arith, Option, Some, None, Result, Ok, Err, ⊎_elim, inl, inr}
use Rattle.std.specs.Prelude.{◌⊎◌, ◌&&◌, ◌||◌, not, nat_eq, reverse}
use Rattle.std.proofs.Math.Path.{fun_ext}
use Rattle.std.proofs.lemmas.List.{length-append}
use Rattle.gm_base.specs.declared.places.Place.{Place}
use Rattle.gm_value.specs.declared.values.VType.{VType}
use Rattle.gm_value.specs.declared.values.Value.TheVariants.{At}
use Rattle.gm_value.specs.Operations.{is_true}
use Rattle.gm_ast.specs.declared.tree.Declaration.{Declaration}
use Rattle.gm_model.specs.Graphs.{node_count}
use Rattle.gm_ast.specs.declared.tree.Domain.{Domain}
use Rattle.gm_ast.specs.declared.tree.Domain.TheVariants as D
use Rattle.gm_ast.specs.declared.tree.Key.{Key}
use Rattle.gm_ast.specs.declared.tree.Search.{Search}
use Rattle.gm_ast.specs.declared.tree.Target.TheVariants as T
use Rattle.gm_ast.specs.Loops.{is_nodes}
use Rattle.gm_ast.specs.Ways.{is_in}
use Rattle.gm_ast.specs.Program.{Expr, Const, Var, Property, EdgeProperty, Degree, NodeCount, EdgeCount, Live, Unary, Binary, Both, Either, Choose, Folded, Stmt, Then, Foreach, For, If, While, Do, InBfs, InBfsBoth}
use Rattle.gm_semantics.specs.declared.faults.Fault.{Fault}
use Rattle.gm_semantics.specs.declared.slots.Slot.TheVariants.{Scalar}
use Rattle.gm_semantics.specs.Levels.{nodes, level_of, levels, no_levels, node_in}
use Rattle.gm_semantics.specs.Stores.{write}
use Rattle.gm_semantics.specs.Faults.{then_with}
use Rattle.gm_semantics.specs.Expressions.{View, early, value, node_held, node_of}
use Rattle.gm_semantics.specs.Frames.{ReadsBelow, NamesBelow, AlikeStates, AlikeCourses}
use Rattle.gm_semantics.specs.Iterations.{assigned}
use Rattle.gm_semantics.specs.Statements.{Run, State, Course, Goes, Returns, Faults, Stops, loop_of, view_of, with_value, then_do, writes, loops, searched, sequential}
use Rattle.gm_semantics.proofs.StatementFrames.{sequential-alike}
use Rattle.gm_semantics.proofs.ExpressionFrames.{agree-write, node_of-frame}
use Rattle.gm_forms.specs.Doing.{IsNode, Held}
use Rattle.gm_forms.specs.Forms.{is_flat, is_range, is_inner_head}
use Rattle.gm_forms.specs.Ready.{is_outer_expr, is_outer_code, is_outer_loop, is_phase_expr, is_phase_code}
use Rattle.gm_forms.specs.Uses.{Iterates, owner_role, suits, use_as, uses_in, uses_of_head, uses_of}
use Rattle.gm_forms.proofs.Held.{is-node}
use Rattle.gm_forms.proofs.Named.{both-true, all-append}
use Rattle.gm_forms.proofs.Weaker.{and-true}
use Rattle.gm_desugar.specs.Conditions.{nowhere}
use Rattle.gm_desugar.proofs.Turns.{Later}
use Rattle.gm_desugar.proofs.Alike.{then-goes, with-alike, then-alike, either-alike, value-alike, in_turns-alike}
use Rattle.gm_hoisting.specs.Hoisting.{count_folds, fold_types, count_body, body_types, is_sure, has_none, filter_left, loop_key, search_key, opened, root_checked, count_check, check_added, count_loop, loop_added, count_phase, phase_added, phase_out}
use Rattle.gm_typed_stores.proofs.Kept.{nodes-within}
use Rattle.gm_reductions.proofs.Iterators.{turn-leads, sequential-leads}
use Rattle.gm_reductions.proofs.Known.{enter-held}
use Rattle.gm_reductions.proofs.TypedAlike.{then-typed, turn-typed, repeated-typed, in_turns-typed}
use Rattle.gm_hoisting.proofs.Around.{Around, one-more, led, holds-on, turn}
use Rattle.gm_hoisting.proofs.FoldsAlike.{AreLocals}
use Rattle.gm_hoisting.proofs.Loops.{LoopLate, loop-alike}
use Rattle.gm_hoisting.proofs.OneFold.{agree-set}
use Rattle.gm_hoisting.proofs.Placed.{length-folds, length-body, length-loop, length-check, length-phase, Placed, placed-both, placed-local}

later-any : (c : Course) → Later 0 c
later-any (Goes s) = omega arith
later-any (Returns v s) = tt
later-any (Faults f) = tt
later-any Stops = tt

-- a node that a variable holds is held under each key
node-any : (w : View) (j : Key) (x : ℕ) (at : Place) (r : ℕ) → node_of w x at ≡ Ok r → node_of (record w { key = j }) x at ≡ Ok r
node-any w j x at r e = by (node_in w.graph (w.store.scalar x)) e
  where
    by : (o : Option ℕ) → node_held w at o ≡ Ok r → node_held (record w { key = j }) at o ≡ Ok r
    by (Some n) e = e
    by None e = absurd (cc)

-- what may stand where levels are not known may stand where they are
range-levels : (d : Domain) → is_range false d ≡ true → is_range true d ≡ true
range-levels D.Nodes h = h
range-levels D.OutNbrs h = refl
range-levels D.InNbrs h = refl
range-levels D.UpNbrs h = refl
range-levels D.DownNbrs h = refl

pub expr-levels : (n : ℕ) (e : Expr) → is_outer_expr false n e ≡ true → is_outer_expr true n e ≡ true
expr-levels n (Const v) h = h
expr-levels n (Var x at) h = h
expr-levels n (Property x p at) h = h
expr-levels n (EdgeProperty x p at) h = h
expr-levels n (Degree d x at) h = h
expr-levels n NodeCount h = h
expr-levels n EdgeCount h = h
expr-levels n (Live x at) h = h
expr-levels n (Unary op at e) h = expr-levels n e h
expr-levels n (Binary op at a b) h = let q = both-true (is_outer_expr false n a) (is_outer_expr false n b) h in and-true (is_outer_expr true n a) (is_outer_expr true n b) (expr-levels n a q.0) (expr-levels n b q.1)
expr-levels n (Both a b) h = let q = both-true (is_outer_expr false n a) (is_outer_expr false n b) h in and-true (is_outer_expr true n a) (is_outer_expr true n b) (expr-levels n a q.0) (expr-levels n b q.1)
expr-levels n (Either a b) h = let q = both-true (is_outer_expr false n a) (is_outer_expr false n b) h in and-true (is_outer_expr true n a) (is_outer_expr true n b) (expr-levels n a q.0) (expr-levels n b q.1)
expr-levels n (Choose c a b) h =
    let q = both-true (is_outer_expr false n c) (is_outer_expr false n a && is_outer_expr false n b) h in
    let r = both-true (is_outer_expr false n a) (is_outer_expr false n b) q.1 in
    and-true (is_outer_expr true n c) (is_outer_expr true n a && is_outer_expr true n b) (expr-levels n c q.0) (and-true (is_outer_expr true n a) (is_outer_expr true n b) (expr-levels n a r.0) (expr-levels n b r.1))
expr-levels n (Folded f hd test e) h =
    let q = both-true (is_inner_head false n hd) (is_flat (n ∷ hd.iterator ∷ []) false test && is_flat (n ∷ hd.iterator ∷ []) false e) h in
    let r = both-true (is_range false hd.domain) (nat_eq hd.owner n && not (nat_eq hd.iterator n)) q.0 in
    and-true (is_inner_head true n hd) (is_flat (n ∷ hd.iterator ∷ []) false test && is_flat (n ∷ hd.iterator ∷ []) false e) (and-true (is_range true hd.domain) (nat_eq hd.owner n && not (nat_eq hd.iterator n)) (range-levels hd.domain r.0) r.1) q.1

pub outer-again : (ds : List Declaration) (n : ℕ) (test : Expr) (body : Stmt) → is_outer_expr false n test && is_outer_code ds true n body ≡ true → is_outer_loop ds true n test body ≡ true
outer-again ds n test body h =
    let q = both-true (is_outer_expr false n test) (is_outer_code ds true n body) h in
    and-true (is_outer_expr true n test) (is_outer_code ds true n body) (expr-levels n test q.0) q.1

module _ (k : ℕ) (run : Run) where
  abbrev ds : List Declaration
  ds = run.declarations

  abbrev pub GoAlike : Stmt → Stmt → Type 0
  GoAlike s t = (a b : State) → AlikeStates k a b → AlikeCourses k (sequential s run a) (sequential t run b)

  -- the totals of the reductions in loops fault behind their elements
  abbrev pub PhaseLate : Stmt → Type 0
  PhaseLate (Then s t) = PhaseLate s × PhaseLate t
  PhaseLate (Foreach key at h test body) = LoopLate k run no_levels false h.iterator key test body
  PhaseLate (For key at h test body) = PhaseLate body
  PhaseLate (If key c s t) = PhaseLate s × PhaseLate t
  PhaseLate (While key at c body) = PhaseLate body
  PhaseLate (Do key at body c) = PhaseLate body
  PhaseLate (InBfs key at s test body) = (r : ℕ) → LoopLate k run (level_of run.graph r) true s.iterator key test body
  PhaseLate (InBfsBoth key at s test body back_key back_test back) =
      ((r : ℕ) → LoopLate k run (level_of run.graph r) true s.iterator key test body) × ((r : ℕ) → LoopLate k run (level_of run.graph r) true s.iterator back_key back_test back)
  PhaseLate s = Unit {0}

  -- the locals of a loop
  loop-locals : (n x : ℕ) (ls : ℕ → Option ℕ) (test : Expr) (body : Stmt) → Placed ds n (loop_added test body) → AreLocals (loop_of run ls x body) n (count_folds test + count_body body)
  loop-locals n x ls test body h i lo hi =
      placed-local ds n (fold_types test ++ body_types body) i h lo (subst (λ c. i < n + c) (sym (both-lengths (fold_types test) (body_types body))) (subst (λ c. i < n + (c + length (body_types body))) (sym (length-folds test)) (subst (λ c. i < n + (count_folds test + c)) (sym (length-body body)) hi)))
    where
      both-lengths : (xs ys : List VType) → length (xs ++ ys) ≡ length xs + length ys
      both-lengths xs ys = length-append xs ys

  -- a loop over nodes at some levels
  at-levels : (ls : ℕ → Option ℕ) (lv : Bool) (x : ℕ) (j key : Key) (test : Expr) (body : Stmt) (n : ℕ) → (has_none test ≡ true → j ≡ key) → k ≤ n → ReadsBelow k test → NamesBelow k body → is_outer_loop ds lv x test body ≡ true →
      Placed ds n (loop_added test body) → LoopLate k run ls lv x key test body → (ks : List ℕ) (s t : State) → AlikeStates k s t →
      AlikeCourses k (loops run ls x key test body ks s) (loops run ls x j (filter_left (has_none test) test) (opened n key test body) ks t)
  at-levels ls lv x j key test body n keys l reads names form placed late ks s t h =
      loop-alike k run ls lv x j key test body n keys l reads names form (loop-locals n x ls test body placed) late ks s t h

  -- a search whose root is checked before
  checked-root : (n : ℕ) (key : Key) (s : Search) (t : Stmt) (b : State) →
      sequential (root_checked false n key s t) run b ≡ with_value (node_of (view_of run b key) s.root s.place) (λ r. sequential t run (record b { store = write b.store (Scalar n) (At (Some r)) }))
  checked-root n key s t b =
      by (node_of (view_of run b key) s.root s.place)
      ∙ ap (λ (g : State → Course). with_value (node_of (view_of run b key) s.root s.place) (λ r. g (record b { store = write b.store (Scalar n) (At (Some r)) }))) (fun_ext (λ u. then-goes (sequential t run u)))
    where
      rest : State → Course
      rest u = then_do (sequential t run u) Goes

      by : (q : Result ℕ Fault) →
          then_do (writes b (assigned (view_of run b key) (T.Scalar n nowhere) (early (then_with q (λ m. Ok (At (Some m))))))) rest ≡ with_value q (λ r. rest (record b { store = write b.store (Scalar n) (At (Some r)) }))
      by (Ok r) = refl
      by (Err f) = refl

  -- a search: what it does from its root
  abbrev pub FromRoot : (State → ℕ → Course) → (State → ℕ → Course) → Type 0
  FromRoot f g = (r : ℕ) (a b : State) → AlikeStates k a b → AlikeCourses k (f a r) (g b r)

  -- the root is checked, or its key stays, or it holds a node
  abbrev Sure : Bool → Key → Key → ℕ → State → Type 0
  Sure c key j root a = c ≡ true → (j ≡ key) ⊎ IsNode run.graph (a.store.scalar root)

  search-alike : (c : Bool) (n : ℕ) (key j : Key) (s : Search) (orig new : Stmt) (f g : State → ℕ → Course) (a b : State) → Sure c key j s.root a → k ≤ n → s.root < k →
      ((u : State) → sequential orig run u ≡ with_value (node_of (view_of run u key) s.root s.place) (f u)) →
      ((u : State) → sequential new run u ≡ with_value (node_of (view_of run u j) s.root s.place) (g u)) →
      FromRoot f g → AlikeStates k a b → AlikeCourses k (sequential orig run a) (sequential (root_checked c n key s new) run b)
  search-alike true n key j s orig new f g a b sure l root before after each h =
      subst (λ c. AlikeCourses k c (sequential new run b)) (sym (before a))
      (subst (AlikeCourses k (with_value (node_of (view_of run a key) s.root s.place) (f a))) (sym (after b ∙ ap (λ q. with_value q (g b)) (⊎_elim kept held (sure refl))))
      (with-alike k (node_of (view_of run a key) s.root s.place) (node_of (view_of run b key) s.root s.place) (f a) (g b) (node_of-frame k (view_of run a key) b.store s.root s.place root h.store) (λ r. each r a b h)))
    where
      kept : j ≡ key → node_of (view_of run b j) s.root s.place ≡ node_of (view_of run b key) s.root s.place
      kept e = ap (λ i. node_of (view_of run b i) s.root s.place) e

      held : IsNode run.graph (a.store.scalar s.root) → node_of (view_of run b j) s.root s.place ≡ node_of (view_of run b key) s.root s.place
      held node =
          let there : node_in run.graph (b.store.scalar s.root) ≡ Some node.0 = ap (node_in run.graph) (h.store.scalar s.root root) ∙ is-node run.graph (a.store.scalar s.root) node in
          ap (node_held (view_of run b j) s.place) there ∙ sym (ap (node_held (view_of run b key) s.place) there)
  search-alike false n key j s orig new f g a b sure l root before after each h =
      subst (λ c. AlikeCourses k c (sequential (root_checked false n key s new) run b)) (sym (before a))
      (subst (AlikeCourses k (with_value (node_of (view_of run a key) s.root s.place) (f a))) (sym (checked-root n key s new b))
      (by (node_of (view_of run a key) s.root s.place) refl))
    where
      by : (q : Result ℕ Fault) → node_of (view_of run a key) s.root s.place ≡ q →
          AlikeCourses k (with_value q (f a)) (with_value (node_of (view_of run b key) s.root s.place) (λ r. sequential new run (record b { store = write b.store (Scalar n) (At (Some r)) })))
      by (Err x) e = subst (λ q. AlikeCourses k (Faults x) (with_value q (λ r. sequential new run (record b { store = write b.store (Scalar n) (At (Some r)) })))) (sym (node_of-frame k (view_of run a key) b.store s.root s.place root h.store ∙ e)) refl
      by (Ok r) e =
          let u : State = record b { store = write b.store (Scalar n) (At (Some r)) } in
          let i : AlikeStates k a u = record { store = agree-set k n a.store b.store (At (Some r)) l h.store; turns = h.turns } in
          subst (λ q. AlikeCourses k (f a r) (with_value q (λ r. sequential new run (record b { store = write b.store (Scalar n) (At (Some r)) })))) (sym (node_of-frame k (view_of run a key) b.store s.root s.place root h.store ∙ e))
          (subst (AlikeCourses k (f a r)) (sym (after u ∙ ap (λ q. with_value q (g u)) (node-any (view_of run u key) j s.root s.place r (node_of-frame k (view_of run a key) u.store s.root s.place root i.store ∙ e)))) (each r a u i))

  keys-kept : (b : Bool) (key : Key) → b ≡ true → loop_key b key ≡ key
  keys-kept true key e = refl
  keys-kept false key e = absurd (cc)

  search-kept : (b : Bool) (key : Key) → b ≡ true → search_key b key ≡ key
  search-kept true key e = refl
  search-kept false key e = absurd (cc)

  checks : (b : Bool) (n : ℕ) → Placed ds n (check_added b) → k ≤ n → k ≤ n + count_check b
  checks b n p l = omega (arith, l)

  -- why the root of a search that is not checked needs no check
  sure-root : (none : Bool) (key : Key) (its : List ℕ) (root : ℕ) (a : State) → (is_in its root ≡ true → IsNode run.graph (a.store.scalar root)) → Sure (none || is_in its root) key (search_key none key) root a
  sure-root true key its root a holds e = inl refl
  sure-root false key its root a holds e = inr (holds e)

  pub phase-alike : (s : Stmt) (its : List ℕ) (n : ℕ) → k ≤ n → NamesBelow k s → is_phase_code ds s ≡ true → Placed ds n (phase_added its s) → PhaseLate s → Around run its s → (a b : State) → Held run.graph its a.store → AlikeStates k a b →
      AlikeCourses k (sequential s run a) (sequential (phase_out its n s) run b)
  phase-alike (Then s t) its n l names form placed late o a b holds h =
      let forms = both-true (is_phase_code ds s) (is_phase_code ds t) form in
      let parts = placed-both ds n (phase_added its s) (phase_added its t) placed in
      let named = all-append (suits ds) (uses_of s) (uses_of t) o.named in
      let left : Around run its s = record { named = named.0; iterators = o.iterators } in
      let right : Around run its t = record { named = named.1; iterators = o.iterators } in
      let more : k ≤ n + count_phase its s = omega (arith, l) in
      then-typed (Held run.graph its) k (sequential s run a) (sequential (phase_out its n s) run b) _ _ (holds-on run k its s a left holds) (phase-alike s its n l names.0 forms.0 parts.0 late.0 left a b holds h)
      (λ u w p i. phase-alike t its (n + count_phase its s) more names.1 forms.1 (subst (λ c. Placed ds (n + c) (phase_added its t)) (length-phase s its) parts.1) late.1 right u w p i)
  phase-alike (Foreach key at hd test body) its n l names form placed late o a b holds h =
      let forms = both-true (is_nodes hd.domain) (is_outer_loop ds false hd.iterator test body) form in
      at-levels no_levels false hd.iterator (loop_key (has_none test) key) key test body n (keys-kept (has_none test) key) l names.2 names.3 forms.1 placed late (nodes run.graph) a b h
  phase-alike (For key at hd e s) its n l names form placed late o a b holds h =
      let x = hd.iterator in
      let forms = both-true (is_nodes hd.domain) (is_phase_expr e && is_phase_code ds s) form in
      let inner = both-true (is_phase_expr e) (is_phase_code ds s) forms.1 in
      let r = all-append (suits ds) (uses_of_head hd) (uses_in e ++ uses_of s) o.named in
      let r' = all-append (suits ds) (uses_in e) (uses_of s) r.1 in
      let g = all-append (suits ds) (use_as Iterates x) (use_as (owner_role hd.domain) hd.owner) r.0 in
      let inside : Around run (x ∷ its) s = record { named = r'.1; iterators = one-more ds x its g.0 o.iterators } in
      in_turns-typed (Held run.graph its) k (λ m. m < node_count run.graph) run (nodes run.graph) (turn run key hd e s) (turn run key hd e (phase_out (x ∷ its) n s)) a b (nodes-within run.graph) holds h
      (λ m low c d p i.
      let u : State = record c { store = write c.store (Scalar x) (At (Some m)) } in
      let w : State = record d { store = write d.store (Scalar x) (At (Some m)) } in
      let j : AlikeStates k u w = record { store = agree-write k c.store d.store (Scalar x) (At (Some m)) i.store; turns = i.turns } in (
        led run k its o.iterators (turn run key hd e s m c) (λ y v. turn-leads ds y (o.iterators y v) run refl x m key e (sequential s run) c low (λ z q. sequential-leads ds y (o.iterators y v) run refl s z r'.1 q) (p y v)),
        with-alike k _ _ _ _ (value-alike k e run key u w names.2 j)
            (λ v. either-alike k (is_true v) (sequential s run) Goes (sequential (phase_out (x ∷ its) n s) run) Goes u w (phase-alike s (x ∷ its) n l names.3 inner.1 placed late inside u w (enter-held run.graph x m its c.store low p) j) j),
      ))
  phase-alike (If key e s t) its n l names form placed late o x y holds h =
      let forms = both-true (is_phase_expr e) (is_phase_code ds s && is_phase_code ds t) form in
      let branches = both-true (is_phase_code ds s) (is_phase_code ds t) forms.1 in
      let parts = placed-both ds n (phase_added its s) (phase_added its t) placed in
      let r = all-append (suits ds) (uses_in e) (uses_of s ++ uses_of t) o.named in
      let r' = all-append (suits ds) (uses_of s) (uses_of t) r.1 in
      let left : Around run its s = record { named = r'.0; iterators = o.iterators } in
      let right : Around run its t = record { named = r'.1; iterators = o.iterators } in
      let more : k ≤ n + count_phase its s = omega (arith, l) in
      with-alike k _ _ _ _ (value-alike k e run key x y names.0 h)
      (λ v. either-alike k (is_true v) (sequential s run) (sequential t run) (sequential (phase_out its n s) run) (sequential (phase_out its (n + count_phase its s) t) run) x y (phase-alike s its n l names.1 branches.0 parts.0 late.0 left x y holds h)
      (phase-alike t its (n + count_phase its s) more names.2 branches.1 (subst (λ c. Placed ds (n + c) (phase_added its t)) (length-phase s its) parts.1) late.1 right x y holds h))
  phase-alike (While key at e s) its n l names form placed late o x y holds h =
      let forms = both-true (is_phase_expr e) (is_phase_code ds s) form in
      let r = all-append (suits ds) (uses_in e) (uses_of s) o.named in
      let inside : Around run its s = record { named = r.1; iterators = o.iterators } in
      repeated-typed (Held run.graph its) k (suc run.bound) run (λ u. value e (view_of run u key)) (sequential s run) (sequential (phase_out its n s) run) x y holds h
      (λ c d i. value-alike k e run key c d names.0 i) (λ c d p i. (holds-on run k its s c inside p, phase-alike s its n l names.1 forms.1 placed late inside c d p i))
  phase-alike (Do key at s e) its n l names form placed late o x y holds h =
      let forms = both-true (is_phase_code ds s) (is_phase_expr e) form in
      let r = all-append (suits ds) (uses_of s) (uses_in e) o.named in
      let inside : Around run its s = record { named = r.0; iterators = o.iterators } in
      turn-typed (Held run.graph its) k run _ _ x y holds h
      (λ c d p j. then-typed (Held run.graph its) k (sequential s run c) (sequential (phase_out its n s) run d) _ _ (holds-on run k its s c inside p) (phase-alike s its n l names.0 forms.0 placed late inside c d p j)
      (λ u w q i. repeated-typed (Held run.graph its) k (suc run.bound) run (λ u. value e (view_of run u key)) (sequential s run) (sequential (phase_out its n s) run) u w q i
      (λ c d i. value-alike k e run key c d names.1 i) (λ c d p i. (holds-on run k its s c inside p, phase-alike s its n l names.0 forms.0 placed late inside c d p i))))
  phase-alike (InBfs key at s test body) its n l names form placed late o a b holds h =
      let none = has_none test in
      let sure = is_sure its s test in
      let m = n + count_check sure in
      let parts = placed-both ds n (check_added sure) (loop_added test body) placed in
      let more : k ≤ m = omega (arith, l) in
      let there = subst (λ c. Placed ds (n + c) (loop_added test body)) (length-check sure) parts.1 in
      search-alike sure n key (search_key none key) s (InBfs key at s test body) (InBfs (search_key none key) at s (filter_left none test) (opened m key test body))
      (λ u r. searched run r (levels run.graph r) key s.iterator test body u) (λ u r. searched run r (levels run.graph r) (search_key none key) s.iterator (filter_left none test) (opened m key test body) u)
      a b (sure-root none key its s.root a (holds s.root)) l names.1 (λ u. refl) (λ u. refl)
      (λ r c d i. in_turns-alike k run (levels run.graph r) _ _ c d i (λ ks u w j. at-levels (level_of run.graph r) true s.iterator (search_key none key) key test body m (search-kept none key) more names.2 names.3 (outer-again ds s.iterator test body form) there (late r) ks u w j))
      h
  phase-alike (InBfsBoth key at s test body back_key back_test back) its n l names form placed late o a b holds h =
      let none = has_none test in
      let sure = is_sure its s test in
      let back_none = has_none back_test in
      let m = n + count_check sure in
      let m2 = m + count_loop test body in
      let parts = placed-both ds n (check_added sure) (loop_added test body ++ loop_added back_test back) placed in
      let more : k ≤ m = omega (arith, l) in
      let more2 : k ≤ m2 = omega (arith, l) in
      let loops_at = placed-both ds m (loop_added test body) (loop_added back_test back) (subst (λ c. Placed ds (n + c) (loop_added test body ++ loop_added back_test back)) (length-check sure) parts.1) in
      let there = subst (λ c. Placed ds (m + c) (loop_added back_test back)) (length-loop test body) loops_at.1 in
      let f1 = both-true (is_outer_expr false s.iterator test) (is_outer_code ds true s.iterator body && (is_outer_expr false s.iterator back_test && is_outer_code ds true s.iterator back)) form in
      let f2 = both-true (is_outer_code ds true s.iterator body) (is_outer_expr false s.iterator back_test && is_outer_code ds true s.iterator back) f1.1 in
      let front = outer-again ds s.iterator test body (and-true (is_outer_expr false s.iterator test) (is_outer_code ds true s.iterator body) f1.0 f2.0) in
      search-alike sure n key (search_key none key) s (InBfsBoth key at s test body back_key back_test back)
      (InBfsBoth (search_key none key) at s (filter_left none test) (opened m key test body) (search_key back_none back_key) (filter_left back_none back_test) (opened m2 back_key back_test back))
      (λ u r. then_do (searched run r (levels run.graph r) key s.iterator test body u) (searched run r (reverse (levels run.graph r)) back_key s.iterator back_test back))
      (λ u r. then_do (searched run r (levels run.graph r) (search_key none key) s.iterator (filter_left none test) (opened m key test body) u) (searched run r (reverse (levels run.graph r)) (search_key back_none back_key) s.iterator (filter_left back_none back_test) (opened m2 back_key back_test back)))
      a b (sure-root none key its s.root a (holds s.root)) l names.1 (λ u. refl) (λ u. refl)
      (λ r c d i. then-alike k 0 _ _ _ _ (later-any (searched run r (levels run.graph r) key s.iterator test body c))
      (in_turns-alike k run (levels run.graph r) _ _ c d i (λ ks u w j. at-levels (level_of run.graph r) true s.iterator (search_key none key) key test body m (search-kept none key) more names.2 names.3 front loops_at.0 (late.0 r) ks u w j))
      (λ c' d' i' z. in_turns-alike k run (reverse (levels run.graph r)) _ _ c' d' i' (λ ks u w j. at-levels (level_of run.graph r) true s.iterator (search_key back_none back_key) back_key back_test back m2 (search-kept back_none back_key) more2 names.4 names.5 (outer-again ds s.iterator back_test back f2.1) there (late.1 r) ks u w j)))
      h
  phase-alike s its n l names form placed late o a b holds h = sequential-alike k s run a b names h
