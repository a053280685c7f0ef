-- A loop that reads nodes first, in fresh locals, goes alike.
use Rattle.std.proofs.Common.{◌≡◌, ◌<◌, ◌≤◌, ◌+◌, arith, ℕ, Bool, true, false, cond, List, [], ◌∷◌, ◌++◌, length, map, refl, sym, ap, subst, ◌∙◌, Option, Some, None, Ok, Err}
use Rattle.std.proofs.Math.Path.{fun_ext}
use Rattle.std.specs.Prelude.{◌&&◌, ◌||◌, not, nat_eq}
use Rattle.std.specs.List.{list_all, list_any}
use Rattle.std.proofs.lemmas.Bool.{both_ways, eq-eqb, eqb-true, ne_eqb}
use Rattle.gm_value.specs.declared.reductions.Reduce.{Reduce}
use Rattle.gm_value.specs.declared.values.Value.{Value}
use Rattle.gm_value.specs.declared.values.Value.TheVariants.{At}
use Rattle.gm_value.specs.Operations.{is_true}
use Rattle.gm_model.specs.Graphs.{Step}
use Rattle.gm_ast.specs.declared.tree.Declaration.{Declaration}
use Rattle.gm_base.specs.declared.places.Place.{Place}
use Rattle.gm_ast.specs.declared.tree.Head.{Head}
use Rattle.gm_ast.specs.declared.tree.Key.{Key}
use Rattle.gm_ast.specs.declared.tree.Sort.TheVariants as Sorts
use Rattle.gm_ast.specs.declared.tree.Target.{Target}
use Rattle.gm_ast.specs.declared.tree.Target.TheVariants as T
use Rattle.gm_ast.specs.declared.tree.TotalKey.{TotalKey}
use Rattle.gm_ast.specs.Names.{sort_eq}
use Rattle.gm_ast.specs.Program.{Expr, Var, Stmt, sequence, Skip, Then, Declare, DeclareEdge, Assign, Defer, Combine, Group, Foreach, For, If, While, Do, InBfs, InBfsBoth, Return}
use Rattle.gm_semantics.specs.declared.faults.Fault.{Fault}
use Rattle.gm_semantics.specs.declared.slots.Slot.TheVariants.{Scalar, Node}
use Rattle.gm_semantics.specs.Stores.{Store, write}
use Rattle.gm_semantics.specs.Faults.{least, then_with, unless_fault, somes, joined}
use Rattle.gm_semantics.specs.Contributions.{Contribution, settled_store, total_faults}
use Rattle.gm_semantics.specs.Levels.{node_in, nodes, no_levels}
use Rattle.gm_semantics.specs.Expressions.{Answer, View, node_held, node_of, evaluated_all, settled, value, steps_in}
use Rattle.gm_semantics.specs.Iterations.{Ends, AtOnce, WithOutermost, own_ends, contribution, gave_outermost, Loop, Iteration, Mode, Outermost, AtEdge, begun, failed, unless_failed, go_on, with_ok, one_way, as_it_is, view_in, slots_of, later, ends_of, ends_of_all, wrote, reduced, inner_done, turn_at, does}
use Rattle.gm_semantics.specs.Loops.{is_elsewhere, pushes, iteration}
use Rattle.gm_semantics.specs.Statements.{Run, loop_of, variable_at, sequential}
use Rattle.gm_semantics.specs.Frames.{Agree, ReadsBelow, NamesBelow, GivesBelow, Alike, AlikeCourses}
use Rattle.gm_semantics.proofs.ExpressionFrames.{agree-write, evaluated-frame, steps_in-frame}
use Rattle.gm_semantics.proofs.BodyFrames.{does-alike, each-mapped, EachAlike, settled-agree, total_faults-agree, outermost-joined, faults-mapped, outermost-all_below}
use Rattle.gm_semantics.proofs.StatementFrames.{sequential-alike}
use Rattle.gm_forms.specs.Cut.{is_own_loop}
use Rattle.gm_forms.specs.Forms.{depth_at}
use Rattle.gm_forms.specs.Sharing.{is_through, are_alike, are_distinct, variables_of, targets_alike}
use Rattle.gm_forms.specs.Uses.{suits, uses_of}
use Rattle.gm_forms.proofs.Named.{both-true, names-below}
use Rattle.gm_loop_laws.specs.Masks.{Change, looped, SameChange}
use Rattle.gm_loop_laws.proofs.Endings.{done-alike}
use Rattle.gm_loop_laws.proofs.Pieces.{courses-alike}
use Rattle.gm_cut.proofs.Roles.{iterates-of}
use Rattle.gm_cut.proofs.Shared.{shares-alike}
use Rattle.gm_dissect.proofs.SavedLoops.{or-false}
use Rattle.gm_dissect.proofs.Phases.{Rewrites}
use Rattle.gm_parting.specs.Nodes.{separate, is_body_local, node_before, through, read_first, nodes_in, nodes_read, nodes_loop}
use Rattle.gm_parting.proofs.MovedPrograms.{scalar-apart}

-- iterations of an inner loop one by one, and its end
module _ (k : ℕ) where
  below-append : (xs ys : List Contribution) → GivesBelow k xs → GivesBelow k ys → GivesBelow k (xs ++ ys)
  below-append [] ys h g = g
  below-append (x ∷ xs) ys h g = (h.0, below-append xs ys h.1 g)

  inner-joined : (xs ys : List Iteration) → EachAlike k xs ys → joined (map (λ t. t.with_inner) ys) ≡ joined (map (λ t. t.with_inner) xs)
  inner-joined [] [] h = refl
  inner-joined [] (y ∷ ys) h = absurd h
  inner-joined (x ∷ xs) [] h = absurd h
  inner-joined (x ∷ xs) (y ∷ ys) h = ap (λ cs. cs ++ joined (map (λ t. t.with_inner) ys)) h.0.with_inner ∙ ap (λ cs. x.with_inner ++ cs) (inner-joined xs ys h.1)

  inner-all_below : (xs ys : List Iteration) → EachAlike k xs ys → GivesBelow k (joined (map (λ t. t.with_inner) xs))
  inner-all_below [] ys h = tt
  inner-all_below (x ∷ xs) [] h = absurd h
  inner-all_below (x ∷ xs) (y ∷ ys) h = below-append x.with_inner _ h.0.inner_below (inner-all_below xs ys h.1)

  pub inner_done-alike : (a b : Iteration) (xs ys : List Iteration) → Alike k a b → EachAlike k xs ys → Alike k (inner_done a xs) (inner_done b ys)
  inner_done-alike a b xs ys h each =
      let cs = joined (map (λ (t : Iteration). t.with_inner) xs) in
      record {
        store = subst (λ ds. Agree k (settled_store a.store cs) (settled_store b.store ds)) (sym (inner-joined xs ys each)) (settled-agree k a.store b.store cs (inner-all_below xs ys each) h.store);
        with_inner = h.with_inner;
        with_outermost = ap (λ os. os ++ joined (map (λ t. t.with_outermost) ys)) h.with_outermost ∙ ap (λ os. a.with_outermost ++ os) (outermost-joined k xs ys each);
        deferred = h.deferred;
        fault = ap (λ os. least (somes os ++ total_faults b.store (joined (map (λ t. t.with_inner) ys)))) (faults-mapped k xs ys each)
            ∙ ap (λ ds. least (somes (map (λ t. t.fault) xs) ++ total_faults b.store ds)) (inner-joined xs ys each)
            ∙ ap (λ fs. least (somes (map (λ t. t.fault) xs) ++ fs)) (total_faults-agree k a.store b.store cs (inner-all_below xs ys each) h.store);
        inner_below = h.inner_below;
        outermost_below = below-append a.with_outermost _ h.outermost_below (outermost-all_below k xs ys each);
      }

-- j: the number of variables before; ds: their table
module _ (j : ℕ) (ds : List Declaration) (loop : Loop) (outer : loop.outer < j) (apart : (x : ℕ) → is_body_local ds x ≡ true → nat_eq x loop.outer ≡ false) where
  pub alike-failed : (a b : Iteration) (f : Fault) → Alike j a b → Alike j (failed a f) (failed b f)
  alike-failed a b f h = record { store = h.store; with_inner = h.with_inner; with_outermost = h.with_outermost; deferred = h.deferred; fault = refl; inner_below = h.inner_below; outermost_below = h.outermost_below }

  -- a write to a fresh local
  pub alike-beside : (a b : Iteration) (y : ℕ) (v : Value) → j ≤ y → Alike j a b → Alike j a (wrote b (Scalar y, v))
  alike-beside a b y v fresh h = record {
    store = record { scalar = λ z l. ap (λ c. cond c v (b.store.scalar z)) (ne_eqb y z (λ e. omega arith)) ∙ h.store.scalar z l; node = h.store.node; edge = h.store.edge };
    with_inner = h.with_inner;
    with_outermost = h.with_outermost;
    deferred = h.deferred;
    fault = h.fault;
    inner_below = h.inner_below;
    outermost_below = h.outermost_below;
  }

  pub alike-way : (v : Bool) (f g f' g' : Iteration → Iteration) (a b : Iteration) → Alike j (f a) (f' b) → Alike j (g a) (g' b) → Alike j (one_way v f g a) (one_way v f' g' b)
  alike-way true f g f' g' a b h i = h
  alike-way false f g f' g' a b h i = i

  pub same-value : (m : Mode) (a b : Iteration) (key : Key) (e : Expr) → ReadsBelow j e → Alike j a b → value e (view_in loop m b key) ≡ value e (view_in loop m a key)
  same-value m a b key e r h = ap settled (evaluated-frame j e (view_in loop m a key) b.store r h.store)

  -- ---- a reduction through one node variable

  both-latest : (e f : Ends) → e ≡ WithOutermost → f ≡ WithOutermost → later e f ≡ WithOutermost
  both-latest e f p q = ap (λ x. later x f) p ∙ ap (later WithOutermost) q

  one-latest : (m : Mode) (x : ℕ) → nat_eq x loop.outer ≡ false → (t : Target) → is_through x t ≡ true → ends_of m loop t ≡ WithOutermost
  one-latest m x o (T.Scalar z at) h = absurd (both_ways false refl h)
  one-latest m x o (T.Property z p at) h = ap (λ b. cond b (own_ends m (loop.pushed p)) WithOutermost) (ap (λ w. nat_eq w loop.outer) (eqb-true z x h) ∙ o)

  all-latest : (m : Mode) (x : ℕ) → nat_eq x loop.outer ≡ false → (t : Target) (ts : List Target) → is_through x t ≡ true → list_all (is_through x) ts ≡ true → ends_of_all m loop (t ∷ ts) ≡ WithOutermost
  all-latest m x o t [] h g = ap (λ e. later e AtOnce) (one-latest m x o t h)
  all-latest m x o t (u ∷ ts) h g =
      let r = both-true (is_through x u) (list_all (is_through x) ts) g in both-latest (ends_of m loop t) (ends_of_all m loop (u ∷ ts)) (one-latest m x o t h) (all-latest m x o u ts r.0 r.1)

  all-through : (x y : ℕ) (ts : List Target) → list_all (is_through x) ts ≡ true → list_all (is_through y) (map (through y) ts) ≡ true
  all-through x y [] h = refl
  all-through x y (T.Scalar z at ∷ ts) h = absurd (both_ways false refl h)
  all-through x y (T.Property z p at ∷ ts) h = ap (λ b. b && list_all (is_through y) (map (through y) ts)) (eq-eqb y y refl) ∙ all-through x y ts (both-true (nat_eq z x) (list_all (is_through x) ts) h).1

  -- the same slots
  slots-through : (x y : ℕ) (w : View) → w.store.scalar y ≡ w.store.scalar x → (ts : List Target) → list_all (is_through x) ts ≡ true → slots_of w (map (through y) ts) ≡ slots_of w ts
  slots-through x y w e [] h = refl
  slots-through x y w e (T.Scalar z at ∷ ts) h = absurd (both_ways false refl h)
  slots-through x y w e (T.Property z p at ∷ ts) h =
      let r = both-true (nat_eq z x) (list_all (is_through x) ts) h in
      ap (λ v. then_with (then_with (node_held w at (node_in w.graph v)) (λ n. Ok (Node p n))) (λ s. then_with (slots_of w (map (through y) ts)) (λ ss. Ok (s ∷ ss)))) (e ∙ sym (ap w.store.scalar (eqb-true z x r.0)))
      ∙ ap (λ q. then_with (then_with (node_of w z at) (λ n. Ok (Node p n))) (λ s. then_with q (λ ss. Ok (s ∷ ss)))) (slots-through x y w e ts r.1)

  renamed-does : (m : Mode) (b : Iteration) (x y : ℕ) (k : Key) (total : TotalKey) (o : Reduce) (t : Target) (ts : List Target) (es : List Expr) → nat_eq x loop.outer ≡ false → nat_eq y loop.outer ≡ false → b.store.scalar y ≡ b.store.scalar x → list_all (is_through x) (t ∷ ts) ≡ true →
      does (Combine k total o (map (through y) (t ∷ ts)) es) m loop b ≡ does (Combine k total o (t ∷ ts) es) m loop b
  renamed-does m b x y k total o t ts es ox oy e h =
      let w = view_in loop m b k in
      let r = both-true (is_through x t) (list_all (is_through x) ts) h in
      let n = all-through x y (t ∷ ts) h in
      let q = both-true (is_through y (through y t)) (list_all (is_through y) (map (through y) ts)) n in
      ap (λ e. reduced e w b total o (map (through y) (t ∷ ts)) es) (all-latest m y oy (through y t) (map (through y) ts) q.0 q.1)
      ∙ ap (λ ss. with_ok b (unless_fault (evaluated_all es w).hoisted (then_with ss (λ ss. then_with (evaluated_all es w).rest (λ xs. Ok (ss, xs))))) (λ p. gave_outermost b (contribution total o p))) (slots-through x y w e (t ∷ ts) h)
      ∙ ap (λ e. reduced e w b total o (t ∷ ts) es) (sym (all-latest m x ox t ts r.0 r.1))

  -- a reduction whose node is read first
  reads-first : (o' : Bool) (m : Mode) (a b : Iteration) (y : ℕ) (k : Key) (total : TotalKey) (o : Reduce) (ts : List Target) (es : List Expr) → j ≤ y → NamesBelow j (Combine k total o ts es) → are_alike ts ≡ true → a.fault ≡ None → Alike j a b →
      Alike j (does (Combine k total o ts es) m loop a) (does (read_first o' (node_before ds ts) y k total o ts es) m loop b)
  reads-first o' m a b y k total o [] es high below alike fine h = does-alike j (Combine k total o [] es) m loop a b below h
  reads-first o' m a b y k total o (T.Scalar x at ∷ ts) es high below alike fine h = does-alike j (Combine k total o (T.Scalar x at ∷ ts) es) m loop a b below h
  reads-first o' m a b y k total o (T.Property x p at ∷ ts) es high below alike fine h = by (is_body_local ds x) refl
    where
      C : Stmt
      C = Combine k total o (T.Property x p at ∷ ts) es

      by : (c : Bool) → is_body_local ds x ≡ c → Alike j (does C m loop a) (does (read_first o' (cond c (Some (Var x at)) None) y k total o (T.Property x p at ∷ ts) es) m loop b)
      by false e = does-alike j C m loop a b below h
      by true e =
          let v = b.store.scalar x in
          let d = wrote b (Scalar y, v) in
          let low = below.0.0.0 in
          let g : Alike j a d = alike-beside a b y v high h in
          let new : d.store.scalar y ≡ v = ap (λ c. cond c v (b.store.scalar y)) (eq-eqb y y refl) in
          let old : d.store.scalar x ≡ v = ap (λ c. cond c v (b.store.scalar x)) (ne_eqb y x (λ f. omega (arith, f, low, high))) in
          let all : list_all (is_through x) (T.Property x p at ∷ ts) ≡ true = ap (λ c. c && list_all (is_through x) ts) (eq-eqb x x refl) ∙ alike in
          let same = renamed-does m d x y k total o (T.Property x p at) ts es (apart x e) (ne_eqb y loop.outer (λ f. omega (arith, f, outer, high))) (new ∙ sym old) all in
          let C' : Stmt = Combine k total o (map (through y) (T.Property x p at ∷ ts)) es in
          let goes : Alike j (does C m loop a) (does (sequence (Declare k y (Some (Var x at)) ∷ C' ∷ [])) m loop b) =
          subst (λ z. Alike j (does C m loop a) (unless_failed z d (does (Then C' Skip) m loop))) (sym (h.fault ∙ fine))
          (subst (Alike j (does C m loop a)) (sym (last-alone C' m d ∙ same)) (does-alike j C m loop a d below g)) in
          both o' goes
        where
          both : (w : Bool) → Alike j (does C m loop a) (does (sequence (Declare k y (Some (Var x at)) ∷ Combine k total o (map (through y) (T.Property x p at ∷ ts)) es ∷ [])) m loop b) →
              Alike j (does C m loop a) (does (separate w k (sequence (Declare k y (Some (Var x at)) ∷ Combine k total o (map (through y) (T.Property x p at ∷ ts)) es ∷ []))) m loop b)
          both true h = h
          both false h = h

          last-alone : (s : Stmt) (m : Mode) (it : Iteration) → does (Then s Skip) m loop it ≡ does s m loop it
          last-alone s m it = alone (does s m loop it) (does s m loop it).fault
            where
              alone : (a : Iteration) (o : Option Fault) → unless_failed o a (λ x. x) ≡ a
              alone a None = refl
              alone a (Some f) = refl

  -- a body
  pub turn-reads : (m : Mode) (key : Key) (test : Expr) (f g : Iteration → Iteration) (iterator n : ℕ) (s t : Store) → ReadsBelow j test → Agree j s t → ((a b : Iteration) → a.fault ≡ None → Alike j a b → Alike j (f a) (g b)) →
      Alike j (turn_at loop m key test f iterator n s) (turn_at loop m key test g iterator n t)
  turn-reads m key test f g iterator n s t reads agree each =
      let a = begun (write s (Scalar iterator) (At (Some n))) in
      let b = begun (write t (Scalar iterator) (At (Some n))) in
      let h : Alike j a b = record { store = agree-write j s t (Scalar iterator) (At (Some n)) agree; with_inner = refl; with_outermost = refl; deferred = refl; fault = refl; inner_below = tt; outermost_below = tt } in
      subst (λ z. Alike j (turn_at loop m key test f iterator n s) (with_ok b z (λ v. one_way (is_true v) g as_it_is b))) (sym (same-value m a b key test reads h)) (by a b (value test (view_in loop m a key)) h (each a b refl h))
    where
      by : (a b : Iteration) (z : Answer) → Alike j a b → Alike j (f a) (g b) → Alike j (with_ok a z (λ v. one_way (is_true v) f as_it_is a)) (with_ok b z (λ v. one_way (is_true v) g as_it_is b))
      by a b (Ok v) h i = alike-way (is_true v) f as_it_is g as_it_is a b i h
      by a b (Err e) h i = alike-failed a b e h

  goes : (o' : Bool) (s : Stmt) (m : Mode) (first deep i : ℕ) (a b : Iteration) → j ≤ first → j ≤ deep → NamesBelow j s → targets_alike s ≡ true → a.fault ≡ None → Alike j a b → Alike j (does s m loop a) (does (nodes_read ds o' first deep i s) m loop b)
  goes o' (Then s r) m first deep i a b l d n t fine h =
      let u = both-true (targets_alike s) (targets_alike r) t in
      let one = goes o' s m first deep i a b l d n.0 u.0 fine h in
      let s' = nodes_read ds o' first deep i s in
      let r' = nodes_read ds o' first deep (i + nodes_in ds s) r in
      subst (λ z. Alike j (go_on (does s m loop a) (does r m loop)) (unless_failed z (does s' m loop b) (does r' m loop))) (sym one.fault)
      (by (does s m loop a) (does s' m loop b) (does s m loop a).fault refl one (λ e. goes o' r m first deep (i + nodes_in ds s) (does s m loop a) (does s' m loop b) l d n.1 u.1 e one))
    where
      by : (x y : Iteration) (z : Option Fault) → x.fault ≡ z → Alike j x y → (x.fault ≡ None → Alike j (does r m loop x) (does (nodes_read ds o' first deep (i + nodes_in ds s) r) m loop y)) →
          Alike j (unless_failed z x (does r m loop)) (unless_failed z y (does (nodes_read ds o' first deep (i + nodes_in ds s) r) m loop))
      by x y None e one more = more e
      by x y (Some f) e one more = one
  goes o' (Combine k total o ts es) m first deep i a b l d n t fine h =
      reads-first o' m a b (first + i) k total o ts es (omega (arith, l)) n (both-true (are_alike ts) (are_distinct (variables_of ts)) t).0 fine h
  goes o' (If k c s r) m first deep i a b l d n t fine h =
      let u = both-true (targets_alike s) (targets_alike r) t in
      let s' = nodes_read ds o' first deep i s in
      let r' = nodes_read ds o' first deep (i + nodes_in ds s) r in
      subst (λ z. Alike j (does (If k c s r) m loop a) (with_ok b z (λ v. one_way (is_true v) (does s' m loop) (does r' m loop) b))) (sym (same-value m a b k c n.0 h))
      (by (value c (view_in loop m a k)) (goes o' s m first deep i a b l d n.1 u.0 fine h) (goes o' r m first deep (i + nodes_in ds s) a b l d n.2 u.1 fine h))
    where
      by : (z : Answer) → Alike j (does s m loop a) (does (nodes_read ds o' first deep i s) m loop b) → Alike j (does r m loop a) (does (nodes_read ds o' first deep (i + nodes_in ds s) r) m loop b) →
          Alike j (with_ok a z (λ v. one_way (is_true v) (does s m loop) (does r m loop) a)) (with_ok b z (λ v. one_way (is_true v) (does (nodes_read ds o' first deep i s) m loop) (does (nodes_read ds o' first deep (i + nodes_in ds s) r) m loop) b))
      by (Ok v) f g = alike-way (is_true v) (does s m loop) (does r m loop) (does (nodes_read ds o' first deep i s) m loop) (does (nodes_read ds o' first deep (i + nodes_in ds s) r) m loop) a b f g
      by (Err e) f g = alike-failed a b e h
  goes o' (Foreach k at hd test body) Outermost first deep i a b l d n t fine h =
      let body' = nodes_read ds false deep deep i body in
      let turn : Stmt → Store → Step → Iteration = λ s st step. turn_at loop (AtEdge step.edge) k test (does s (AtEdge step.edge) loop) hd.iterator step.node st in
      subst (λ steps. Alike j (does (Foreach k at hd test body) Outermost loop a) (inner_done b (map (turn body' b.store) steps))) (sym (steps_in-frame j (view_in loop Outermost a k) b.store hd n.1 h.store))
      (inner_done-alike j a b _ _ h (each-mapped j (turn body a.store) (turn body' b.store) (steps_in (view_in loop Outermost a k) hd)
      (λ step. turn-reads (AtEdge step.edge) k test (does body (AtEdge step.edge) loop) (does body' (AtEdge step.edge) loop) hd.iterator step.node a.store b.store n.2 h.store
      (λ x y f g. goes false body (AtEdge step.edge) deep deep i x y d d n.3 t f g))))
  goes o' (Foreach k at hd test body) (AtEdge e) first deep i a b l d n t fine h = h
  goes o' Skip m first deep i a b l d n t fine h = h
  goes o' (Declare k x e) m first deep i a b l d n t fine h = does-alike j (Declare k x e) m loop a b n h
  goes o' (DeclareEdge x y at) m first deep i a b l d n t fine h = h
  goes o' (Assign k o e) m first deep i a b l d n t fine h = does-alike j (Assign k o e) m loop a b n h
  goes o' (Defer k o e) m first deep i a b l d n t fine h = does-alike j (Defer k o e) m loop a b n h
  goes o' (Group k at g p e) m first deep i a b l d n t fine h = h
  goes o' (For k at hd test body) m first deep i a b l d n t fine h = h
  goes o' (While k at c body) m first deep i a b l d n t fine h = h
  goes o' (Do k at body c) m first deep i a b l d n t fine h = h
  goes o' (InBfs k at hd c body) m first deep i a b l d n t fine h = h
  goes o' (InBfsBoth k at hd c body back_key e back) m first deep i a b l d n t fine h = h
  goes o' (Return k at e) m first deep i a b l d n t fine h = h

  -- the loop
  loop-reads : (first deep : ℕ) (key : Key) (test : Expr) (body : Stmt) → j ≤ first → j ≤ deep → ReadsBelow j test → NamesBelow j body → targets_alike body ≡ true → SameChange j (looped loop key test body) (looped loop key test (nodes_read ds true first deep 0 body))
  loop-reads first deep key test body l d reads names t s u agree =
      done-alike j (iteration loop key test body s) (iteration loop key test (nodes_read ds true first deep 0 body) u) (nodes loop.graph) s u
      (λ x i.
      let h : Alike j (iteration loop key test body s x) (iteration loop key test (nodes_read ds true first deep 0 body) u x) =
      turn-reads Outermost key test (does body Outermost loop) (does (nodes_read ds true first deep 0 body) Outermost loop) loop.outer x s u reads agree (λ a b f g. goes true body Outermost first deep 0 a b l d names t f g) in
      record { node = λ p y b. h.store.node p y b; with_outermost = h.with_outermost; deferred = h.deferred; fault = h.fault; below = h.outermost_below }) agree

-- ---- what is pushed

either-same : (a b c d : Bool) → a ≡ c → b ≡ d → a || b ≡ c || d
either-same a b c d p q = ap (λ z. z || b) p ∙ ap (λ z. c || z) q

module _ (ds : List Declaration) (n p : ℕ) (apart : (x : ℕ) → is_body_local ds x ≡ true → nat_eq x n ≡ false) where
  targets-elsewhere : (x y : ℕ) → nat_eq x n ≡ false → nat_eq y n ≡ false → (ts : List Target) → list_all (is_through x) ts ≡ true → list_any (is_elsewhere n p) (map (through y) ts) ≡ list_any (is_elsewhere n p) ts
  targets-elsewhere x y o q [] h = refl
  targets-elsewhere x y o q (T.Scalar z at ∷ ts) h = absurd (both_ways false refl h)
  targets-elsewhere x y o q (T.Property z r at ∷ ts) h =
      let u = both-true (nat_eq z x) (list_all (is_through x) ts) h in
      either-same _ _ _ _ (ap (λ b. not b && nat_eq r p) (q ∙ sym (ap (λ w. nat_eq w n) (eqb-true z x u.0) ∙ o))) (targets-elsewhere x y o q ts u.1)

  first-pushes : (o' : Bool) (j y : ℕ) (k : Key) (total : TotalKey) (o : Reduce) (ts : List Target) (es : List Expr) → nat_eq y n ≡ false → are_alike ts ≡ true → pushes (read_first o' (node_before ds ts) y k total o ts es) n p ≡ pushes (Combine k total o ts es) n p
  first-pushes o' j y k total o [] es q h = refl
  first-pushes o' j y k total o (T.Scalar x at ∷ ts) es q h = refl
  first-pushes o' j y k total o (T.Property x r at ∷ ts) es q h = by (is_body_local ds x) refl
    where
      s' : Stmt
      s' = sequence (Declare k y (Some (Var x at)) ∷ Combine k total o (map (through y) (T.Property x r at ∷ ts)) es ∷ [])

      both : (w : Bool) → pushes (separate w k (sequence (Declare k y (Some (Var x at)) ∷ Combine k total o (map (through y) (T.Property x r at ∷ ts)) es ∷ []))) n p ≡ pushes (sequence (Declare k y (Some (Var x at)) ∷ Combine k total o (map (through y) (T.Property x r at ∷ ts)) es ∷ [])) n p
      both true = or-false (pushes s' n p)
      both false = refl

      by : (c : Bool) → is_body_local ds x ≡ c → pushes (read_first o' (cond c (Some (Var x at)) None) y k total o (T.Property x r at ∷ ts) es) n p ≡ list_any (is_elsewhere n p) (T.Property x r at ∷ ts)
      by false e = refl
      by true e = both o' ∙ or-false (list_any (is_elsewhere n p) (map (through y) (T.Property x r at ∷ ts))) ∙ targets-elsewhere x y (apart x e) q (T.Property x r at ∷ ts) (ap (λ c. c && list_all (is_through x) ts) (eq-eqb x x refl) ∙ h)

  pub nodes-pushes : (o' : Bool) (first deep i : ℕ) (s : Stmt) → n < first → n < deep → targets_alike s ≡ true → pushes (nodes_read ds o' first deep i s) n p ≡ pushes s n p
  nodes-pushes o' first deep i (Then a b) l d t =
      let u = both-true (targets_alike a) (targets_alike b) t in either-same _ _ _ _ (nodes-pushes o' first deep i a l d u.0) (nodes-pushes o' first deep (i + nodes_in ds a) b l d u.1)
  nodes-pushes o' first deep i (If k c a b) l d t =
      let u = both-true (targets_alike a) (targets_alike b) t in either-same _ _ _ _ (nodes-pushes o' first deep i a l d u.0) (nodes-pushes o' first deep (i + nodes_in ds a) b l d u.1)
  nodes-pushes o' first deep i (Combine k total o ts es) l d t = first-pushes o' first (first + i) k total o ts es (ne_eqb (first + i) n (λ f. omega (arith, f, l))) (both-true (are_alike ts) (are_distinct (variables_of ts)) t).0
  nodes-pushes o' first deep i (Foreach k at hd test body) l d t = nodes-pushes false deep deep i body d d t
  nodes-pushes o' first deep i s l d t = refl

-- a local of a body is not the loop's iterator
pub local-off : (ds : List Declaration) (key : Key) (at : Place) (h : Head) (test : Expr) (body : Stmt) → list_all (suits ds) (uses_of (Foreach key at h test body)) ≡ true → (x : ℕ) → is_body_local ds x ≡ true → nat_eq x h.iterator ≡ false
local-off ds key at h test body named x e = by (nat_eq x n) refl
  where
    n : ℕ
    n = h.iterator

    by : (b : Bool) → nat_eq x n ≡ b → b ≡ false
    by true f = absurd (scalar-apart (variable_at ds n) (subst (λ z. sort_eq Sorts.Scalar (variable_at ds z).sort ≡ true) (eqb-true x n f) (both-true (sort_eq Sorts.Scalar (variable_at ds x).sort) (nat_eq (depth_at ds x) 1) e).0) (iterates-of ds key at h test body named))
    by false f = refl

-- ---- loops of a phase

module _ (ds : List Declaration) (run : Run) (first deep : ℕ) (high : length ds ≤ first) (higher : length ds ≤ deep) where
  pub nodes-alike : Rewrites ds run (nodes_loop ds first deep)
  nodes-alike key at h test body known u v alike = by (is_own_loop h.iterator body)
    where
      n : ℕ
      n = h.iterator

      inside : Stmt
      inside = nodes_read ds true first deep 0 body

      below : NamesBelow (length ds) (Foreach key at h test body)
      below = names-below ds (Foreach key at h test body) known.named

      apart : (x : ℕ) → is_body_local ds x ≡ true → nat_eq x n ≡ false
      apart x e = local-off ds key at h test body known.named x e

      t : targets_alike body ≡ true
      t = shares-alike ds n test body known.share

      read : AlikeCourses (length ds) (sequential (Foreach key at h test body) run u) (sequential (Foreach key at h test inside) run v)
      read =
          let loop : Loop = loop_of run no_levels n body in
          let alone : Change = looped (loop_of run no_levels n inside) key test inside in
          let law : SameChange (length ds) (looped loop key test body) (looped loop key test inside) = loop-reads (length ds) ds loop below.0 apart first deep key test body high higher below.2 below.3 t in
          let low = below.0 in
          let within : looped loop key test inside ≡ alone =
          ap (λ (f : ℕ → Bool). looped (record loop { pushed = f }) key test inside) (sym (fun_ext (λ y. nodes-pushes ds n y apart true first deep 0 body (omega (arith, low, high)) (omega (arith, low, higher)) t))) in
          courses-alike (length ds) u v (looped loop key test body u.store) (alone v.store) (subst (SameChange (length ds) (looped loop key test body)) within law u.store v.store alike.store) alike.turns

      by : (b : Bool) → AlikeCourses (length ds) (sequential (Foreach key at h test body) run u) (sequential (cond b (Foreach key at h test body) (Foreach key at h test inside)) run v)
      by true = sequential-alike (length ds) (Foreach key at h test body) run u v below alike
      by false = read
