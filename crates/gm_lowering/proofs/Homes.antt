-- The lines of an each at a vertex.
use Rattle.std.proofs.Common.{◌≡◌, ◌<◌, ℕ, Bool, true, false, Option, Some, None, Result, Ok, Err, List, [], ◌∷◌, ◌++◌, length, map, refl, ap, ◌∙◌, sym, subst, append_assoc}
use Rattle.std.specs.Prelude.{if◌then◌else◌, ◌&&◌, ◌||◌, not, nat_eq, nat_lt, slice_set, pos}
use Rattle.std.specs.List.{list_all}
use Rattle.std.proofs.lemmas.List.{length-set}
use Rattle.std.proofs.lemmas.Bool.{both_ways, eqb-true, eqb-false, ne_eqb, eq-eqb, ltb-true}
use Rattle.gm_base.specs.declared.places.Place.{Place}
use Rattle.gm_value.specs.declared.values.Value.{Value}
use Rattle.gm_value.specs.declared.values.Value.TheVariants.{I32, At}
use Rattle.gm_value.specs.declared.reductions.Reduce.{Reduce}
use Rattle.gm_model.specs.Graphs.{node_count, out_steps, in_steps}
use Rattle.gm_ast.specs.declared.tree.Direction.{Direction}
use Rattle.gm_ast.specs.declared.tree.Direction.TheVariants.{Out, In}
use Rattle.gm_ast.specs.declared.tree.Key.{Key}
use Rattle.gm_ast.specs.declared.tree.Sort.TheVariants as Sorts
use Rattle.gm_ast.specs.declared.tree.Target.{Target}
use Rattle.gm_ast.specs.declared.tree.Target.TheVariants as T
use Rattle.gm_ast.specs.declared.tree.TotalKey.{TotalKey}
use Rattle.gm_ast.specs.Names.{is}
use Rattle.gm_ast.specs.Program as S
use Rattle.gm_ast.specs.Program.{Expr}
use Rattle.gm_ast.specs.Ways.{is_in}
use Rattle.gm_forms.proofs.Named.{both-true}
use Rattle.gm_semantics.specs.declared.faults.Fault.{Fault}
use Rattle.gm_semantics.specs.declared.slots.Slot.TheVariants.{Scalar}
use Rattle.gm_semantics.specs.Contributions.{Contribution}
use Rattle.gm_semantics.specs.Expressions.{evaluated_all, at_node, degree_of, node_held}
use Rattle.gm_semantics.specs.Faults.{then_with}
use Rattle.gm_semantics.specs.Iterations.{Loop, Mode, AtEdge, WithInner, WithOutermost, Iteration, AtOnce, own_ends, ends_of_all, later, view_in, failed, with_ok, contribution, gave_inner, gave_outermost, reduced, wrote, does}
use Rattle.gm_semantics.specs.Levels.{node_in}
use Rattle.gm_semantics.specs.Statements.{variable_at}
use Rattle.gm_image.specs.Parts as parts
use Rattle.gm_image.specs.Program as image
use Rattle.gm_image.specs.Program.{Line, Fold}
use Rattle.gm_image.specs.Term as M
use Rattle.gm_image.specs.Term.{Term}
use Rattle.gm_machine.specs.Expressions.{value as term_value, values, value_at, edge_value_at}
use Rattle.gm_machine.specs.Faults.{then_go}
use Rattle.gm_machine.specs.Taking.{Contribution as Given, contributed}
use Rattle.gm_machine.specs.Vertex.{VertexContext, VertexState, After, view, gives, line_ends, leaves, goes_on, lines_after}
use Rattle.gm_lowering.specs.Layouts.{Layout, is_global, is_register, has_value}
use Rattle.gm_lowering.specs.Places.{Segment}
use Rattle.gm_lowering.specs.Terms.{Env, term, phase_scalar, vertex_scalar, own_degree, own_env, each_env}
use Rattle.gm_lowering.specs.Plans.{Load, SenderProperty, SenderDegree, load_if, loads_in, way_of}
use Rattle.gm_lowering.specs.Bodies.{image_targets, reduce_lines}
use Rattle.gm_lowering.specs.Blocks.{each_site}
use Rattle.gm_lowering.specs.Showing.{answer_of, Tells}
use Rattle.gm_lowering.specs.Sites.{are_of_scalars, finds, finds_scalar, finds_node, same_length, is_local, slot_at, given, phase_value, IsInGraph, HoldLocals, HoldProperties, IsApart}
use Rattle.gm_lowering.specs.OwnLoops.{is_declared, puts_to_scalars, folds_to}
use Rattle.gm_lowering.specs.MessageLoops.{sets_nothing, receiver_gives, is_to_scalars, is_to_nodes}
use Rattle.gm_lowering.specs.HomeTurns.{is_at_edge, home_finds, HomeGave}
use Rattle.gm_lowering.proofs.Bodies.{Ends as Ending, Holds, Anywhere}
use Rattle.gm_lowering.proofs.Givens.{AllTell, are_scalars, values-all, none-hoisted, terms-of, slots-of, assigned-is, put-ends, node_slots, are_kept, node-numbers, node-slots, folds-way, node-in}
use Rattle.gm_lowering.proofs.Own.{after-set, live-same, phase-term, global-has_value, global-no_register}
use Rattle.gm_lowering.proofs.PutFacts.{puts-way}

-- reductions to properties of the outer iterator end with the inner loop
pub own-end : (c : Layout) (loop : Loop) (edge : ℕ) (t : Target) (ts : List Target) → ((p : ℕ) → loop.pushed p ≡ false) → are_kept c loop.outer (t ∷ ts) ≡ true → ends_of_all (AtEdge edge) loop (t ∷ ts) ≡ WithInner
own-end c loop edge (T.Scalar x at) ts own h = absurd (both_ways false refl h)
own-end c loop edge (T.Property x p at) [] own h =
    let r = both-true (nat_eq x loop.outer) (c.is_kept p) (both-true (nat_eq x loop.outer && c.is_kept p) true h).0 in
    ap (λ b. later (if b then own_ends (AtEdge edge) (loop.pushed p) else WithOutermost) AtOnce) r.0
    ∙ ap (λ b. later (own_ends (AtEdge edge) b) AtOnce) (own p)
own-end c loop edge (T.Property x p at) (u ∷ ts) own h =
    let q = both-true (nat_eq x loop.outer && c.is_kept p) (are_kept c loop.outer (u ∷ ts)) h in
    let r = both-true (nat_eq x loop.outer) (c.is_kept p) q.0 in
    ap (λ b. later (if b then own_ends (AtEdge edge) (loop.pushed p) else WithOutermost) (ends_of_all (AtEdge edge) loop (u ∷ ts))) r.0
    ∙ ap (λ b. later (own_ends (AtEdge edge) b) (ends_of_all (AtEdge edge) loop (u ∷ ts))) (own p)
    ∙ ap (later WithInner) (own-end c loop edge u ts own q.1)

-- a fold line of an each gives its values, which end with the inner loop
module _ (c : Layout) (v : Env) (loop : Loop) (edge : ℕ) (s : VertexContext) (run : List Line → ℕ → VertexState → After) (Shows Gave : Iteration → VertexState → Type 0) (j : ℕ)
    (own : (p : ℕ) → loop.pushed p ≡ false)
    (fold_runs : (r : Reduce) (place : ℕ) (ts : List image.Target) (ls : List Line) (w : VertexState)
    → run (Fold r place ts ∷ ls) 0 w ≡ goes_on (line_ends w (gives (view s w) r place ts) (λ g. leaves (record w { folds = w.folds ++ g }))) (λ k u. run ls k u))
    (fine : (it : Iteration) (w : VertexState) → Shows it w → it.fault ≡ None)
    (gave_failed : (it : Iteration) (w : VertexState) (f : Fault) → Shows it w → Gave (failed it f) w)
    (at_node : (it : Iteration) (w : VertexState) (k : Key) → Shows it w → node_in loop.graph (it.store.scalar loop.outer) ≡ Some j)
    (folds : (it : Iteration) (w : VertexState) (a : Contribution) → are_of_scalars a.slots ≡ false → Shows it w → Shows (gave_inner it a) (record w { folds = w.folds ++ given c v a ∷ [] })) where
  abbrev i : ℕ
  i = loop.outer

  abbrev at_edge : Mode
  at_edge = AtEdge edge

  fold-by : (total : TotalKey) (r : Reduce) (t : Target) (ts : List Target) (terms : List Term) (answer : Result (List Value) Fault) (it : Iteration) (w : VertexState) (rest : List Line) → Shows it w
      → are_kept c i (t ∷ ts) ≡ true → same_length (t ∷ ts) terms ≡ true
      → values (view s w) terms ≡ answer_of v answer
      → let out = with_ok it (then_with answer (λ xs. Ok (node_slots j (t ∷ ts), xs))) (λ p. gave_inner it (contribution total r p)) in
      Ending v run Shows Gave (Fold r (v.place total.key total.place) (image_targets c (t ∷ ts) terms) ∷ []) rest w out out.fault
  fold-by total r t ts terms (Ok xs) it w rest q o n e =
      let a = contribution total r (node_slots j (t ∷ ts), xs) in
      let place = v.place total.key total.place in
      let targets = image_targets c (t ∷ ts) terms in
      let go = λ (g : List Given). leaves (record w { folds = w.folds ++ g }) in
      let same : gives (view s w) r place targets ≡ Ok (given c v a ∷ []) =
      ap (λ ys. then_go (values (view s w) ys) (λ vs. Ok (contributed place r (parts.slots_of targets) vs))) (terms-of c (t ∷ ts) terms n)
      ∙ ap (λ u. then_go u (λ vs. Ok (contributed place r (parts.slots_of targets) vs))) e
      ∙ ap (λ ss. Ok (contributed place r ss xs)) (slots-of c (t ∷ ts) terms n ∙ sym (node-numbers c i j (t ∷ ts) o))
      ∙ ap Ok (one-given t ts o) in
      subst (Ending v run Shows Gave (Fold r place targets ∷ []) rest w (gave_inner it a)) (sym (fine it w q)) (
        record w { folds = w.folds ++ given c v a ∷ [] },
        folds it w a (not-scalars t ts o) q,
        fold_runs r place targets rest w ∙ ap (λ u. goes_on (line_ends w u go) (λ k u. run rest k u)) same,
      ) where
        one-given : (t : Target) (ts : List Target) → are_kept c i (t ∷ ts) ≡ true
            → contributed (v.place total.key total.place) r (map (slot_at c) (node_slots j (t ∷ ts))) xs ≡ given c v (contribution total r (node_slots j (t ∷ ts), xs)) ∷ []
        one-given (T.Property x p at) ts h = refl
        one-given (T.Scalar x at) ts h = absurd (both_ways false refl h)

        not-scalars : (t : Target) (ts : List Target) → are_kept c i (t ∷ ts) ≡ true → are_of_scalars (node_slots j (t ∷ ts)) ≡ false
        not-scalars (T.Property x p at) ts h = refl
        not-scalars (T.Scalar x at) ts h = absurd (both_ways false refl h)
  fold-by total r t ts terms (Err f) it w rest q o n e =
      let place = v.place total.key total.place in
      let targets = image_targets c (t ∷ ts) terms in
      let go = λ (g : List Given). leaves (record w { folds = w.folds ++ g }) in (
        w,
        gave_failed it w f q,
        fold_runs r place targets rest w
            ∙ ap (λ ys. goes_on (line_ends w (then_go (values (view s w) ys) (λ vs. Ok (contributed place r (parts.slots_of targets) vs))) go) (λ k u. run rest k u)) (terms-of c (t ∷ ts) terms n)
            ∙ ap (λ u. goes_on (line_ends w (then_go u (λ vs. Ok (contributed place r (parts.slots_of targets) vs))) go) (λ k u. run rest k u)) e,
      )

  -- a reduction to properties of the node is what its fold gives
  pub fold-ends : (k : Key) (total : TotalKey) (r : Reduce) (t : Target) (ts : List Target) (es : List Expr) (it : Iteration) (w : VertexState) (rest : List Line) → Shows it w
      → are_kept c i (t ∷ ts) ≡ true → same_length (t ∷ ts) es ≡ true
      → AllTell v (view_in loop at_edge it k) (view s w) es
      → let out = does (S.Combine k total r (t ∷ ts) es) at_edge loop it in
      Ending v run Shows Gave (Fold r (v.place total.key total.place) (image_targets c (t ∷ ts) (map (term v k) es)) ∷ []) rest w out out.fault
  fold-ends k total r t ts es it w rest q o n tell =
      let u = view_in loop at_edge it k in
      let same : does (S.Combine k total r (t ∷ ts) es) at_edge loop it ≡ with_ok it (then_with (evaluated_all es u).rest (λ xs. Ok (node_slots j (t ∷ ts), xs))) (λ p. gave_inner it (contribution total r p)) =
      ap (λ e. reduced e u it total r (t ∷ ts) es) (own-end c loop edge t ts own o)
      ∙ ap (λ a. with_ok it a (λ p. gave_inner it (contribution total r p)))
      (assigned-is u (t ∷ ts) (evaluated_all es u) (node_slots j (t ∷ ts)) (none-hoisted v u (view s w) es refl tell) (node-slots c i j u (t ∷ ts) o (at_node it w k q))) in
      subst (λ out. Ending v run Shows Gave (Fold r (v.place total.key total.place) (image_targets c (t ∷ ts) (map (term v k) es)) ∷ []) rest w out out.fault) (sym same)
      (fold-by total r t ts (map (term v k) es) (evaluated_all es u).rest it w rest q o (same-map (t ∷ ts) es (term v k) n) (values-all v u (view s w) es tell)) where
        same-map : {A B C : Type 0} (ts : List A) (es : List B) (f : B → C) → same_length ts es ≡ true → same_length ts (map f es) ≡ true
        same-map [] [] f h = h
        same-map [] (e ∷ es) f h = h
        same-map (t ∷ ts) [] f h = h
        same-map (t ∷ ts) (e ∷ es) f h = same-map ts es f h

-- a vertex in an each at node k shows a turn at an edge to node j
pub record HomeShows (c : Layout) (loop : Loop) (i k j edge registers fields : ℕ) (s : VertexContext) (it : Iteration) (w : VertexState) : Type 0 where
  pub fine : it.fault ≡ None
  pub node : s.node ≡ k
  pub near : s.near.node ≡ j
  pub graph : s.graph ≡ loop.graph
  pub inside : k < node_count loop.graph
  pub near_inside : j < node_count loop.graph
  pub at_outer : it.store.scalar loop.outer ≡ At (Some k)
  pub at_inner : it.store.scalar i ≡ At (Some j)
  pub phase : (x : ℕ) → nat_eq x loop.outer ≡ false → nat_eq x i ≡ false → x < length c.declarations → is_register (variable_at c.declarations x) ≡ false → has_value (variable_at c.declarations x) ≡ true
      → phase_value c s.globals x ≡ it.store.scalar x
  pub in_graph : (x : ℕ) → nat_eq x loop.outer ≡ false → nat_eq x i ≡ false → x < length c.declarations → is_global (variable_at c.declarations x) ≡ true → IsInGraph loop.graph (it.store.scalar x)
  pub locals : HoldLocals c w.registers it.store
  pub properties : HoldProperties c w.fields k it.store
  pub edges : (p : ℕ) → p < length c.declarations → is Sorts.EdgeProperty (variable_at c.declarations p) ≡ true → edge_value_at s.graph (c.column p) s.near.edge ≡ it.store.edge p edge
  pub register_count : length w.registers ≡ registers
  pub field_count : length w.fields ≡ fields

or-false : (a b : Bool) → a ≡ false → a || b ≡ true → b ≡ true
or-false a b e h = ap (λ x. x || b) (sym e) ∙ h

module _ (c : Layout) (seg : Segment) (loop : Loop) (i k j edge registers fields : ℕ) (s : VertexContext) (before : VertexState)
    (apart : IsApart c registers fields)
    (unlike_outer : is_register (variable_at c.declarations loop.outer) ≡ false)
    (unlike_inner : is_register (variable_at c.declarations i) ≡ false)
    (two : nat_eq i loop.outer ≡ false)
    (type_is : (x : ℕ) → loop.vtype x ≡ (variable_at c.declarations x).vtype)
    (depth_is : (x : ℕ) → loop.depth x ≡ (variable_at c.declarations x).depth)
    (own : (p : ℕ) → loop.pushed p ≡ false) where
  abbrev n : ℕ
  n = loop.outer

  abbrev its : List ℕ
  its = n ∷ i ∷ []

  abbrev v : Env
  v = each_env c seg n i

  abbrev m : Mode
  m = AtEdge edge

  abbrev found : Expr → Bool
  found = home_finds c n i

  abbrev Gave : Iteration → VertexState → Type 0
  Gave it w = HomeGave c v before it w

  abbrev pub Shows : Iteration → VertexState → Type 0
  Shows it w = HomeShows c loop i k j edge registers fields s it w × HomeGave c v before it w

  abbrev run : List Line → ℕ → VertexState → After
  run = lines_after s

  -- one of the two iterators
  in-two : (x : ℕ) → is_in its x ≡ true → nat_eq x n ≡ false → nat_eq x i ≡ true
  in-two x o e = or-last (nat_eq x i) (or-false (nat_eq x n) (nat_eq x i || false) e o) where
    or-last : (b : Bool) → b || false ≡ true → b ≡ true
    or-last true h = refl
    or-last false h = h

  not-in : (x : ℕ) (b : Bool) → nat_eq x n ≡ false → nat_eq x i ≡ false → is_in its x || b ≡ true → b ≡ true
  not-in x b e f o = or-false (is_in its x) b (ap (λ z. z || (nat_eq x i || false)) e ∙ ap (λ z. z || false) f) o

  -- a scalar that is no iterator
  plain-is : (it : Iteration) (w : VertexState) (x : ℕ) (b : Bool) → is_register (variable_at c.declarations x) ≡ b → nat_eq x n ≡ false → nat_eq x i ≡ false → x < length c.declarations → has_value (variable_at c.declarations x) ≡ true → Shows it w
      → term_value (view s w) (if b then M.Register (c.register x) else phase_scalar c x) ≡ Ok (it.store.scalar x)
  plain-is it w x true e f g lt d q = ap Ok (q.0.locals x lt e)
  plain-is it w x false e f g lt d q = phase-term c s w x ∙ ap Ok (q.0.phase x f g lt e d)

  -- a scalar by what it is
  scalar-by : (it : Iteration) (w : VertexState) (x : ℕ) → Shows it w
      → (nat_eq x n ≡ false → nat_eq x i ≡ false → (x < length c.declarations) × (has_value (variable_at c.declarations x) ≡ true))
      → term_value (view s w) (v.scalar x) ≡ Ok (it.store.scalar x)
  scalar-by it w x q plain = by (nat_eq x i) refl where
    other : (b : Bool) → nat_eq x n ≡ b → nat_eq x i ≡ false → term_value (view s w) (if b then M.Self else vertex_scalar c x) ≡ Ok (it.store.scalar x)
    other true e f = ap (λ z. Ok (At (Some z))) q.0.node ∙ ap Ok (sym q.0.at_outer) ∙ ap (λ y. Ok (it.store.scalar y)) (sym (eqb-true x n e))
    other false e f = let t = plain e f in plain-is it w x (is_register (variable_at c.declarations x)) refl e f t.0 t.1 q

    by : (b : Bool) → nat_eq x i ≡ b → term_value (view s w) (if b then M.Neighbour else (own_env c seg n).scalar x) ≡ Ok (it.store.scalar x)
    by true e = ap (λ z. Ok (At (Some z))) q.0.near ∙ ap Ok (sym q.0.at_inner) ∙ ap (λ y. Ok (it.store.scalar y)) (sym (eqb-true x i e))
    by false e = other (nat_eq x n) refl e

  scalar-is : (it : Iteration) (w : VertexState) (x : ℕ) → finds_scalar c its x ≡ true → Shows it w → term_value (view s w) (v.scalar x) ≡ Ok (it.store.scalar x)
  scalar-is it w x o q =
      scalar-by it w x q (λ e f.
      let d = not-in x (nat_lt x (length c.declarations) && has_value (variable_at c.declarations x)) e f o in
      let t = both-true (nat_lt x (length c.declarations)) (has_value (variable_at c.declarations x)) d in
      (ltb-true x (length c.declarations) t.0, t.1))

  node-scalar : (it : Iteration) (w : VertexState) (x : ℕ) → finds_node c its x ≡ true → Shows it w → term_value (view s w) (v.scalar x) ≡ Ok (it.store.scalar x)
  node-scalar it w x o q =
      scalar-by it w x q (λ e f.
      let d = not-in x (nat_lt x (length c.declarations) && is_global (variable_at c.declarations x)) e f o in
      let t = both-true (nat_lt x (length c.declarations)) (is_global (variable_at c.declarations x)) d in
      (ltb-true x (length c.declarations) t.0, global-has_value (variable_at c.declarations x) t.1))

  is-node : (a : Value) (z : ℕ) → a ≡ At (Some z) → z < node_count loop.graph → IsInGraph loop.graph a
  is-node a z e lt y h = subst (λ b. b < node_count loop.graph) (ap node_or (sym e ∙ h)) lt where
    node_or : Value → ℕ
    node_or (At (Some b)) = b
    node_or _ = 0

  in-graph : (it : Iteration) (w : VertexState) (x : ℕ) → finds_node c its x ≡ true → Shows it w → IsInGraph loop.graph (it.store.scalar x)
  in-graph it w x o q = by (nat_eq x n) (nat_eq x i) refl refl where
    by : (a b : Bool) → nat_eq x n ≡ a → nat_eq x i ≡ b → IsInGraph loop.graph (it.store.scalar x)
    by true b e f = is-node (it.store.scalar x) k (ap it.store.scalar (eqb-true x n e) ∙ q.0.at_outer) q.0.inside
    by false true e f = is-node (it.store.scalar x) j (ap it.store.scalar (eqb-true x i f) ∙ q.0.at_inner) q.0.near_inside
    by false false e f =
        let d = not-in x (nat_lt x (length c.declarations) && is_global (variable_at c.declarations x)) e f o in
        let t = both-true (nat_lt x (length c.declarations)) (is_global (variable_at c.declarations x)) d in
        q.0.in_graph x e f (ltb-true x (length c.declarations) t.0) t.1

  -- what stands at one of the two nodes
  stands : (it : Iteration) (key : Key) (x : ℕ) (at : Place) (f : ℕ → Value) (z : ℕ) → it.store.scalar x ≡ At (Some z) → z < node_count loop.graph → at_node (view_in loop m it key) x at f ≡ Ok (f z)
  stands it key x at f z e lt =
      let u = view_in loop m it key in
      ap (λ a. then_with (node_held u at (node_in loop.graph a)) (λ b. Ok (f b))) e ∙ ap (λ a. then_with (node_held u at a) (λ b. Ok (f b))) (node-in loop.graph z lt)

  -- properties and degrees are read of the own node alone
  own-read : (x : ℕ) (load : Load) → is_at_edge load ≡ false → is_in its x ≡ true → list_all is_at_edge (load_if i x load) ≡ true → nat_eq x n ≡ true
  own-read x load off o l = by (nat_eq x i) refl where
    front : (b : Bool) → nat_eq x i ≡ false → b || (nat_eq x i || false) ≡ true → b ≡ true
    front true e h = refl
    front false e h = absurd (both_ways (nat_eq x i || false) (ap (λ z. z || false) e) h)

    by : (b : Bool) → nat_eq x i ≡ b → nat_eq x n ≡ true
    by true e = absurd (both_ways (is_at_edge load) off (both-true (is_at_edge load) true (ap (λ z. list_all is_at_edge (if z then load ∷ [] else [])) (sym e) ∙ l)).0)
    by false e = front (nat_eq x n) e o

  property-is : (it : Iteration) (w : VertexState) (key : Key) (x p : ℕ) (at : Place) → is_in its x ≡ true → c.is_kept p ≡ true → list_all is_at_edge (load_if i x (SenderProperty p)) ≡ true → Shows it w
      → term_value (view s w) (v.property x p) ≡ answer_of v (at_node (view_in loop m it key) x at (it.store.node p))
  property-is it w key x p at o kept l q =
      let e = own-read x (SenderProperty p) refl o l in
      ap Ok (q.0.properties p kept)
      ∙ ap (answer_of v) (sym (stands it key x at (it.store.node p) k (ap it.store.scalar (eqb-true x n e) ∙ q.0.at_outer) q.0.inside))

  degree-is : (it : Iteration) (w : VertexState) (key : Key) (d : Direction) (x : ℕ) (at : Place) → is_in its x ≡ true → list_all is_at_edge (load_if i x (SenderDegree d)) ≡ true → Shows it w
      → term_value (view s w) (v.degree d x) ≡ answer_of v (at_node (view_in loop m it key) x at (degree_of (view_in loop m it key) d))
  degree-is it w key d x at o l q =
      let e = own-read x (SenderDegree d) refl o l in
      at_own d ∙ ap (answer_of v) (sym (stands it key x at (degree_of (view_in loop m it key) d) k (ap it.store.scalar (eqb-true x n e) ∙ q.0.at_outer) q.0.inside)) where
        at_own : (d : Direction) → term_value (view s w) (own_degree d) ≡ Ok (degree_of (view_in loop m it key) d k)
        at_own Out = ap (λ z. Ok (I32 (pos (length (out_steps s.graph z))))) q.0.node ∙ ap (λ y. Ok (I32 (pos (length (out_steps y k))))) q.0.graph
        at_own In = ap (λ z. Ok (I32 (pos (length (in_steps s.graph z))))) q.0.node ∙ ap (λ y. Ok (I32 (pos (length (in_steps y k))))) q.0.graph

  -- loads of two parts
  parts-front : (xs ys : List Load) → list_all (is_at_edge) (xs ++ ys) ≡ true → (list_all (is_at_edge) xs ≡ true) × (list_all (is_at_edge) ys ≡ true)
  parts-front [] ys h = (refl, h)
  parts-front (x ∷ xs) ys h =
      let q = both-true (is_at_edge x) (list_all (is_at_edge) (xs ++ ys)) h in
      let r = parts-front xs ys q.1 in
      (ap (λ b. b && list_all (is_at_edge) xs) q.0 ∙ r.0, r.1)

  abbrev found_of : Expr → Bool
  found_of = finds c its true

  abbrev carried_of : Expr → Bool
  carried_of e = list_all (is_at_edge) (loads_in i e)

  tells-by : (it : Iteration) (w : VertexState) (key : Key) (e : Expr) → found_of e ≡ true → carried_of e ≡ true → Shows it w → Tells v (view_in loop m it key) (view s w) e
  tells-by it w key (S.Const a) o l q = tt
  tells-by it w key (S.Var x at) o l q = scalar-is it w x o q
  tells-by it w key (S.Property x p at) o l q = let t = both-true (is_in its x) (c.is_kept p) o in property-is it w key x p at t.0 t.1 l q
  tells-by it w key (S.EdgeProperty x p at) o l q =
      let t = both-true (nat_lt p (length c.declarations)) (is Sorts.EdgeProperty (variable_at c.declarations p)) o in
      ap Ok (q.0.edges p (ltb-true p (length c.declarations) t.0) t.1)
  tells-by it w key (S.Degree d x at) o l q = degree-is it w key d x at o l q
  tells-by it w key S.NodeCount o l q = q.0.graph
  tells-by it w key S.EdgeCount o l q = q.0.graph
  tells-by it w key (S.Live x at) o l q = (node-scalar it w x o q, live-same v (view_in loop m it key) at (it.store.scalar x) (in-graph it w x o q))
  tells-by it w key (S.Unary op at a) o l q = tells-by it w key a o l q
  tells-by it w key (S.Binary op at a b) o l q =
      let t = both-true (found_of a) (found_of b) o in
      let u = parts-front (loads_in i a) (loads_in i b) l in
      (tells-by it w key a t.0 u.0 q, tells-by it w key b t.1 u.1 q)
  tells-by it w key (S.Both a b) o l q =
      let t = both-true (found_of a) (found_of b) o in
      let u = parts-front (loads_in i a) (loads_in i b) l in
      (tells-by it w key a t.0 u.0 q, tells-by it w key b t.1 u.1 q)
  tells-by it w key (S.Either a b) o l q =
      let t = both-true (found_of a) (found_of b) o in
      let u = parts-front (loads_in i a) (loads_in i b) l in
      (tells-by it w key a t.0 u.0 q, tells-by it w key b t.1 u.1 q)
  tells-by it w key (S.Choose e a b) o l q =
      let t = both-true (found_of e) (found_of a && found_of b) o in
      let tt2 = both-true (found_of a) (found_of b) t.1 in
      let u = parts-front (loads_in i e) (loads_in i a ++ loads_in i b) l in
      let uu2 = parts-front (loads_in i a) (loads_in i b) u.1 in
      (tells-by it w key e t.0 u.0 q, tells-by it w key a tt2.0 uu2.0 q, tells-by it w key b tt2.1 uu2.1 q)
  tells-by it w key (S.Folded f h e a) o l q = absurd (both_ways false refl o)

  tells : (it : Iteration) (w : VertexState) (key : Key) (e : Expr) → found e ≡ true → Shows it w → Tells v (view_in loop m it key) (view s w) e
  tells it w key e o q = let t = both-true (found_of e) (carried_of e) o in tells-by it w key e t.0 t.1 q

  all-tell : (it : Iteration) (w : VertexState) (key : Key) (es : List Expr) → list_all found es ≡ true → Shows it w → AllTell v (view_in loop m it key) (view s w) es
  all-tell it w key [] o q = tt
  all-tell it w key (e ∷ es) o q = let t = both-true (found e) (list_all found es) o in (tells it w key e t.0 q, all-tell it w key es t.1 q)

  unlike_local : (x y : ℕ) → is_register (variable_at c.declarations x) ≡ true → is_register (variable_at c.declarations y) ≡ false → nat_eq x y ≡ false
  unlike_local x y e f = ne_eqb x y (λ z. both_ways (is_register (variable_at c.declarations y)) f (ap (λ b. is_register (variable_at c.declarations b)) (sym z) ∙ e))

  local : (it : Iteration) (w : VertexState) (x : ℕ) (a : Value) → is_local c x ≡ true → Shows it w → Shows (wrote it (Scalar x, a)) (record w { registers = slice_set w.registers (c.register x) a })
  local it w x a o q =
      let t = both-true (nat_lt x (length c.declarations)) (is_register (variable_at c.declarations x)) o in
      let lt = ltb-true x (length c.declarations) t.0 in
      let within = subst (λ z. c.register x < z) (sym q.0.register_count) (apart.register_within x lt t.1) in (
        record {
          fine = q.0.fine;
          node = q.0.node;
          graph = q.0.graph;
          near = q.0.near;
          inside = q.0.inside;
          near_inside = q.0.near_inside;
          at_outer = ap (λ b. if b then a else it.store.scalar n) (unlike_local x n t.1 unlike_outer) ∙ q.0.at_outer;
          at_inner = ap (λ b. if b then a else it.store.scalar i) (unlike_local x i t.1 unlike_inner) ∙ q.0.at_inner;
          phase = λ y f h l e g. q.0.phase y f h l e g ∙ sym (ap (λ b. if b then a else it.store.scalar y) (unlike_local x y t.1 e));
          in_graph = λ y f h l e. subst (IsInGraph loop.graph) (sym (ap (λ b. if b then a else it.store.scalar y) (unlike_local x y t.1 (global-no_register (variable_at c.declarations y) e)))) (q.0.in_graph y f h l e);
          locals = λ y l e.
              after-set w.registers (c.register x) a (c.register y) within
              ∙ ap (λ b. if b then a else value_at w.registers (c.register y)) (same-register x y lt l t.1 e)
              ∙ ap (λ u. if nat_eq x y then a else u) (q.0.locals y l e);
          properties = q.0.properties;
          edges = q.0.edges;
          register_count = length-set w.registers (c.register x) a ∙ q.0.register_count;
          field_count = q.0.field_count;
        },
        record { puts = q.1.puts; folds = q.1.folds; scalars = q.1.scalars; nodes = q.1.nodes; messages = q.1.messages; fields = q.1.fields; count = length-set w.registers (c.register x) a ∙ q.1.count; deferred = q.1.deferred },
      ) where
        same-register : (x y : ℕ) → x < length c.declarations → y < length c.declarations → is_register (variable_at c.declarations x) ≡ true → is_register (variable_at c.declarations y) ≡ true
            → nat_eq (c.register x) (c.register y) ≡ nat_eq x y
        same-register x y l h e f = by (nat_eq (c.register x) (c.register y)) refl where
          by : (b : Bool) → nat_eq (c.register x) (c.register y) ≡ b → b ≡ nat_eq x y
          by true z = sym (eq-eqb x y (apart.registers_apart x y l h e f (eqb-true (c.register x) (c.register y) z)))
          by false z = sym (ne_eqb x y (λ g. eqb-false (c.register x) (c.register y) z (ap c.register g)))

  gave-failed : (it : Iteration) (w : VertexState) (f : Fault) → Gave it w → Gave (failed it f) w
  gave-failed it w f g = record { puts = g.puts; folds = g.folds; scalars = g.scalars; nodes = g.nodes; messages = g.messages; fields = g.fields; count = g.count; deferred = g.deferred }

  map-both : {A B : Type 0} (f : A → B) (xs ys : List A) → map f (xs ++ ys) ≡ map f xs ++ map f ys
  map-both f [] ys = refl
  map-both f (x ∷ xs) ys = ap (λ l. f x ∷ l) (map-both f xs ys)

  -- one more
  one-more : (xs : List Contribution) (a : Contribution) (gs first : List Given) → gs ≡ first ++ map (given c v) xs → gs ++ given c v a ∷ [] ≡ first ++ map (given c v) (xs ++ a ∷ [])
  one-more xs a gs first e =
      ap (λ l. l ++ given c v a ∷ []) e
      ∙ append_assoc first (map (given c v) xs) (given c v a ∷ [])
      ∙ ap (λ l. first ++ l) (sym (map-both (given c v) xs (a ∷ [])))

  all-more : (xs : List Contribution) (a : Contribution) → list_all is_to_nodes xs ≡ true → are_of_scalars a.slots ≡ false → list_all is_to_nodes (xs ++ a ∷ []) ≡ true
  all-more [] a h o = ap (λ b. not b && true) o
  all-more (x ∷ xs) a h o =
      let q = both-true (is_to_nodes x) (list_all is_to_nodes xs) h in ap (λ b. b && list_all is_to_nodes (xs ++ a ∷ [])) q.0 ∙ all-more xs a q.1 o

  all-scalars : (xs : List Contribution) (a : Contribution) → list_all is_to_scalars xs ≡ true → are_of_scalars a.slots ≡ true → list_all is_to_scalars (xs ++ a ∷ []) ≡ true
  all-scalars [] a h o = ap (λ b. b && true) o
  all-scalars (x ∷ xs) a h o =
      let q = both-true (is_to_scalars x) (list_all is_to_scalars xs) h in ap (λ b. b && list_all is_to_scalars (xs ++ a ∷ [])) q.0 ∙ all-scalars xs a q.1 o

  folds : (it : Iteration) (w : VertexState) (a : Contribution) → are_of_scalars a.slots ≡ false → Shows it w → Shows (gave_inner it a) (record w { folds = w.folds ++ given c v a ∷ [] })
  folds it w a o q = (
    record {
      fine = q.0.fine;
      node = q.0.node;
      near = q.0.near;
      graph = q.0.graph;
      inside = q.0.inside;
      near_inside = q.0.near_inside;
      at_outer = q.0.at_outer;
      at_inner = q.0.at_inner;
      phase = q.0.phase;
      in_graph = q.0.in_graph;
      locals = q.0.locals;
      properties = q.0.properties;
      edges = q.0.edges;
      register_count = q.0.register_count;
      field_count = q.0.field_count;
    },
    record {
      puts = q.1.puts;
      folds = one-more it.with_inner a w.folds before.folds q.1.folds;
      scalars = q.1.scalars;
      nodes = all-more it.with_inner a q.1.nodes o;
      messages = q.1.messages;
      fields = q.1.fields;
      count = q.1.count;
      deferred = q.1.deferred;
    },
  )

  puts : (it : Iteration) (w : VertexState) (a : Contribution) → are_of_scalars a.slots ≡ true → Shows it w → Shows (gave_outermost it a) (record w { puts = w.puts ++ given c v a ∷ [] })
  puts it w a o q = (
    record {
      fine = q.0.fine;
      node = q.0.node;
      near = q.0.near;
      graph = q.0.graph;
      inside = q.0.inside;
      near_inside = q.0.near_inside;
      at_outer = q.0.at_outer;
      at_inner = q.0.at_inner;
      phase = q.0.phase;
      in_graph = q.0.in_graph;
      locals = q.0.locals;
      properties = q.0.properties;
      edges = q.0.edges;
      register_count = q.0.register_count;
      field_count = q.0.field_count;
    },
    record {
      puts = one-more it.with_outermost a w.puts before.puts q.1.puts;
      folds = q.1.folds;
      scalars = all-scalars it.with_outermost a q.1.scalars o;
      nodes = q.1.nodes;
      messages = q.1.messages;
      fields = q.1.fields;
      count = q.1.count;
      deferred = q.1.deferred;
    },
  )

  abbrev Ended : List Line → List Line → VertexState → Iteration → Option Fault → Type 0
  Ended = Ending v run Shows Gave

  put-case : (kind : ℕ) (key : Key) (total : TotalKey) (r : Reduce) (ts : List Target) (es : List Expr) (it : Iteration) (w : VertexState) (rest : List Line) → puts_to_scalars c found r ts es ≡ true → Shows it w
      → let out = does (S.Combine key total r ts es) m loop it in
      Ended (reduce_lines (each_site c seg n i) kind (way_of c.declarations n ts) key total r ts (map (term v key) es)) rest w out out.fault
  put-case kind key total r [] es it w rest o q = absurd (both_ways false refl o)
  put-case kind key total r (t ∷ ts) es it w rest o q =
      let x = both-true (are_scalars c (t ∷ ts)) (list_all (is_declared c) (t ∷ ts) && (same_length (t ∷ ts) es && list_all found es)) o in
      let z = both-true (list_all (is_declared c) (t ∷ ts)) (same_length (t ∷ ts) es && list_all found es) x.1 in
      let y = both-true (same_length (t ∷ ts) es) (list_all found es) z.1 in
      let out = does (S.Combine key total r (t ∷ ts) es) m loop it in
      subst (λ way. Ended (reduce_lines (each_site c seg n i) kind way key total r (t ∷ ts) (map (term v key) es)) rest w out out.fault) (sym (puts-way c n (t ∷ ts) x.0))
      (put-ends c v loop m s run Shows Gave depth_is (λ r' place targets ls u. refl) (λ a u b. b.0.fine) (λ a u f b. gave-failed a u f b.1) puts
      key total r t ts es it w rest q x.0 y.0 (all-tell it w key es y.1 q))

  fold-case : (kind : ℕ) (key : Key) (total : TotalKey) (r : Reduce) (ts : List Target) (es : List Expr) (it : Iteration) (w : VertexState) (rest : List Line) → folds_to c n found r ts es ≡ true → Shows it w
      → let out = does (S.Combine key total r ts es) m loop it in
      Ended (reduce_lines (each_site c seg n i) kind (way_of c.declarations n ts) key total r ts (map (term v key) es)) rest w out out.fault
  fold-case kind key total r [] es it w rest o q = absurd (both_ways false refl o)
  fold-case kind key total r (t ∷ ts) es it w rest o q =
      let x = both-true (are_kept c n (t ∷ ts)) (same_length (t ∷ ts) es && list_all found es) o in
      let y = both-true (same_length (t ∷ ts) es) (list_all found es) x.1 in
      let out = does (S.Combine key total r (t ∷ ts) es) m loop it in
      subst (λ way. Ended (reduce_lines (each_site c seg n i) kind way key total r (t ∷ ts) (map (term v key) es)) rest w out out.fault) (sym (folds-way c n t ts x.0))
      (fold-ends c v loop edge s run Shows Gave k own (λ r' place targets ls u. refl) (λ a u b. b.0.fine) (λ a u f b. gave-failed a u f b.1)
      (λ a u key' b. ap (node_in loop.graph) b.0.at_outer ∙ node-in loop.graph k b.0.inside) folds
      key total r t ts es it w rest q x.0 y.0 (all-tell it w key es y.1 q))

  reduce : (kind : ℕ) (key : Key) (total : TotalKey) (r : Reduce) (ts : List Target) (es : List Expr) (it : Iteration) (w : VertexState) (rest : List Line) → receiver_gives c n found r ts es ≡ true → Shows it w
      → let out = does (S.Combine key total r ts es) m loop it in
      Ended (reduce_lines (each_site c seg n i) kind (way_of c.declarations n ts) key total r ts (map (term v key) es)) rest w out out.fault
  reduce kind key total r ts es it w rest o q = by (puts_to_scalars c found r ts es) refl where
    by : (b : Bool) → puts_to_scalars c found r ts es ≡ b
        → let out = does (S.Combine key total r ts es) m loop it in
        Ended (reduce_lines (each_site c seg n i) kind (way_of c.declarations n ts) key total r ts (map (term v key) es)) rest w out out.fault
    by true e = put-case kind key total r ts es it w rest e q
    by false e = fold-case kind key total r ts es it w rest (or-false (puts_to_scalars c found r ts es) (folds_to c n found r ts es) e o) q

  -- an each's site holds
  pub home-holds : Holds (each_site c seg n i) loop m s run Shows Gave found sets_nothing (receiver_gives c n found) (λ kind st it. Anywhere kind st)
  home-holds = record {
    type_is = type_is;
    skipped = λ l ls a w. refl;
    register_runs = λ x t ls w. refl;
    skip_runs = λ a t ls w. refl;
    fine = λ it w q. q.0.fine;
    gave = λ it w q. q.1;
    gave_failed = gave-failed;
    tells = tells;
    local = local;
    property = λ key x p at e it w rest o f q. absurd (both_ways false refl o);
    placed_first = λ kind a b it h. tt;
    placed_second = λ kind a b it h e. tt;
    placed_yes = λ kind k e a b it h. tt;
    placed_no = λ kind k e a b it h. tt;
    reduce = λ kind key total r ts es it w rest o h q. reduce kind key total r ts es it w rest o q;
  }
