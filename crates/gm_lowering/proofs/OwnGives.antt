-- The reductions of an own body at its vertex: to scalars of the procedure, to properties of its node, and to its locals.
use Rattle.std.proofs.Common.{◌≡◌, ◌<◌, ℕ, Bool, true, false, Option, Some, None, Ok, Err, List, [], ◌∷◌, ◌++◌, length, map, refl, ap, ◌∙◌, sym, subst, Result, inl, suc, arith}
use Rattle.std.specs.Prelude.{if◌then◌else◌, ◌&&◌, ◌||◌, not, nat_eq, nat_lt, slice_set, max}
use Rattle.std.specs.List.{list_all}
use Rattle.std.proofs.lemmas.Bool.{both_ways, eq-eqb}
use Rattle.gm_base.specs.declared.places.Place.{Place}
use Rattle.gm_value.specs.declared.values.Value.{Value}
use Rattle.gm_value.specs.declared.reductions.Reduce.{Reduce}
use Rattle.gm_ast.specs.declared.tree.Key.{Key}
use Rattle.gm_ast.specs.declared.tree.Sort.TheVariants as Sorts
use Rattle.gm_ast.specs.declared.tree.Target.{Target}
use Rattle.gm_ast.specs.declared.tree.Target.TheVariants as T
use Rattle.gm_ast.specs.declared.tree.TotalKey.{TotalKey}
use Rattle.gm_ast.specs.Names.{is}
use Rattle.gm_ast.specs.Program as S
use Rattle.gm_ast.specs.Program.{Expr}
use Rattle.gm_forms.proofs.Named.{both-true}
use Rattle.gm_semantics.specs.Statements.{variable_at}
use Rattle.gm_semantics.specs.declared.faults.Fault.{Fault}
use Rattle.gm_semantics.specs.declared.slots.Slot.TheVariants.{Scalar, Node}
use Rattle.gm_semantics.specs.Levels.{node_in}
use Rattle.gm_semantics.specs.Contributions.{Contribution}
use Rattle.gm_semantics.specs.Faults.{then_with}
use Rattle.gm_semantics.specs.Expressions.{View, Answer, evaluated, evaluated_all, fault_at}
use Rattle.gm_semantics.specs.Iterations.{Loop, Outermost, Iteration, view_in, failed, with_ok, wrote, does, tuple_held, wrote_all, contribution}
use Rattle.gm_image.specs.Term as M
use Rattle.gm_image.specs.Term.{Term}
use Rattle.gm_image.specs.Parts as parts
use Rattle.gm_image.specs.Program as image
use Rattle.gm_image.specs.Program.{Line, SetField, Fold, SetRegister}
use Rattle.gm_machine.specs.declared.faults.Fault as MF
use Rattle.gm_machine.specs.Faults.{then_go}
use Rattle.gm_machine.specs.Taking.{Settled, contributed, settled}
use Rattle.gm_machine.proofs.SlotSteps.{folded-nothing}
use Rattle.gm_machine.specs.Expressions.{values, value as term_value, value_at}
use Rattle.gm_machine.specs.Vertex.{VertexContext, VertexState, After, view, line_ends, leaves, goes_on, body_after, ended, folded}
use Rattle.gm_lowering.specs.Layouts.{Layout, is_register, has_value, body_positions}
use Rattle.gm_lowering.specs.Places.{Segment, spot_at}
use Rattle.gm_lowering.specs.Terms.{Env, term, own_env}
use Rattle.gm_lowering.specs.Plans.{way_of}
use Rattle.gm_lowering.specs.Bodies.{reduce_lines, image_targets, better, compared}
use Rattle.gm_lowering.specs.Blocks.{own_site}
use Rattle.gm_lowering.specs.Showing.{answer_of, Tells, fault_of}
use Rattle.gm_lowering.specs.Sites.{finds_scalar, same_length, is_local, given, IsInGraph, IsApart, slot_at}
use Rattle.gm_lowering.specs.OwnLoops.{own_finds, own_sets, puts_to_scalars, asks_always, folds_to, folds_at_once, own_gives, fold_spots, HaveIndices, picks_at_once, tuples_at_once, keeps_at_once, HasSpares}
use Rattle.gm_lowering.proofs.Terms.{rest-term, hoisted-parallel}
use Rattle.gm_lowering.proofs.Bodies.{Ends as Ending, Holds}
use Rattle.gm_lowering.proofs.Givens.{AllTell, node-in, node_slots, are_kept, here_at, node-numbers, slots-of, terms-of, values-all, none-hoisted, same-map, all-own}
use Rattle.gm_value.specs.declared.faults.FaultKind.TheVariants.{Overflow}
use Rattle.gm_value.specs.Tuples.{close_slots}
use Rattle.gm_forms.specs.Sharing.{are_distinct, variables_of}
use Rattle.gm_semantics.specs.Stores.{reads, write_all}
use Rattle.gm_lowering.specs.Settles.{HasSpot, is_some_list, SettlesAlike, fault_or_none}
use Rattle.gm_lowering.proofs.OwnFolds.{kept_at, now-is, written, distinct-slots, scalars-stay, single-after, single-fault, fault_by, there, one-settles, at-place, fold-way}
use Rattle.gm_lowering.proofs.Spots.{spot-left, spot-right}
use Rattle.gm_value.specs.declared.values.VType.{VType}
use Rattle.gm_forms.specs.Typing.{keeps_tuples}
use Rattle.gm_typed_stores.specs.Tells.{TypeTable}
use Rattle.gm_lowering.proofs.Picks.{Typed, parts-typed, kept_value, pick-term, pick-is, picks-way}
use Rattle.gm_lowering.proofs.Own as O
use Rattle.gm_lowering.proofs.TupleFacts.{is-kept, fewer-spares, tuple-spares, tuple-way, own-distinct, types_of_all, held-typed, new-typed}
use Rattle.gm_lowering.proofs.TupleLines.{tuple-ends}

or-false : (a b : Bool) → a ≡ false → a || b ≡ true → b ≡ true
or-false a b e h = ap (λ x. x || b) (sym e) ∙ h

module _ (c : Layout) (seg : Segment) (loop : Loop) (k registers fields places : ℕ) (s : VertexContext)
    (apart : IsApart c registers fields)
    (unlike : is_register (variable_at c.declarations loop.outer) ≡ false)
    (type_is : (x : ℕ) → loop.vtype x ≡ (variable_at c.declarations x).vtype)
    (depth_is : (x : ℕ) → loop.depth x ≡ (variable_at c.declarations x).depth)
    (Gave : Iteration → VertexState → Type 0) (giving : O.Giving c (own_env c seg loop.outer) Gave) where
  abbrev n : ℕ
  n = loop.outer

  abbrev v : Env
  v = own_env c seg n

  abbrev Shows : Iteration → VertexState → Type 0
  Shows = O.Shows c seg loop k registers fields places s apart unlike type_is depth_is Gave giving

  abbrev run : List Line → ℕ → VertexState → After
  run = body_after places s

  abbrev Ending' : List Line → List Line → VertexState → Iteration → Option Fault → Type 0
  Ending' = Ending v run Shows Gave

  gave-failed : (it : Iteration) (w : VertexState) (f : Fault) → Gave it w → Gave (failed it f) w
  gave-failed = O.gave-failed c seg loop k registers fields places s apart unlike type_is depth_is Gave giving

  scalar-is : (it : Iteration) (w : VertexState) (x : ℕ) → finds_scalar c (n ∷ []) x ≡ true → Shows it w → term_value (view s w) (v.scalar x) ≡ Ok (it.store.scalar x)
  scalar-is = O.scalar-is c seg loop k registers fields places s apart unlike type_is depth_is Gave giving

  tells : (it : Iteration) (w : VertexState) (j : Key) (e : Expr) → own_finds c n e ≡ true → Shows it w → Tells v (view_in loop Outermost it j) (view s w) e
  tells = O.tells c seg loop k registers fields places s apart unlike type_is depth_is Gave giving

  all-tell : (it : Iteration) (w : VertexState) (j : Key) (es : List Expr) → list_all (own_finds c n) es ≡ true → Shows it w → AllTell v (view_in loop Outermost it j) (view s w) es
  all-tell = O.all-tell c seg loop k registers fields places s apart unlike type_is depth_is Gave giving

  local : (it : Iteration) (w : VertexState) (x : ℕ) (a : Value) → is_local c x ≡ true → Shows it w → Shows (wrote it (Scalar x, a)) (record w { registers = slice_set w.registers (c.register x) a })
  local = O.local c seg loop k registers fields places s apart unlike type_is depth_is Gave giving

  property : (j : Key) (x p : ℕ) (at : Place) (e : Expr) (it : Iteration) (w : VertexState) (rest : List Line) → own_sets c n x p ≡ true → own_finds c n e ≡ true → Shows it w
      → let out = does (S.Assign j (T.Property x p at) e) Outermost loop it in Ending' (SetField (c.field p) (term v j e) ∷ []) rest w out out.fault
  property = O.property c seg loop k registers fields places s apart unlike type_is depth_is Gave giving

  reduce : (kind : ℕ) (j : Key) (total : TotalKey) (r : Reduce) (ts : List Target) (es : List Expr) (it : Iteration) (w : VertexState) (rest : List Line)
      → puts_to_scalars c (own_finds c n) r ts es ≡ true → Shows it w
      → let out = does (S.Combine j total r ts es) Outermost loop it in
      Ending' (reduce_lines (own_site c seg n) kind (way_of c.declarations n ts) j total r ts (map (term v j) es)) rest w out out.fault
  reduce = O.reduce c seg loop k registers fields places s apart unlike type_is depth_is Gave giving

  wrote-own : (it : Iteration) (w : VertexState) (ts : List Target) (vs fields' : List Value) → length fields' ≡ length w.fields
      → ((p : ℕ) → c.is_kept p ≡ true → value_at fields' (c.field p) ≡ (write_all it.store (node_slots k ts) vs).node p k) → Shows it w
      → Shows (wrote_all it (node_slots k ts, vs)) (record w { folds = []; fields = fields' })
  wrote-own it w ts vs fields' long same q =
      let stays = scalars-stay it.store k ts vs in (
        record {
          fine = q.0.fine;
          node = q.0.node;
          graph = q.0.graph;
          inside = q.0.inside;
          at_node = stays n ∙ q.0.at_node;
          phase = λ x f l e g. q.0.phase x f l e g ∙ sym (stays x);
          in_graph = λ x f l e. subst (IsInGraph loop.graph) (sym (stays x)) (q.0.in_graph x f l e);
          locals = λ x l e. q.0.locals x l e ∙ sym (stays x);
          properties = same;
          register_count = q.0.register_count;
          field_count = long ∙ q.0.field_count;
        },
        giving.stays it (wrote_all it (node_slots k ts, vs)) w (record w { folds = []; fields = fields' }) refl refl refl refl refl refl q.1,
      )

  -- the line of a fold, by the values for it
  module _ (j : Key) (total : TotalKey) (r : Reduce) (t : Target) (ts : List Target) (terms : List Term) (it : Iteration) (w : VertexState) (rest : List Line)
      (kept : are_kept c n (t ∷ ts) ≡ true) (distinct : are_distinct (variables_of (t ∷ ts)) ≡ true) (long : same_length (t ∷ ts) terms ≡ true) (room : v.place j total.place < places) (q : Shows it w) where
    abbrev place : ℕ
    place = v.place j total.place

    abbrev targets : List image.Target
    targets = image_targets c (t ∷ ts) terms

    abbrev u : View
    u = view_in loop Outermost it j

    abbrev line : Line
    line = Fold r place targets

    abbrev more : ℕ → VertexState → After
    more i z = body_after places s rest i z

    abbrev folding : Result (List Value) MF.Fault → After
    folding a = goes_on (folded places (line_ends w (then_go a (λ vs. Ok (contributed place r (parts.slots_of targets) vs))) (λ g. leaves (record w { folds = w.folds ++ g })))) more

    abbrev by_values : Result (List Value) Fault → Iteration
    by_values a = with_ok it (kept_at u k total.place r (t ∷ ts) a) (wrote_all it)

    -- what it gives
    abbrev one : List Value → Contribution
    one ys = contribution (record { key = j; place = total.place; shown = total.place }) r (node_slots k (t ∷ ts), ys)

    some-slots : (t : Target) → are_kept c n (t ∷ ts) ≡ true → is_some_list (node_slots k (t ∷ ts)) ≡ true
    some-slots (T.Property x p at) h = refl
    some-slots (T.Scalar x at) h = absurd (both_ways false refl h)

    all-here : (us : List Target) → are_kept c n us ≡ true → list_all (here_at c k) (node_slots k us) ≡ true
    all-here [] h = refl
    all-here (T.Scalar x at ∷ us) h = absurd (both_ways false refl h)
    all-here (T.Property x p at ∷ us) h =
        let z = both-true (nat_eq x n && c.is_kept p) (are_kept c n us) h in
        ap (λ b. (b && c.is_kept p) && list_all (here_at c k) (node_slots k us)) (eq-eqb k k refl)
        ∙ ap (λ b. b && list_all (here_at c k) (node_slots k us)) (both-true (nat_eq x n) (c.is_kept p) z.0).1 ∙ all-here us z.1

    abbrev env : List Value → Env
    env ys = there c v registers fields places k place it.store w.fields (one ys) apart q.0.properties q.0.field_count room (all-here (t ∷ ts) kept) (some-slots t kept)

    abbrev taken_to : List Value → Settled
    taken_to ys = settled places (map (given c (env ys)) (one ys ∷ [])) w.fields

    alike : (ys : List Value) → SettlesAlike c (env ys) places it.store w.fields (here_at c k) (one ys ∷ [])
    alike ys = one-settles c v registers fields places k place it.store w.fields (one ys) apart q.0.properties q.0.field_count room (all-here (t ∷ ts) kept) (some-slots t kept)

    indexed : (ys : List Value) → (env ys).place j total.place ≡ place
    indexed ys = at-place c v registers fields places k place it.store w.fields (one ys) apart q.0.properties q.0.field_count room (all-here (t ∷ ts) kept) (some-slots t kept)

    one-given : (ys : List Value) (t : Target) → are_kept c n (t ∷ ts) ≡ true
        → contributed place r (map (slot_at c) (node_slots k (t ∷ ts))) ys ≡ record { place = place; reduce = r; slots = map (slot_at c) (node_slots k (t ∷ ts)); values = ys } ∷ []
    one-given ys (T.Property x p at) h = refl
    one-given ys (T.Scalar x at) h = absurd (both_ways false refl h)

    given-is : (ys : List Value) → contributed place r (parts.slots_of targets) ys ≡ map (given c (env ys)) (one ys ∷ [])
    given-is ys =
        ap (λ ss. contributed place r ss ys) (slots-of c (t ∷ ts) terms long ∙ sym (node-numbers c n k (t ∷ ts) kept))
        ∙ one-given ys t kept
        ∙ ap (λ i. record { place = i; reduce = r; slots = map (slot_at c) (node_slots k (t ∷ ts)); values = ys } ∷ []) (sym (indexed ys))

    -- the run of the line, by what is taken
    after-taking : (ys : List Value) → folding (Ok ys) ≡ goes_on (ended (record w { folds = []; fields = (taken_to ys).values }) (taken_to ys).fault 0) more
    after-taking ys =
        ap (λ g. goes_on (folded places (leaves (record w { folds = w.folds ++ g }))) more) (given-is ys)
        ∙ ap (λ fs. goes_on (folded places (leaves (record w { folds = fs ++ map (given c (env ys)) (one ys ∷ []) }))) more) (giving.folds it w q.1)

    line-runs : run (line ∷ rest) 0 w ≡ folding (values (view s w) terms)
    line-runs = ap (λ as'. folding (values (view s w) as')) (terms-of c (t ∷ ts) terms long)

    taken-by : (ys : List Value) (o : Option (List Value)) → close_slots r (reads it.store (node_slots k (t ∷ ts))) (ys ∷ []) ≡ o → values (view s w) terms ≡ Ok ys
        → let out = with_ok it (then_with (tuple_held u total.place o) (λ vs. Ok (node_slots k (t ∷ ts), vs))) (wrote_all it) in Ending' (line ∷ []) rest w out out.fault
    taken-by ys (Some vs) e f =
        let store = write_all it.store (node_slots k (t ∷ ts)) vs in
        let fine : (taken_to ys).fault ≡ None = (alike ys).fault ∙ ap (fault_or_none (env ys)) (single-fault it.store (one ys) ∙ ap (fault_by it.store (one ys)) e) in
        subst (Ending' (line ∷ []) rest w (wrote_all it (node_slots k (t ∷ ts), vs))) (sym q.0.fine) (
          record w { folds = []; fields = (taken_to ys).values },
          wrote-own it w (t ∷ ts) vs (taken_to ys).values (alike ys).count
              (λ p kp. (alike ys).values (Node p k) (ap (λ b. b && c.is_kept p) (eq-eqb k k refl) ∙ kp)
              ∙ single-after it.store (one ys) vs e (Node p k) ∙ sym (written it.store (node_slots k (t ∷ ts)) vs (distinct-slots c n k (t ∷ ts) kept distinct) (Node p k))) q,
          line-runs ∙ ap folding f ∙ after-taking ys ∙ ap (λ o. goes_on (ended (record w { folds = []; fields = (taken_to ys).values }) o 0) more) fine,
        )
    taken-by ys None e f =
        let failing : (taken_to ys).fault ≡ Some (fault_of v (fault_at u total.place Overflow)) =
        (alike ys).fault ∙ ap (fault_or_none (env ys)) (single-fault it.store (one ys) ∙ ap (fault_by it.store (one ys)) e) ∙ ap (λ i. Some (record { place = i; kind = Overflow })) (indexed ys) in (
          record w { folds = []; fields = (taken_to ys).values },
          giving.stays it (failed it (fault_at u total.place Overflow)) w (record w { folds = []; fields = (taken_to ys).values }) refl refl refl refl refl refl q.1,
          line-runs ∙ ap folding f ∙ after-taking ys ∙ ap (λ o. goes_on (ended (record w { folds = []; fields = (taken_to ys).values }) o 0) more) failing,
        )

    fold-by : (answer : Result (List Value) Fault) → values (view s w) terms ≡ answer_of v answer → Ending' (line ∷ []) rest w (by_values answer) (by_values answer).fault
    fold-by (Ok ys) e = taken-by ys (close_slots r (reads it.store (node_slots k (t ∷ ts))) (ys ∷ [])) refl e
    fold-by (Err f) e = (
      w,
      gave-failed it w f q.1,
      line-runs ∙ ap folding e ∙ ap (λ a. goes_on a more) (folded-nothing places w (Some (fault_of v f)) 0 (giving.folds it w q.1)),
    )

  -- a reduction to the node's own properties
  fold-now : (j : Key) (total : TotalKey) (r : Reduce) (ts : List Target) (es : List Expr) (it : Iteration) (w : VertexState) (rest : List Line)
      → folds_at_once c n (own_finds c n) r ts es ≡ true → HaveIndices seg places (fold_spots c n (S.Combine j total r ts es)) → Shows it w
      → let out = does (S.Combine j total r ts es) Outermost loop it in
      Ending' (Fold r (v.place j total.place) (image_targets c ts (map (term v j) es)) ∷ []) rest w out out.fault
  fold-now j total r [] es it w rest o room q = absurd (both_ways false refl (both-true (are_distinct []) (folds_to c n (own_finds c n) r [] es) (both-true (asks_always r) _ o).1).1)
  fold-now j total r (t ∷ ts) es it w rest o room q =
      let x = both-true (asks_always r) (are_distinct (variables_of (t ∷ ts)) && folds_to c n (own_finds c n) r (t ∷ ts) es) o in
      let y = both-true (are_distinct (variables_of (t ∷ ts))) (folds_to c n (own_finds c n) r (t ∷ ts) es) x.1 in
      let z = both-true (are_kept c n (t ∷ ts)) (same_length (t ∷ ts) es && list_all (own_finds c n) es) y.1 in
      let l = both-true (same_length (t ∷ ts) es) (list_all (own_finds c n) es) z.1 in
      let u = view_in loop Outermost it j in
      let told = all-tell it w j es l.1 q in
      let at : node_in loop.graph (it.store.scalar n) ≡ Some k = ap (node_in loop.graph) q.0.at_node ∙ node-in loop.graph k q.0.inside in
      let same : does (S.Combine j total r (t ∷ ts) es) Outermost loop it ≡ with_ok it (kept_at u k total.place r (t ∷ ts) (evaluated_all es u).rest) (wrote_all it) =
      now-is c loop k it j total r (t ∷ ts) es x.0 z.0 l.0 (none-hoisted v u (view s w) es refl told) at in
      let spot : HasSpot (spot_at j total.place) (fold_spots c n (S.Combine j total r (t ∷ ts) es)) =
      subst (λ b. HasSpot (spot_at j total.place) (if b then spot_at j total.place ∷ [] else [])) (sym (all-own c n (t ∷ ts) z.0)) (inl refl) in
      subst (λ out. Ending' (Fold r (v.place j total.place) (image_targets c (t ∷ ts) (map (term v j) es)) ∷ []) rest w out out.fault) (sym same)
      (fold-by j total r t ts (map (term v j) es) it w rest z.0 y.0 (same-map (t ∷ ts) es (term v j) l.0) (room (spot_at j total.place) spot) q
      (evaluated_all es u).rest (values-all v u (view s w) es told))

  -- where the folds of a statement have indices
  abbrev pub Indexed : ℕ → S.Stmt → Type 0
  Indexed kind st = HaveIndices seg places (fold_spots c n st)

  -- a line that sets a local
  set-register : (it : Iteration) (w : VertexState) (rest : List Line) (x : ℕ) (t : Term) (a : Answer) → is_local c x ≡ true → Shows it w
      → term_value (view s w) t ≡ answer_of v a
      → let out = with_ok it a (λ y. wrote it (Scalar x, y)) in Ending' (SetRegister (c.register x) t ∷ []) rest w out out.fault
  set-register it w rest x t (Ok a) o q e =
      subst (Ending' (SetRegister (c.register x) t ∷ []) rest w (wrote it (Scalar x, a))) (sym q.0.fine) (
        record w { registers = slice_set w.registers (c.register x) a },
        local it w x a o q,
        ap (λ u. goes_on (line_ends w u (λ y. leaves (record w { registers = slice_set w.registers (c.register x) y }))) (λ j z. body_after places s rest j z)) e,
      )
  set-register it w rest x t (Err f) o q e = (
    w,
    gave-failed it w f q.1,
    ap (λ u. goes_on (line_ends w u (λ y. leaves (record w { registers = slice_set w.registers (c.register x) y }))) (λ j z. body_after places s rest j z)) e,
  )

  module _ (table : TypeTable) (around : List ℕ) (result : Option VType) where
    -- where a statement begins: its folds have indices, what it picks has types, and its tuples have spare registers
    abbrev pub Ready : ℕ → S.Stmt → Iteration → Type 0
    Ready kind st it = Indexed kind st × Typed c table around result loop st it × HasSpares c registers (body_positions c.declarations st)

    -- a pick into a local
    pick-now : (kind : ℕ) (j : Key) (total : TotalKey) (r : Reduce) (ts : List Target) (es : List Expr) (it : Iteration) (w : VertexState) (rest : List Line)
        → picks_at_once c (own_finds c n) r ts es ≡ true → Typed c table around result loop (S.Combine j total r ts es) it → Shows it w
        → let out = does (S.Combine j total r ts es) Outermost loop it in
        Ending' (reduce_lines (own_site c seg n) kind (way_of c.declarations n ts) j total r ts (map (term v j) es)) rest w out out.fault
    pick-now kind j total r [] es it w rest o typed q = absurd (both_ways false refl o)
    pick-now kind j total r (T.Property x p at ∷ ts) es it w rest o typed q = absurd (both_ways false refl o)
    pick-now kind j total r (T.Scalar x at ∷ (t ∷ ts)) es it w rest o typed q = absurd (both_ways false refl o)
    pick-now kind j total r (T.Scalar x at ∷ []) [] it w rest o typed q = absurd (both_ways false refl o)
    pick-now kind j total r (T.Scalar x at ∷ []) (e ∷ (d ∷ es)) it w rest o typed q = absurd (both_ways false refl o)
    pick-now kind j total r (T.Scalar x at ∷ []) (e ∷ []) it w rest o typed q =
        let a = both-true (keeps_tuples r) (is_local c x && own_finds c n e) o in
        let b = both-true (is_local c x) (own_finds c n e) a.1 in
        let d = both-true (nat_lt x (length c.declarations)) (is_register (variable_at c.declarations x)) b.0 in
        let u = view_in loop Outermost it j in
        let told = tells it w j e b.1 q in
        let held = v.scalar x in
        let value = term v j e in
        let out = does (S.Combine j total r (T.Scalar x at ∷ []) (e ∷ [])) Outermost loop it in
        subst (λ way. Ending' (reduce_lines (own_site c seg n) kind way j total r (T.Scalar x at ∷ []) (value ∷ [])) rest w out out.fault) (sym (picks-way c n x at b.0))
        (subst (λ z. Ending' (SetRegister (c.register x) (M.Choose (compared (better r) value held) value held) ∷ []) rest w z z.fault)
        (sym (pick-is c table around result loop depth_is j total r x at e it a.0 b.0 typed (hoisted-parallel v u (view s w) e refl told)))
        (set-register it w rest x (M.Choose (compared (better r) value held) value held) (kept_value r (it.store.scalar x) (evaluated e u).rest) b.0 q
        (pick-term r v (view s w) value held (it.store.scalar x) (evaluated e u).rest a.0 (rest-term v u (view s w) e told) (scalar-is it w x (found-local x d.0 d.1) q)))) where
          found-local : (x : ℕ) → nat_lt x (length c.declarations) ≡ true → is_register (variable_at c.declarations x) ≡ true → finds_scalar c (n ∷ []) x ≡ true
          found-local x e f = by (nat_eq x n || false) where
            valued : has_value (variable_at c.declarations x) ≡ true
            valued = ap (λ b. b || is Sorts.Iterator (variable_at c.declarations x)) (both-true (is Sorts.Scalar (variable_at c.declarations x)) (not (nat_eq (variable_at c.declarations x).depth 0)) f).0

            by : (b : Bool) → b || (nat_lt x (length c.declarations) && has_value (variable_at c.declarations x)) ≡ true
            by true = refl
            by false = ap (λ b. b && has_value (variable_at c.declarations x)) e ∙ valued

    -- a tuple that is kept
    tuple-kept : (kind : ℕ) (j : Key) (total : TotalKey) (r : Reduce) (ts : List Target) (es : List Expr) (it : Iteration) (w : VertexState) (rest : List Line)
        → tuples_at_once c n (own_finds c n) r ts es ≡ true → Typed c table around result loop (S.Combine j total r ts es) it → HasSpares c registers (body_positions c.declarations (S.Combine j total r ts es)) → Shows it w
        → let out = does (S.Combine j total r ts es) Outermost loop it in
        Ending' (reduce_lines (own_site c seg n) kind (way_of c.declarations n ts) j total r ts (map (term v j) es)) rest w out out.fault
    tuple-kept kind j total r [] es it w rest o typed spares q = absurd (both_ways false refl o)
    tuple-kept kind j total r (t ∷ []) es it w rest o typed spares q = absurd (both_ways false refl o)
    tuple-kept kind j total r (t ∷ (u ∷ ts)) es it w rest o typed spares q =
        let all = t ∷ (u ∷ ts) in
        let kept = is-kept c n r t u ts es o in
        let out = does (S.Combine j total r all es) Outermost loop it in
        let less : length all < suc (suc (suc (length ts))) = omega arith in
        subst (λ way. Ending' (reduce_lines (own_site c seg n) kind way j total r all (map (term v j) es)) rest w out out.fault) (sym (tuple-way c n all kept.local kept.own))
        (tuple-ends c seg loop k registers fields places s apart unlike type_is depth_is Gave giving (suc (suc (suc (length ts)))) (tuple-spares c registers j total r t u ts es kept.local spares) j total r t u ts es
        (types_of_all c table around result loop Outermost j total r t u ts es it k kept.local typed) it w rest kept.keeps kept.own (own-distinct k all kept.distinct) kept.long kept.found less q
        (held-typed c table around result loop Outermost j total r t u ts es it k kept.local typed) (new-typed c table around result loop Outermost j total r t u ts es it k kept.local typed))

    -- what keeps what its locals hold
    keep-now : (kind : ℕ) (j : Key) (total : TotalKey) (r : Reduce) (ts : List Target) (es : List Expr) (it : Iteration) (w : VertexState) (rest : List Line)
        → keeps_at_once c n (own_finds c n) r ts es ≡ true → Ready kind (S.Combine j total r ts es) it → Shows it w
        → let out = does (S.Combine j total r ts es) Outermost loop it in
        Ending' (reduce_lines (own_site c seg n) kind (way_of c.declarations n ts) j total r ts (map (term v j) es)) rest w out out.fault
    keep-now kind j total r ts es it w rest o ready q = by (picks_at_once c (own_finds c n) r ts es) refl where
      by : (b : Bool) → picks_at_once c (own_finds c n) r ts es ≡ b
          → let out = does (S.Combine j total r ts es) Outermost loop it in
          Ending' (reduce_lines (own_site c seg n) kind (way_of c.declarations n ts) j total r ts (map (term v j) es)) rest w out out.fault
      by true e = pick-now kind j total r ts es it w rest e ready.1 q
      by false e = tuple-kept kind j total r ts es it w rest (or-false (picks_at_once c (own_finds c n) r ts es) (tuples_at_once c n (own_finds c n) r ts es) e o) ready.1 ready.2 q

    -- a reduction of an own body
    gives : (kind : ℕ) (j : Key) (total : TotalKey) (r : Reduce) (ts : List Target) (es : List Expr) (it : Iteration) (w : VertexState) (rest : List Line)
        → own_gives c n (own_finds c n) r ts es ≡ true → Ready kind (S.Combine j total r ts es) it → Shows it w
        → let out = does (S.Combine j total r ts es) Outermost loop it in
        Ending' (reduce_lines (own_site c seg n) kind (way_of c.declarations n ts) j total r ts (map (term v j) es)) rest w out out.fault
    gives kind j total r ts es it w rest o ready q = by (puts_to_scalars c (own_finds c n) r ts es) (folds_at_once c n (own_finds c n) r ts es) refl refl where
      by : (a b : Bool) → puts_to_scalars c (own_finds c n) r ts es ≡ a → folds_at_once c n (own_finds c n) r ts es ≡ b
          → let out = does (S.Combine j total r ts es) Outermost loop it in
          Ending' (reduce_lines (own_site c seg n) kind (way_of c.declarations n ts) j total r ts (map (term v j) es)) rest w out out.fault
      by true b e f = reduce kind j total r ts es it w rest e q
      by false true e f =
          let out = does (S.Combine j total r ts es) Outermost loop it in
          subst (λ way. Ending' (reduce_lines (own_site c seg n) kind way j total r ts (map (term v j) es)) rest w out out.fault) (sym (fold-way c n r ts es f)) (fold-now j total r ts es it w rest f ready.0 q)
      by false false e f =
          keep-now kind j total r ts es it w rest
          (or-false (folds_at_once c n (own_finds c n) r ts es) (keeps_at_once c n (own_finds c n) r ts es) f
          (or-false (puts_to_scalars c (own_finds c n) r ts es) (folds_at_once c n (own_finds c n) r ts es || keeps_at_once c n (own_finds c n) r ts es) e o)) ready q

    -- an own site holds
    pub own-holds : Holds (own_site c seg n) loop Outermost s run Shows Gave (own_finds c n) (own_sets c n) (own_gives c n (own_finds c n)) Ready
    own-holds =
        let types = parts-typed c table around result loop Outermost in
        record {
          type_is = type_is;
          skipped = λ l ls j w. refl;
          register_runs = λ x t ls w. refl;
          skip_runs = λ j t ls w. refl;
          fine = λ it w q. q.0.fine;
          gave = λ it w q. q.1;
          gave_failed = gave-failed;
          tells = tells;
          local = local;
          property = property;
          placed_first = λ kind a b it h. ((λ z o. h.0 z (spot-left z (fold_spots c n a) (fold_spots c n b) o)), types.first a b it h.1, spares-left a b h.2);
          placed_second = λ kind a b it h e. ((λ z o. h.0 z (spot-right z (fold_spots c n a) (fold_spots c n b) o)), types.second a b it h.1, spares-right a b h.2);
          placed_yes = λ kind k e a b it h. ((λ z o. h.0 z (spot-left z (fold_spots c n a) (fold_spots c n b) o)), types.yes k e a b it h.1, spares-left a b h.2);
          placed_no = λ kind k e a b it h. ((λ z o. h.0 z (spot-right z (fold_spots c n a) (fold_spots c n b) o)), types.no k e a b it h.1, spares-right a b h.2);
          reduce = λ kind key total r ts es it w rest o h q. gives kind key total r ts es it w rest o h q;
        } where
          spares-left : (a b : S.Stmt) → HasSpares c registers (max (body_positions c.declarations a) (body_positions c.declarations b)) → HasSpares c registers (body_positions c.declarations a)
          spares-left a b h = fewer-spares c registers (max (body_positions c.declarations a) (body_positions c.declarations b)) (body_positions c.declarations a) (omega arith) h

          spares-right : (a b : S.Stmt) → HasSpares c registers (max (body_positions c.declarations a) (body_positions c.declarations b)) → HasSpares c registers (body_positions c.declarations b)
          spares-right a b h = fewer-spares c registers (max (body_positions c.declarations a) (body_positions c.declarations b)) (body_positions c.declarations b) (omega arith) h
