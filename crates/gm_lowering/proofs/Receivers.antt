-- The handler of a message does what the inner loop does at its edge.
use Rattle.std.proofs.Common.{◌≡◌, ◌<◌, ℕ, suc, Bool, true, false, cond, Option, Some, None, Result, Ok, Err, List, [], ◌∷◌, ◌++◌, length, map, refl, ap, ◌∙◌, sym, subst, arith}
use Rattle.std.specs.Prelude.{if◌then◌else◌, ◌&&◌, ◌||◌, not, nat_eq, nat_lt, slice_set, pos, filter}
use Rattle.std.specs.List.{list_all}
use Rattle.std.proofs.lemmas.List.{length-set, append-nil}
use Rattle.std.proofs.lemmas.Bool.{both_ways, eqb-true, eqb-false, ne_eqb, eq-eqb, ltb-true, not-true}
use Rattle.gm_base.specs.declared.places.Place.{Place}
use Rattle.gm_value.specs.declared.values.VType.{VType}
use Rattle.gm_value.specs.declared.values.Value.{Value}
use Rattle.gm_value.specs.declared.values.Value.TheVariants.{I32, At}
use Rattle.gm_value.specs.declared.reductions.Reduce.{Reduce}
use Rattle.gm_value.specs.Numbers.{zero_of}
use Rattle.gm_model.specs.Graphs.{node_count, out_steps, in_steps}
use Rattle.gm_ast.specs.declared.tree.Direction.{Direction}
use Rattle.gm_ast.specs.declared.tree.Direction.TheVariants.{Out, In}
use Rattle.gm_ast.specs.declared.tree.Key.{Key}
use Rattle.gm_ast.specs.declared.tree.Stage.TheVariants.{Operator}
use Rattle.gm_ast.specs.declared.tree.Sort.TheVariants as Sorts
use Rattle.gm_ast.specs.declared.tree.Target.{Target}
use Rattle.gm_ast.specs.declared.tree.Target.TheVariants as T
use Rattle.gm_ast.specs.declared.tree.TotalKey.{TotalKey}
use Rattle.gm_ast.specs.Program as S
use Rattle.gm_ast.specs.Program.{Expr, Stmt}
use Rattle.gm_ast.specs.Ways.{is_in}
use Rattle.gm_forms.proofs.Named.{both-true}
use Rattle.gm_semantics.specs.declared.faults.Fault.{Fault}
use Rattle.gm_semantics.specs.declared.slots.Slot.TheVariants.{Scalar}
use Rattle.gm_semantics.specs.Contributions.{Contribution}
use Rattle.gm_semantics.specs.Expressions.{evaluated_all, at_node, degree_of, node_held, Answer, evaluated}
use Rattle.gm_semantics.specs.Faults.{then_with}
use Rattle.gm_semantics.specs.Iterations.{Loop, Mode, AtEdge, WithOutermost, Iteration, AtOnce, begun, own_ends, ends_of_all, later, view_in, failed, with_ok, contribution, gave_outermost, reduced, wrote, turn_at, does}
use Rattle.gm_semantics.specs.Levels.{node_in}
use Rattle.gm_semantics.specs.Statements.{variable_at}
use Rattle.gm_semantics.specs.Stores.{Store, write}
use Rattle.gm_image.specs.Parts as parts
use Rattle.gm_image.specs.Program as image
use Rattle.gm_image.specs.Program.{Line, Fold, SetRegister}
use Rattle.gm_image.specs.Term as M
use Rattle.gm_image.specs.Term.{Term}
use Rattle.gm_machine.specs.Expressions.{value as term_value, values, value_at}
use Rattle.gm_machine.specs.Faults.{then_go}
use Rattle.gm_machine.specs.Taking.{Contribution as Given, contributed}
use Rattle.gm_machine.specs.Vertex.{VertexContext, VertexState, After, view, gives, line_ends, leaves, goes_on, lines_after, begun as begin}
use Rattle.gm_lowering.specs.Layouts.{Layout, is_global, is_register, has_value, body_positions}
use Rattle.gm_lowering.specs.Places.{Segment}
use Rattle.gm_lowering.specs.Terms.{Env, term, phase_scalar, vertex_scalar, own_degree, own_env}
use Rattle.gm_lowering.specs.Plans.{Load, SenderItself, SenderProperty, SenderDegree, EdgeValue, load_if, loads_in, way_of}
use Rattle.gm_lowering.specs.Bodies.{image_targets, reduce_lines, better, compared}
use Rattle.gm_lowering.specs.Blocks.{message_value, receiver_env, receiver_site}
use Rattle.gm_lowering.specs.Showing.{answer_of, Tells}
use Rattle.gm_lowering.specs.Sites.{are_of_scalars, finds, finds_scalar, finds_node, same_length, is_local, slot_at, given, phase_value, IsInGraph, HoldLocals, HoldProperties, IsApart}
use Rattle.gm_lowering.specs.OwnLoops.{is_declared, puts_to_scalars, folds_to, HasSpares}
use Rattle.gm_lowering.specs.MessageLoops.{has_load, receiver_finds, sets_nothing, receiver_gives, handler_lines, IsMessageLoop, load_value, Carries, is_to_scalars, is_to_nodes, ReceiverGave, MessageShows, RunEnds, HandlersAreTurns, is_inner_local, picks_inside, inner_gives, is_inner_target, tuples_inside}
use Rattle.gm_lowering.specs.ReceiverSends.{is_part, is_taken_here, are_sent_slots, is_sent}
use Rattle.gm_lowering.proofs.Bodies.{Ends as Ending, Holds}
use Rattle.gm_lowering.proofs.Givens.{AllTell, are_scalars, values-all, none-hoisted, terms-of, slots-of, assigned-is, put-ends, node_slots, are_kept, node-numbers, node-slots, folds-way, node-in}
use Rattle.gm_lowering.proofs.Own.{after-set, live-same, phase-term, global-has_value, global-no_register}
use Rattle.gm_lowering.proofs.OwnSteps.{filtered-ends}
use Rattle.gm_lowering.proofs.PutFacts.{puts-way}
use Rattle.gm_lowering.proofs.Picks.{Typed, parts-typed, kept_value, pick-term, pick-at, picks-way}
use Rattle.gm_lowering.proofs.InnerPicks.{inner-now, is-inside, inside-way}
use Rattle.gm_lowering.proofs.Terms.{rest-term, hoisted-parallel}
use Rattle.gm_typed_stores.specs.Tells.{TypeTable}
use Rattle.gm_forms.specs.Typing.{keeps_tuples}
use Rattle.gm_ast.specs.Names.{is}
use Rattle.gm_lowering.proofs.OwnTuples.{inner-tuple-now}
use Rattle.gm_lowering.proofs.TupleLines.{Tupled, tuple-goes}
use Rattle.gm_lowering.proofs.TupleFacts.{tuple-spares, own-distinct, types_of_all, held-typed, new-typed, spares-first, spares-second}

-- reductions to properties of another node than the outer iterator's end with the outermost loop
pub nodes-end : (c : Layout) (loop : Loop) (m : Mode) (i : ℕ) (t : Target) (ts : List Target) → nat_eq i loop.outer ≡ false → are_kept c i (t ∷ ts) ≡ true → ends_of_all m loop (t ∷ ts) ≡ WithOutermost
nodes-end c loop m i (T.Scalar x at) ts e h = absurd (both_ways false refl h)
nodes-end c loop m i (T.Property x p at) [] e h =
    let r = both-true (nat_eq x i) (c.is_kept p) (both-true (nat_eq x i && c.is_kept p) true h).0 in
    ap (λ b. later (if b then own_ends m (loop.pushed p) else WithOutermost) AtOnce) (ap (λ z. nat_eq z loop.outer) (eqb-true x i r.0) ∙ e)
nodes-end c loop m i (T.Property x p at) (u ∷ ts) e h =
    let q = both-true (nat_eq x i && c.is_kept p) (are_kept c i (u ∷ ts)) h in
    let r = both-true (nat_eq x i) (c.is_kept p) q.0 in
    ap (λ b. later (if b then own_ends m (loop.pushed p) else WithOutermost) (ends_of_all m loop (u ∷ ts))) (ap (λ z. nat_eq z loop.outer) (eqb-true x i r.0) ∙ e)
    ∙ ap (later WithOutermost) (nodes-end c loop m i u ts e q.1)

-- a fold line gives its values
module _ (c : Layout) (v : Env) (loop : Loop) (m : Mode) (s : VertexContext) (run : List Line → ℕ → VertexState → After) (Shows Gave : Iteration → VertexState → Type 0) (i j : ℕ)
    (apart : nat_eq i loop.outer ≡ false)
    (fold_runs : (r : Reduce) (place : ℕ) (ts : List image.Target) (ls : List Line) (w : VertexState)
    → run (Fold r place ts ∷ ls) 0 w ≡ goes_on (line_ends w (gives (view s w) r place ts) (λ g. leaves (record w { folds = w.folds ++ g }))) (λ k u. run ls k u))
    (fine : (it : Iteration) (w : VertexState) → Shows it w → it.fault ≡ None)
    (gave_failed : (it : Iteration) (w : VertexState) (f : Fault) → Shows it w → Gave (failed it f) w)
    (at_node : (it : Iteration) (w : VertexState) (k : Key) → Shows it w → node_in loop.graph (it.store.scalar i) ≡ Some j)
    (out : List (ℕ × ℕ))
    (folds : (it : Iteration) (w : VertexState) (a : Contribution) → are_of_scalars a.slots ≡ false → is_sent out a ≡ false → Shows it w → Shows (gave_outermost it a) (record w { folds = w.folds ++ given c v a ∷ [] })) where
  fold-by : (total : TotalKey) (r : Reduce) (t : Target) (ts : List Target) (terms : List Term) (answer : Result (List Value) Fault) (it : Iteration) (w : VertexState) (rest : List Line) → Shows it w
      → are_kept c i (t ∷ ts) ≡ true → list_all (is_taken_here out total.key.statement) (t ∷ ts) ≡ true → same_length (t ∷ ts) terms ≡ true
      → values (view s w) terms ≡ answer_of v answer
      → let out = with_ok it (then_with answer (λ xs. Ok (node_slots j (t ∷ ts), xs))) (λ p. gave_outermost it (contribution total r p)) in
      Ending v run Shows Gave (Fold r (v.place total.key total.place) (image_targets c (t ∷ ts) terms) ∷ []) rest w out out.fault
  fold-by total r t ts terms (Ok xs) it w rest q o h n e =
      let a = contribution total r (node_slots j (t ∷ ts), xs) in
      let place = v.place total.key total.place in
      let targets = image_targets c (t ∷ ts) terms in
      let go = λ (g : List Given). leaves (record w { folds = w.folds ++ g }) in
      let same : gives (view s w) r place targets ≡ Ok (given c v a ∷ []) =
      ap (λ ys. then_go (values (view s w) ys) (λ vs. Ok (contributed place r (parts.slots_of targets) vs))) (terms-of c (t ∷ ts) terms n)
      ∙ ap (λ u. then_go u (λ vs. Ok (contributed place r (parts.slots_of targets) vs))) e
      ∙ ap (λ ss. Ok (contributed place r ss xs)) (slots-of c (t ∷ ts) terms n ∙ sym (node-numbers c i j (t ∷ ts) o))
      ∙ ap Ok (one-given t ts o) in
      subst (Ending v run Shows Gave (Fold r place targets ∷ []) rest w (gave_outermost it a)) (sym (fine it w q)) (
        record w { folds = w.folds ++ given c v a ∷ [] },
        folds it w a (not-scalars t ts o) (not-sent t ts o h) q,
        fold_runs r place targets rest w ∙ ap (λ u. goes_on (line_ends w u go) (λ k u. run rest k u)) same,
      ) where
        one-given : (t : Target) (ts : List Target) → are_kept c i (t ∷ ts) ≡ true
            → contributed (v.place total.key total.place) r (map (slot_at c) (node_slots j (t ∷ ts))) xs ≡ given c v (contribution total r (node_slots j (t ∷ ts), xs)) ∷ []
        one-given (T.Property x p at) ts h = refl
        one-given (T.Scalar x at) ts h = absurd (both_ways false refl h)

        not-scalars : (t : Target) (ts : List Target) → are_kept c i (t ∷ ts) ≡ true → are_of_scalars (node_slots j (t ∷ ts)) ≡ false
        not-scalars (T.Property x p at) ts h = refl
        not-scalars (T.Scalar x at) ts h = absurd (both_ways false refl h)

        not-sent : (t : Target) (ts : List Target) → are_kept c i (t ∷ ts) ≡ true → list_all (is_taken_here out total.key.statement) (t ∷ ts) ≡ true → are_sent_slots out total.key.statement (node_slots j (t ∷ ts)) ≡ false
        not-sent (T.Property x p at) ts h k = not-true (is_part out total.key.statement p) (both-true (not (is_part out total.key.statement p)) (list_all (is_taken_here out total.key.statement) ts) k).0
        not-sent (T.Scalar x at) ts h k = absurd (both_ways false refl h)
  fold-by total r t ts terms (Err f) it w rest q o h n e =
      let place = v.place total.key total.place in
      let targets = image_targets c (t ∷ ts) terms in
      let go = λ (g : List Given). leaves (record w { folds = w.folds ++ g }) in (
        w,
        gave_failed it w f q,
        fold_runs r place targets rest w
            ∙ ap (λ ys. goes_on (line_ends w (then_go (values (view s w) ys) (λ vs. Ok (contributed place r (parts.slots_of targets) vs))) go) (λ k u. run rest k u)) (terms-of c (t ∷ ts) terms n)
            ∙ ap (λ u. goes_on (line_ends w (then_go u (λ vs. Ok (contributed place r (parts.slots_of targets) vs))) go) (λ k u. run rest k u)) e,
      )

  -- a reduction to properties of the node is what its fold gives
  pub fold-ends : (k : Key) (total : TotalKey) (r : Reduce) (t : Target) (ts : List Target) (es : List Expr) (it : Iteration) (w : VertexState) (rest : List Line) → Shows it w
      → are_kept c i (t ∷ ts) ≡ true → list_all (is_taken_here out total.key.statement) (t ∷ ts) ≡ true → same_length (t ∷ ts) es ≡ true
      → AllTell v (view_in loop m it k) (view s w) es
      → let out = does (S.Combine k total r (t ∷ ts) es) m loop it in
      Ending v run Shows Gave (Fold r (v.place total.key total.place) (image_targets c (t ∷ ts) (map (term v k) es)) ∷ []) rest w out out.fault
  fold-ends k total r t ts es it w rest q o h n tell =
      let u = view_in loop m it k in
      let same : does (S.Combine k total r (t ∷ ts) es) m loop it ≡ with_ok it (then_with (evaluated_all es u).rest (λ xs. Ok (node_slots j (t ∷ ts), xs))) (λ p. gave_outermost it (contribution total r p)) =
      ap (λ e. reduced e u it total r (t ∷ ts) es) (nodes-end c loop m i t ts apart o)
      ∙ ap (λ a. with_ok it a (λ p. gave_outermost it (contribution total r p)))
      (assigned-is u (t ∷ ts) (evaluated_all es u) (node_slots j (t ∷ ts)) (none-hoisted v u (view s w) es refl tell) (node-slots c i j u (t ∷ ts) o (at_node it w k q))) in
      subst (λ out. Ending v run Shows Gave (Fold r (v.place total.key total.place) (image_targets c (t ∷ ts) (map (term v k) es)) ∷ []) rest w out out.fault) (sym same)
      (fold-by total r t ts (map (term v k) es) (evaluated_all es u).rest it w rest q o h (same-map (t ∷ ts) es (term v k) n) (values-all v u (view s w) es tell)) where
        same-map : {A B C : Type 0} (ts : List A) (es : List B) (f : B → C) → same_length ts es ≡ true → same_length ts (map f es) ≡ true
        same-map [] [] f h = h
        same-map [] (e ∷ es) f h = h
        same-map (t ∷ ts) [] f h = h
        same-map (t ∷ ts) (e ∷ es) f h = same-map ts es f h

-- a vertex in the handler of a message shows a turn at an edge to node j, from node k
pub record ReceiverShows (c : Layout) (loop : Loop) (i k j edge registers fields : ℕ) (loads : List Load) (s : VertexContext) (it : Iteration) (w : VertexState) : Type 0 where
  pub fine : it.fault ≡ None
  pub node : s.node ≡ j
  pub graph : s.graph ≡ loop.graph
  pub from_inside : k < node_count loop.graph
  pub inside : j < node_count loop.graph
  pub at_sender : it.store.scalar loop.outer ≡ At (Some k)
  pub at_node : it.store.scalar i ≡ At (Some j)
  pub phase : (x : ℕ) → nat_eq x loop.outer ≡ false → nat_eq x i ≡ false → x < length c.declarations → is_register (variable_at c.declarations x) ≡ false → has_value (variable_at c.declarations x) ≡ true
      → phase_value c s.globals x ≡ it.store.scalar x
  pub in_graph : (x : ℕ) → nat_eq x loop.outer ≡ false → nat_eq x i ≡ false → x < length c.declarations → is_global (variable_at c.declarations x) ≡ true → IsInGraph loop.graph (it.store.scalar x)
  pub locals : HoldLocals c w.registers it.store
  pub properties : HoldProperties c w.fields j it.store
  pub carries : (key : Key) → Carries loads (view_in loop (AtEdge edge) it key) k s.message
  pub register_count : length w.registers ≡ registers
  pub field_count : length w.fields ≡ fields

-- what is asked of what a vertex has given for a turn: what both gave tells it; and contributions to scalars are put, and those to the node's own properties folded
pub record Giving (c : Layout) (v : Env) (out : List (ℕ × ℕ)) (Gave : Iteration → VertexState → Type 0) : Type 0 where
  pub stays : (it new : Iteration) (w u : VertexState) → new.with_inner ≡ it.with_inner → new.with_outermost ≡ it.with_outermost → new.deferred ≡ it.deferred
      → u.puts ≡ w.puts → u.folds ≡ w.folds → u.messages ≡ w.messages → Gave it w → Gave new u
  pub folds : (it : Iteration) (w : VertexState) (a : Contribution) → are_of_scalars a.slots ≡ false → is_sent out a ≡ false → Gave it w → Gave (gave_outermost it a) (record w { folds = w.folds ++ given c v a ∷ [] })
  pub puts : (it : Iteration) (w : VertexState) (a : Contribution) → are_of_scalars a.slots ≡ true → Gave it w → Gave (gave_outermost it a) (record w { puts = w.puts ++ given c v a ∷ [] })

or-false : (a b : Bool) → a ≡ false → a || b ≡ true → b ≡ true
or-false a b e h = ap (λ x. x || b) (sym e) ∙ h

filter-last : (p : Contribution → Bool) (xs : List Contribution) (a : Contribution) → filter p (xs ++ a ∷ []) ≡ filter p xs ++ (if p a then a ∷ [] else [])
filter-last p [] a = by (p a) where
  by : (b : Bool) → cond b (a ∷ []) [] ≡ (if b then a ∷ [] else [])
  by true = refl
  by false = refl
filter-last p (x ∷ xs) a = by (p x) (filter-last p xs a) where
  by : (b : Bool) → filter p (xs ++ a ∷ []) ≡ filter p xs ++ (if p a then a ∷ [] else []) → cond b (x ∷ filter p (xs ++ a ∷ [])) (filter p (xs ++ a ∷ [])) ≡ cond b (x ∷ filter p xs) (filter p xs) ++ (if p a then a ∷ [] else [])
  by true e = ap (λ l. x ∷ l) e
  by false e = e

map-both : {A B : Type 0} (f : A → B) (xs ys : List A) → map f (xs ++ ys) ≡ map f xs ++ map f ys
map-both f [] ys = refl
map-both f (x ∷ xs) ys = ap (λ l. f x ∷ l) (map-both f xs ys)

-- one more of a sort, and none of the other
pub one-more : (c : Layout) (v : Env) (p : Contribution → Bool) (xs : List Contribution) (a : Contribution) (gs : List Given) → gs ≡ map (given c v) (filter p xs) → p a ≡ true → gs ++ given c v a ∷ [] ≡ map (given c v) (filter p (xs ++ a ∷ []))
one-more c v p xs a gs e o =
    ap (λ l. l ++ given c v a ∷ []) e
    ∙ sym (ap (map (given c v)) (filter-last p xs a) ∙ map-both (given c v) (filter p xs) (if p a then a ∷ [] else []) ∙ ap (λ b. map (given c v) (filter p xs) ++ map (given c v) (if b then a ∷ [] else [])) o)

pub no-more : (c : Layout) (v : Env) (p : Contribution → Bool) (xs : List Contribution) (a : Contribution) (gs : List Given) → gs ≡ map (given c v) (filter p xs) → p a ≡ false → gs ≡ map (given c v) (filter p (xs ++ a ∷ []))
no-more c v p xs a gs e o =
    e ∙ sym (ap (map (given c v)) (filter-last p xs a) ∙ ap (λ b. map (given c v) (filter p xs ++ (if b then a ∷ [] else []))) o ∙ ap (map (given c v)) (append-nil (filter p xs)))

-- a receiver that sends nothing
pub receiver-giving : (c : Layout) (v : Env) → Giving c v [] (λ it w. ReceiverGave c v it w)
receiver-giving c v = record {
  stays = λ it new w u inner outermost deferred puts folds messages q. record {
    puts = puts ∙ q.puts ∙ ap (λ l. map (given c v) (filter is_to_scalars l)) (sym outermost);
    folds = folds ∙ q.folds ∙ ap (λ l. map (given c v) (filter is_to_nodes l)) (sym outermost);
    messages = messages ∙ q.messages;
    inner = inner ∙ q.inner;
    deferred = deferred ∙ q.deferred;
  };
  folds = λ it w a o h q. record {
    puts = no-more c v is_to_scalars it.with_outermost a w.puts q.puts o;
    folds = one-more c v is_to_nodes it.with_outermost a w.folds q.folds (ap not o);
    messages = q.messages;
    inner = q.inner;
    deferred = q.deferred;
  };
  puts = λ it w a o q. record {
    puts = one-more c v is_to_scalars it.with_outermost a w.puts q.puts o;
    folds = no-more c v is_to_nodes it.with_outermost a w.folds q.folds (ap not o);
    messages = q.messages;
    inner = q.inner;
    deferred = q.deferred;
  };
}

-- nothing is sent
nothing-sent : (k : ℕ) (ts : List Target) → list_all (is_taken_here [] k) ts ≡ true
nothing-sent k [] = refl
nothing-sent k (T.Scalar x at ∷ ts) = nothing-sent k ts
nothing-sent k (T.Property x p at ∷ ts) = nothing-sent k ts

module _ (c : Layout) (seg : Segment) (loop : Loop) (i k j edge registers fields : ℕ) (loads : List Load) (s : VertexContext)
    (apart : IsApart c registers fields)
    (unlike_outer : is_register (variable_at c.declarations loop.outer) ≡ false)
    (unlike_inner : is_register (variable_at c.declarations i) ≡ false)
    (two : nat_eq i loop.outer ≡ false)
    (type_is : (x : ℕ) → loop.vtype x ≡ (variable_at c.declarations x).vtype)
    (depth_is : (x : ℕ) → loop.depth x ≡ (variable_at c.declarations x).depth)
    (out : List (ℕ × ℕ)) (Gave : Iteration → VertexState → Type 0) (giving : Giving c (receiver_env c seg loop.outer i loads) out Gave) where
  abbrev n : ℕ
  n = loop.outer

  abbrev its : List ℕ
  its = n ∷ i ∷ []

  abbrev v : Env
  v = receiver_env c seg n i loads

  abbrev m : Mode
  m = AtEdge edge

  abbrev found : Expr → Bool
  found = receiver_finds c n i loads

  abbrev pub Shows : Iteration → VertexState → Type 0
  Shows it w = ReceiverShows c loop i k j edge registers fields loads s it w × Gave it w

  abbrev run : List Line → ℕ → VertexState → After
  run = lines_after s

  -- one of the two iterators
  in-two : (x : ℕ) → is_in its x ≡ true → nat_eq x n ≡ false → nat_eq x i ≡ true
  in-two x o e = or-last (nat_eq x i) (or-false (nat_eq x n) (nat_eq x i || false) e o) where
    or-last : (b : Bool) → b || false ≡ true → b ≡ true
    or-last true h = refl
    or-last false h = h

  not-in : (x : ℕ) (b : Bool) → nat_eq x n ≡ false → nat_eq x i ≡ false → is_in its x || b ≡ true → b ≡ true
  not-in x b e f o = or-false (is_in its x) b (ap (λ z. z || (nat_eq x i || false)) e ∙ ap (λ z. z || false) f) o

  -- a scalar that is no iterator
  plain-is : (it : Iteration) (w : VertexState) (x : ℕ) (b : Bool) → is_register (variable_at c.declarations x) ≡ b → nat_eq x n ≡ false → nat_eq x i ≡ false → x < length c.declarations → has_value (variable_at c.declarations x) ≡ true → Shows it w
      → term_value (view s w) (if b then M.Register (c.register x) else phase_scalar c x) ≡ Ok (it.store.scalar x)
  plain-is it w x true e f g lt d q = ap Ok (q.0.locals x lt e)
  plain-is it w x false e f g lt d q = phase-term c s w x ∙ ap Ok (q.0.phase x f g lt e d)

  -- a scalar by what it is
  pub scalar-by : (it : Iteration) (w : VertexState) (x : ℕ) → Shows it w → (nat_eq x n ≡ true → has_load loads SenderItself ≡ true)
      → (nat_eq x n ≡ false → nat_eq x i ≡ false → (x < length c.declarations) × (has_value (variable_at c.declarations x) ≡ true))
      → term_value (view s w) (v.scalar x) ≡ Ok (it.store.scalar x)
  scalar-by it w x q sender plain = by (nat_eq x n) refl where
    other : (b : Bool) → nat_eq x i ≡ b → nat_eq x n ≡ false → term_value (view s w) (if b then M.Self else vertex_scalar c x) ≡ Ok (it.store.scalar x)
    other true e f = ap (λ z. Ok (At (Some z))) q.0.node ∙ ap Ok (sym q.0.at_node) ∙ ap (λ y. Ok (it.store.scalar y)) (sym (eqb-true x i e))
    other false e f = let t = plain f e in plain-is it w x (is_register (variable_at c.declarations x)) refl f e t.0 t.1 q

    by : (b : Bool) → nat_eq x n ≡ b → term_value (view s w) (if b then message_value loads SenderItself else (own_env c seg i).scalar x) ≡ Ok (it.store.scalar x)
    by true e = ap Ok (q.0.carries (record { statement = 0; stage = Operator }) SenderItself (sender e)) ∙ ap Ok (sym q.0.at_sender) ∙ ap (λ y. Ok (it.store.scalar y)) (sym (eqb-true x n e))
    by false e = other (nat_eq x i) refl e

  load-there : (x : ℕ) (load : Load) → list_all (has_load loads) (load_if n x load) ≡ true → nat_eq x n ≡ true → has_load loads load ≡ true
  load-there x load o e = (both-true (has_load loads load) true (ap (λ b. list_all (has_load loads) (if b then load ∷ [] else [])) (sym e) ∙ o)).0

  scalar-is : (it : Iteration) (w : VertexState) (x : ℕ) → finds_scalar c its x ≡ true → list_all (has_load loads) (load_if n x SenderItself) ≡ true → Shows it w → term_value (view s w) (v.scalar x) ≡ Ok (it.store.scalar x)
  scalar-is it w x o l q =
      scalar-by it w x q (load-there x SenderItself l) (λ e f.
      let d = not-in x (nat_lt x (length c.declarations) && has_value (variable_at c.declarations x)) e f o in
      let t = both-true (nat_lt x (length c.declarations)) (has_value (variable_at c.declarations x)) d in
      (ltb-true x (length c.declarations) t.0, t.1))

  node-scalar : (it : Iteration) (w : VertexState) (x : ℕ) → finds_node c its x ≡ true → list_all (has_load loads) (load_if n x SenderItself) ≡ true → Shows it w → term_value (view s w) (v.scalar x) ≡ Ok (it.store.scalar x)
  node-scalar it w x o l q =
      scalar-by it w x q (load-there x SenderItself l) (λ e f.
      let d = not-in x (nat_lt x (length c.declarations) && is_global (variable_at c.declarations x)) e f o in
      let t = both-true (nat_lt x (length c.declarations)) (is_global (variable_at c.declarations x)) d in
      (ltb-true x (length c.declarations) t.0, global-has_value (variable_at c.declarations x) t.1))

  is-node : (a : Value) (z : ℕ) → a ≡ At (Some z) → z < node_count loop.graph → IsInGraph loop.graph a
  is-node a z e lt y h = subst (λ b. b < node_count loop.graph) (ap node_or (sym e ∙ h)) lt where
    node_or : Value → ℕ
    node_or (At (Some b)) = b
    node_or _ = 0

  in-graph : (it : Iteration) (w : VertexState) (x : ℕ) → finds_node c its x ≡ true → Shows it w → IsInGraph loop.graph (it.store.scalar x)
  in-graph it w x o q = by (nat_eq x n) (nat_eq x i) refl refl where
    by : (a b : Bool) → nat_eq x n ≡ a → nat_eq x i ≡ b → IsInGraph loop.graph (it.store.scalar x)
    by true b e f = is-node (it.store.scalar x) k (ap it.store.scalar (eqb-true x n e) ∙ q.0.at_sender) q.0.from_inside
    by false true e f = is-node (it.store.scalar x) j (ap it.store.scalar (eqb-true x i f) ∙ q.0.at_node) q.0.inside
    by false false e f =
        let d = not-in x (nat_lt x (length c.declarations) && is_global (variable_at c.declarations x)) e f o in
        let t = both-true (nat_lt x (length c.declarations)) (is_global (variable_at c.declarations x)) d in
        q.0.in_graph x e f (ltb-true x (length c.declarations) t.0) t.1

  -- what stands at one of the two nodes
  stands : (it : Iteration) (key : Key) (x : ℕ) (at : Place) (f : ℕ → Value) (z : ℕ) → it.store.scalar x ≡ At (Some z) → z < node_count loop.graph → at_node (view_in loop m it key) x at f ≡ Ok (f z)
  stands it key x at f z e lt =
      let u = view_in loop m it key in
      ap (λ a. then_with (node_held u at (node_in loop.graph a)) (λ b. Ok (f b))) e ∙ ap (λ a. then_with (node_held u at a) (λ b. Ok (f b))) (node-in loop.graph z lt)

  property-is : (it : Iteration) (w : VertexState) (key : Key) (x p : ℕ) (at : Place) → is_in its x ≡ true → c.is_kept p ≡ true → list_all (has_load loads) (load_if n x (SenderProperty p)) ≡ true → Shows it w
      → term_value (view s w) (v.property x p) ≡ answer_of v (at_node (view_in loop m it key) x at (it.store.node p))
  property-is it w key x p at o kept l q = by (nat_eq x n) refl where
    by : (b : Bool) → nat_eq x n ≡ b → term_value (view s w) (if b then message_value loads (SenderProperty p) else M.Field (c.field p)) ≡ answer_of v (at_node (view_in loop m it key) x at (it.store.node p))
    by true e =
        ap Ok (q.0.carries key (SenderProperty p) (load-there x (SenderProperty p) l e))
        ∙ ap (answer_of v) (sym (stands it key x at (it.store.node p) k (ap it.store.scalar (eqb-true x n e) ∙ q.0.at_sender) q.0.from_inside))
    by false e =
        ap Ok (q.0.properties p kept)
        ∙ ap (answer_of v) (sym (stands it key x at (it.store.node p) j (ap it.store.scalar (eqb-true x i (in-two x o e)) ∙ q.0.at_node) q.0.inside))

  degree-is : (it : Iteration) (w : VertexState) (key : Key) (d : Direction) (x : ℕ) (at : Place) → is_in its x ≡ true → list_all (has_load loads) (load_if n x (SenderDegree d)) ≡ true → Shows it w
      → term_value (view s w) (v.degree d x) ≡ answer_of v (at_node (view_in loop m it key) x at (degree_of (view_in loop m it key) d))
  degree-is it w key d x at o l q = by (nat_eq x n) refl where
    own : (d : Direction) → term_value (view s w) (own_degree d) ≡ Ok (degree_of (view_in loop m it key) d j)
    own Out = ap (λ z. Ok (I32 (pos (length (out_steps s.graph z))))) q.0.node ∙ ap (λ y. Ok (I32 (pos (length (out_steps y j))))) q.0.graph
    own In = ap (λ z. Ok (I32 (pos (length (in_steps s.graph z))))) q.0.node ∙ ap (λ y. Ok (I32 (pos (length (in_steps y j))))) q.0.graph

    by : (b : Bool) → nat_eq x n ≡ b → term_value (view s w) (if b then message_value loads (SenderDegree d) else own_degree d) ≡ answer_of v (at_node (view_in loop m it key) x at (degree_of (view_in loop m it key) d))
    by true e =
        ap Ok (q.0.carries key (SenderDegree d) (load-there x (SenderDegree d) l e))
        ∙ ap (answer_of v) (sym (stands it key x at (degree_of (view_in loop m it key) d) k (ap it.store.scalar (eqb-true x n e) ∙ q.0.at_sender) q.0.from_inside))
    by false e =
        own d ∙ ap (answer_of v) (sym (stands it key x at (degree_of (view_in loop m it key) d) j (ap it.store.scalar (eqb-true x i (in-two x o e)) ∙ q.0.at_node) q.0.inside))

  -- loads of two parts
  parts-front : (xs ys : List Load) → list_all (has_load loads) (xs ++ ys) ≡ true → (list_all (has_load loads) xs ≡ true) × (list_all (has_load loads) ys ≡ true)
  parts-front [] ys h = (refl, h)
  parts-front (x ∷ xs) ys h =
      let q = both-true (has_load loads x) (list_all (has_load loads) (xs ++ ys)) h in
      let r = parts-front xs ys q.1 in
      (ap (λ b. b && list_all (has_load loads) xs) q.0 ∙ r.0, r.1)

  abbrev found_of : Expr → Bool
  found_of = finds c its true

  abbrev carried_of : Expr → Bool
  carried_of e = list_all (has_load loads) (loads_in n e)

  tells-by : (it : Iteration) (w : VertexState) (key : Key) (e : Expr) → found_of e ≡ true → carried_of e ≡ true → Shows it w → Tells v (view_in loop m it key) (view s w) e
  tells-by it w key (S.Const a) o l q = tt
  tells-by it w key (S.Var x at) o l q = scalar-is it w x o l q
  tells-by it w key (S.Property x p at) o l q = let t = both-true (is_in its x) (c.is_kept p) o in property-is it w key x p at t.0 t.1 l q
  tells-by it w key (S.EdgeProperty x p at) o l q = ap Ok (q.0.carries key (EdgeValue p) (both-true (has_load loads (EdgeValue p)) true l).0)
  tells-by it w key (S.Degree d x at) o l q = degree-is it w key d x at o l q
  tells-by it w key S.NodeCount o l q = q.0.graph
  tells-by it w key S.EdgeCount o l q = q.0.graph
  tells-by it w key (S.Live x at) o l q = (node-scalar it w x o l q, live-same v (view_in loop m it key) at (it.store.scalar x) (in-graph it w x o q))
  tells-by it w key (S.Unary op at a) o l q = tells-by it w key a o l q
  tells-by it w key (S.Binary op at a b) o l q =
      let t = both-true (found_of a) (found_of b) o in
      let u = parts-front (loads_in n a) (loads_in n b) l in
      (tells-by it w key a t.0 u.0 q, tells-by it w key b t.1 u.1 q)
  tells-by it w key (S.Both a b) o l q =
      let t = both-true (found_of a) (found_of b) o in
      let u = parts-front (loads_in n a) (loads_in n b) l in
      (tells-by it w key a t.0 u.0 q, tells-by it w key b t.1 u.1 q)
  tells-by it w key (S.Either a b) o l q =
      let t = both-true (found_of a) (found_of b) o in
      let u = parts-front (loads_in n a) (loads_in n b) l in
      (tells-by it w key a t.0 u.0 q, tells-by it w key b t.1 u.1 q)
  tells-by it w key (S.Choose e a b) o l q =
      let t = both-true (found_of e) (found_of a && found_of b) o in
      let tt2 = both-true (found_of a) (found_of b) t.1 in
      let u = parts-front (loads_in n e) (loads_in n a ++ loads_in n b) l in
      let uu2 = parts-front (loads_in n a) (loads_in n b) u.1 in
      (tells-by it w key e t.0 u.0 q, tells-by it w key a tt2.0 uu2.0 q, tells-by it w key b tt2.1 uu2.1 q)
  tells-by it w key (S.Folded f h e a) o l q = absurd (both_ways false refl o)

  pub tells : (it : Iteration) (w : VertexState) (key : Key) (e : Expr) → found e ≡ true → Shows it w → Tells v (view_in loop m it key) (view s w) e
  tells it w key e o q = let t = both-true (found_of e) (carried_of e) o in tells-by it w key e t.0 t.1 q

  pub all-tell : (it : Iteration) (w : VertexState) (key : Key) (es : List Expr) → list_all found es ≡ true → Shows it w → AllTell v (view_in loop m it key) (view s w) es
  all-tell it w key [] o q = tt
  all-tell it w key (e ∷ es) o q = let t = both-true (found e) (list_all found es) o in (tells it w key e t.0 q, all-tell it w key es t.1 q)

  unlike_local : (x y : ℕ) → is_register (variable_at c.declarations x) ≡ true → is_register (variable_at c.declarations y) ≡ false → nat_eq x y ≡ false
  unlike_local x y e f = ne_eqb x y (λ z. both_ways (is_register (variable_at c.declarations y)) f (ap (λ b. is_register (variable_at c.declarations b)) (sym z) ∙ e))

  -- a load does not change with a local
  same-load : (it : Iteration) (key : Key) (x : ℕ) (a : Value) (load : Load) → load_value (view_in loop m it key) k load ≡ load_value (view_in loop m (wrote it (Scalar x, a)) key) k load
  same-load it key x a SenderItself = refl
  same-load it key x a (SenderProperty p) = refl
  same-load it key x a (SenderDegree Out) = refl
  same-load it key x a (SenderDegree In) = refl
  same-load it key x a (EdgeValue p) = refl

  pub local : (it : Iteration) (w : VertexState) (x : ℕ) (a : Value) → is_local c x ≡ true → Shows it w → Shows (wrote it (Scalar x, a)) (record w { registers = slice_set w.registers (c.register x) a })
  local it w x a o q =
      let t = both-true (nat_lt x (length c.declarations)) (is_register (variable_at c.declarations x)) o in
      let lt = ltb-true x (length c.declarations) t.0 in
      let within = subst (λ z. c.register x < z) (sym q.0.register_count) (apart.register_within x lt t.1) in (
        record {
          fine = q.0.fine;
          node = q.0.node;
          graph = q.0.graph;
          from_inside = q.0.from_inside;
          inside = q.0.inside;
          at_sender = ap (λ b. if b then a else it.store.scalar n) (unlike_local x n t.1 unlike_outer) ∙ q.0.at_sender;
          at_node = ap (λ b. if b then a else it.store.scalar i) (unlike_local x i t.1 unlike_inner) ∙ q.0.at_node;
          phase = λ y f h l e g. q.0.phase y f h l e g ∙ sym (ap (λ b. if b then a else it.store.scalar y) (unlike_local x y t.1 e));
          in_graph = λ y f h l e. subst (IsInGraph loop.graph) (sym (ap (λ b. if b then a else it.store.scalar y) (unlike_local x y t.1 (global-no_register (variable_at c.declarations y) e)))) (q.0.in_graph y f h l e);
          locals = λ y l e.
              after-set w.registers (c.register x) a (c.register y) within
              ∙ ap (λ b. if b then a else value_at w.registers (c.register y)) (same-register x y lt l t.1 e)
              ∙ ap (λ u. if nat_eq x y then a else u) (q.0.locals y l e);
          properties = q.0.properties;
          carries = λ key load h. q.0.carries key load h ∙ same-load it key x a load;
          register_count = length-set w.registers (c.register x) a ∙ q.0.register_count;
          field_count = q.0.field_count;
        },
        giving.stays it (wrote it (Scalar x, a)) w (record w { registers = slice_set w.registers (c.register x) a }) refl refl refl refl refl refl q.1,
      ) where
        same-register : (x y : ℕ) → x < length c.declarations → y < length c.declarations → is_register (variable_at c.declarations x) ≡ true → is_register (variable_at c.declarations y) ≡ true
            → nat_eq (c.register x) (c.register y) ≡ nat_eq x y
        same-register x y l h e f = by (nat_eq (c.register x) (c.register y)) refl where
          by : (b : Bool) → nat_eq (c.register x) (c.register y) ≡ b → b ≡ nat_eq x y
          by true z = sym (eq-eqb x y (apart.registers_apart x y l h e f (eqb-true (c.register x) (c.register y) z)))
          by false z = sym (ne_eqb x y (λ g. eqb-false (c.register x) (c.register y) z (ap c.register g)))

  pub gave-failed : (it : Iteration) (w : VertexState) (f : Fault) → Gave it w → Gave (failed it f) w
  gave-failed it w f q = giving.stays it (failed it f) w w refl refl refl refl refl refl q

  pub shows-given : (it : Iteration) (w u : VertexState) (a : Contribution) → ReceiverShows c loop i k j edge registers fields loads s it w → u.fields ≡ w.fields → u.registers ≡ w.registers → ReceiverShows c loop i k j edge registers fields loads s (gave_outermost it a) u
  shows-given it w u a q e f = record {
    fine = q.fine;
    node = q.node;
    graph = q.graph;
    from_inside = q.from_inside;
    inside = q.inside;
    at_sender = q.at_sender;
    at_node = q.at_node;
    phase = q.phase;
    in_graph = q.in_graph;
    locals = subst (λ rs. HoldLocals c rs it.store) (sym f) q.locals;
    properties = subst (λ fs. HoldProperties c fs j it.store) (sym e) q.properties;
    carries = λ key load h. q.carries key load h ∙ same it key load;
    register_count = ap length f ∙ q.register_count;
    field_count = ap length e ∙ q.field_count;
  } where
    same : (it : Iteration) (key : Key) (load : Load) → load_value (view_in loop m it key) k load ≡ load_value (view_in loop m (gave_outermost it a) key) k load
    same it key SenderItself = refl
    same it key (SenderProperty p) = refl
    same it key (SenderDegree Out) = refl
    same it key (SenderDegree In) = refl
    same it key (EdgeValue p) = refl

  folds : (it : Iteration) (w : VertexState) (a : Contribution) → are_of_scalars a.slots ≡ false → is_sent out a ≡ false → Shows it w → Shows (gave_outermost it a) (record w { folds = w.folds ++ given c v a ∷ [] })
  folds it w a o h q = (shows-given it w (record w { folds = w.folds ++ given c v a ∷ [] }) a q.0 refl refl, giving.folds it w a o h q.1)

  puts : (it : Iteration) (w : VertexState) (a : Contribution) → are_of_scalars a.slots ≡ true → Shows it w → Shows (gave_outermost it a) (record w { puts = w.puts ++ given c v a ∷ [] })
  puts it w a o q = (shows-given it w (record w { puts = w.puts ++ given c v a ∷ [] }) a q.0 refl refl, giving.puts it w a o q.1)

  abbrev Ended : List Line → List Line → VertexState → Iteration → Option Fault → Type 0
  Ended = Ending v run Shows Gave

  put-case : (kind : ℕ) (key : Key) (total : TotalKey) (r : Reduce) (ts : List Target) (es : List Expr) (it : Iteration) (w : VertexState) (rest : List Line) → puts_to_scalars c found r ts es ≡ true → Shows it w
      → let out = does (S.Combine key total r ts es) m loop it in
      Ended (reduce_lines (receiver_site c seg n i loads) kind (way_of c.declarations i ts) key total r ts (map (term v key) es)) rest w out out.fault
  put-case kind key total r [] es it w rest o q = absurd (both_ways false refl o)
  put-case kind key total r (t ∷ ts) es it w rest o q =
      let x = both-true (are_scalars c (t ∷ ts)) (list_all (is_declared c) (t ∷ ts) && (same_length (t ∷ ts) es && list_all found es)) o in
      let z = both-true (list_all (is_declared c) (t ∷ ts)) (same_length (t ∷ ts) es && list_all found es) x.1 in
      let y = both-true (same_length (t ∷ ts) es) (list_all found es) z.1 in
      let out = does (S.Combine key total r (t ∷ ts) es) m loop it in
      subst (λ way. Ended (reduce_lines (receiver_site c seg n i loads) kind way key total r (t ∷ ts) (map (term v key) es)) rest w out out.fault) (sym (puts-way c i (t ∷ ts) x.0))
      (put-ends c v loop m s run Shows Gave depth_is (λ r' place targets ls u. refl) (λ a u b. b.0.fine) (λ a u f b. gave-failed a u f b.1) puts
      key total r t ts es it w rest q x.0 y.0 (all-tell it w key es y.1 q))

  fold-case : (kind : ℕ) (key : Key) (total : TotalKey) (r : Reduce) (ts : List Target) (es : List Expr) (it : Iteration) (w : VertexState) (rest : List Line) → folds_to c i found r ts es ≡ true → list_all (is_taken_here out total.key.statement) ts ≡ true → Shows it w
      → let out = does (S.Combine key total r ts es) m loop it in
      Ended (reduce_lines (receiver_site c seg n i loads) kind (way_of c.declarations i ts) key total r ts (map (term v key) es)) rest w out out.fault
  fold-case kind key total r [] es it w rest o h q = absurd (both_ways false refl o)
  fold-case kind key total r (t ∷ ts) es it w rest o h q =
      let x = both-true (are_kept c i (t ∷ ts)) (same_length (t ∷ ts) es && list_all found es) o in
      let y = both-true (same_length (t ∷ ts) es) (list_all found es) x.1 in
      let end = does (S.Combine key total r (t ∷ ts) es) m loop it in
      subst (λ way. Ended (reduce_lines (receiver_site c seg n i loads) kind way key total r (t ∷ ts) (map (term v key) es)) rest w end end.fault) (sym (folds-way c i t ts x.0))
      (fold-ends c v loop m s run Shows Gave i j two (λ r' place targets ls u. refl) (λ a u b. b.0.fine) (λ a u f b. gave-failed a u f b.1)
      (λ a u key' b. ap (node_in loop.graph) b.0.at_node ∙ node-in loop.graph j b.0.inside) out folds
      key total r t ts es it w rest q x.0 h y.0 (all-tell it w key es y.1 q))

  reduce : (kind : ℕ) (key : Key) (total : TotalKey) (r : Reduce) (ts : List Target) (es : List Expr) (it : Iteration) (w : VertexState) (rest : List Line) → receiver_gives c i found r ts es ≡ true → list_all (is_taken_here out total.key.statement) ts ≡ true → Shows it w
      → let out = does (S.Combine key total r ts es) m loop it in
      Ended (reduce_lines (receiver_site c seg n i loads) kind (way_of c.declarations i ts) key total r ts (map (term v key) es)) rest w out out.fault
  reduce kind key total r ts es it w rest o h q = by (puts_to_scalars c found r ts es) refl where
    by : (b : Bool) → puts_to_scalars c found r ts es ≡ b
        → let out = does (S.Combine key total r ts es) m loop it in
        Ended (reduce_lines (receiver_site c seg n i loads) kind (way_of c.declarations i ts) key total r ts (map (term v key) es)) rest w out out.fault
    by true e = put-case kind key total r ts es it w rest e q
    by false e = fold-case kind key total r ts es it w rest (or-false (puts_to_scalars c found r ts es) (folds_to c i found r ts es) e o) h q

  or-cases' : {A : Type 0} (a : Bool) {b : Bool} → a || b ≡ true → (a ≡ true → A) → (b ≡ true → A) → A
  or-cases' true h f g = f refl
  or-cases' false h f g = g h

  -- a line that sets a local
  set-register : (it : Iteration) (w : VertexState) (rest : List Line) (x : ℕ) (t : Term) (a : Answer) → is_local c x ≡ true → Shows it w → term_value (view s w) t ≡ answer_of v a
      → let out = with_ok it a (λ y. wrote it (Scalar x, y)) in Ended (SetRegister (c.register x) t ∷ []) rest w out out.fault
  set-register it w rest x t (Ok a) o q e =
      subst (Ended (SetRegister (c.register x) t ∷ []) rest w (wrote it (Scalar x, a))) (sym q.0.fine) (
        record w { registers = slice_set w.registers (c.register x) a },
        local it w x a o q,
        ap (λ u. goes_on (line_ends w u (λ y. leaves (record w { registers = slice_set w.registers (c.register x) y }))) (λ k' z. lines_after s rest k' z)) e,
      )
  set-register it w rest x t (Err f) o q e = (
    w,
    gave-failed it w f q.1,
    ap (λ u. goes_on (line_ends w u (λ y. leaves (record w { registers = slice_set w.registers (c.register x) y }))) (λ k' z. lines_after s rest k' z)) e,
  )

  module _ (table : TypeTable) (around : List ℕ) (result : Option VType) where
    abbrev pub Ready : ℕ → S.Stmt → Iteration → Type 0
    Ready kind st it = Typed c table around result loop st it × HasSpares c registers (body_positions c.declarations st)

    pick-case : (kind : ℕ) (key : Key) (total : TotalKey) (r : Reduce) (ts : List Target) (es : List Expr) (it : Iteration) (w : VertexState) (rest : List Line)
        → picks_inside c found r ts es ≡ true → Typed c table around result loop (S.Combine key total r ts es) it → Shows it w
        → let out = does (S.Combine key total r ts es) m loop it in
        Ended (reduce_lines (receiver_site c seg n i loads) kind (way_of c.declarations i ts) key total r ts (map (term v key) es)) rest w out out.fault
    pick-case kind key total r [] es it w rest o typed q = absurd (both_ways false refl o)
    pick-case kind key total r (T.Property x p at ∷ ts) es it w rest o typed q = absurd (both_ways false refl o)
    pick-case kind key total r (T.Scalar x at ∷ (t ∷ ts)) es it w rest o typed q = absurd (both_ways false refl o)
    pick-case kind key total r (T.Scalar x at ∷ []) [] it w rest o typed q = absurd (both_ways false refl o)
    pick-case kind key total r (T.Scalar x at ∷ []) (e ∷ (d ∷ es)) it w rest o typed q = absurd (both_ways false refl o)
    pick-case kind key total r (T.Scalar x at ∷ []) (e ∷ []) it w rest o typed q =
        let a = both-true (keeps_tuples r) (is_inner_local c x && found e) o in
        let b = both-true (is_inner_local c x) (found e) a.1 in
        let local' = (both-true (is_local c x) (nat_lt 1 (variable_at c.declarations x).depth) b.0).0 in
        let d = both-true (nat_lt x (length c.declarations)) (is_register (variable_at c.declarations x)) local' in
        let u = view_in loop m it key in
        let told = tells it w key e b.1 q in
        let held = v.scalar x in
        let value = term v key e in
        let unlike = unlike_local x n d.1 unlike_outer in
        let holds : term_value (view s w) held ≡ Ok (it.store.scalar x) =
        scalar-by it w x q (λ j. absurd (both_ways (nat_eq x n) unlike j))
        (λ f g. (ltb-true x (length c.declarations) d.0, ap (λ z. z || is Sorts.Iterator (variable_at c.declarations x)) (both-true (is Sorts.Scalar (variable_at c.declarations x)) (not (nat_eq (variable_at c.declarations x).depth 0)) d.1).0)) in
        let out = does (S.Combine key total r (T.Scalar x at ∷ []) (e ∷ [])) m loop it in
        subst (λ way. Ended (reduce_lines (receiver_site c seg n i loads) kind way key total r (T.Scalar x at ∷ []) (value ∷ [])) rest w out out.fault) (sym (picks-way c i x at local'))
        (subst (λ z. Ended (SetRegister (c.register x) (M.Choose (compared (better r) value held) value held) ∷ []) rest w z z.fault)
        (sym (pick-at c table around result loop m key total r x at e it (inner-now c loop depth_is edge x b.0) a.0 local' typed (hoisted-parallel v u (view s w) e refl told)))
        (set-register it w rest x (M.Choose (compared (better r) value held) value held) (kept_value r (it.store.scalar x) (evaluated e u).rest) local' q
        (pick-term r v (view s w) value held (it.store.scalar x) (evaluated e u).rest a.0 (rest-term v u (view s w) e told) holds)))

    receiver-spared : (positions : ℕ) → HasSpares c registers positions → (it : Iteration) (w : VertexState) (a' : ℕ) (t : VType) (a : Value) → a' < positions → Shows it w → Shows it (record w { registers = slice_set w.registers (c.spare_register a' t) a })
    receiver-spared positions spares it w b t a lt q = (
      record {
        fine = q.0.fine;
        node = q.0.node;
        graph = q.0.graph;
        from_inside = q.0.from_inside;
        inside = q.0.inside;
        at_sender = q.0.at_sender;
        at_node = q.0.at_node;
        phase = q.0.phase;
        in_graph = q.0.in_graph;
        locals = λ x l e.
            after-set w.registers (c.spare_register b t) a (c.register x) (subst (λ z. c.spare_register b t < z) (sym q.0.register_count) (spares.within b t lt))
            ∙ ap (λ z. if z then a else value_at w.registers (c.register x)) (ne_eqb (c.spare_register b t) (c.register x) (λ e'. spares.others b x t lt l e (sym e')))
            ∙ q.0.locals x l e;
        properties = q.0.properties;
        carries = q.0.carries;
        register_count = length-set w.registers (c.spare_register b t) a ∙ q.0.register_count;
        field_count = q.0.field_count;
      },
      giving.stays it it w (record w { registers = slice_set w.registers (c.spare_register b t) a }) refl refl refl refl refl refl q.1,
    )

    local-held : (it : Iteration) (w : VertexState) (x : ℕ) → is_local c x ≡ true → Shows it w → term_value (view s w) (v.scalar x) ≡ Ok (it.store.scalar x)
    local-held it w x local' q =
        let d = both-true (nat_lt x (length c.declarations)) (is_register (variable_at c.declarations x)) local' in
        scalar-by it w x q (λ j'. absurd (both_ways (nat_eq x n) (unlike_local x n d.1 unlike_outer) j'))
        (λ f g. (ltb-true x (length c.declarations) d.0, ap (λ z. z || is Sorts.Iterator (variable_at c.declarations x)) (both-true (is Sorts.Scalar (variable_at c.declarations x)) (not (nat_eq (variable_at c.declarations x).depth 0)) d.1).0))

    receiver-tupled : (positions : ℕ) → HasSpares c registers positions → Tupled (receiver_site c seg n i loads) loop m k registers positions s run Shows Gave found (is_inner_target c)
    receiver-tupled positions spares =
        let local-of = λ (x : ℕ) (o : is_inner_local c x ≡ true). (both-true (is_local c x) (nat_lt 1 (variable_at c.declarations x).depth) o).0 in
        record {
          register_runs = λ x t ls w. refl;
          field_runs = λ x t ls w. refl;
          fine = λ it w q. q.0.fine;
          gave_failed = λ it w f q. gave-failed it w f q.1;
          tells = tells;
          local_is = λ it w x at o q. local-held it w x (local-of x o) q;
          property_is = λ it w x p at o q. absurd (both_ways false refl o);
          count = λ it w q. q.0.register_count;
          spared = receiver-spared positions spares;
          is_local_of = λ x at o. local-of x o;
          within = λ x at o. let d = both-true (nat_lt x (length c.declarations)) (is_register (variable_at c.declarations x)) (local-of x o) in apart.register_within x (ltb-true x (length c.declarations) d.0) d.1;
          local = λ it w x at a o q. local it w x a (local-of x o) q;
          field = λ it w x p at a o q. absurd (both_ways false refl o);
          now = λ it w key total r t u ts es o f q.
              inner-tuple-now c loop k depth_is edge it key total r t u ts es o (none-hoisted v (view_in loop m it key) (view s w) es refl (all-tell it w key es f q)) (ap (node_in loop.graph) q.0.at_sender ∙ node-in loop.graph k q.0.from_inside);
        }

    tuple-case : (kind : ℕ) (key : Key) (total : TotalKey) (r : Reduce) (ts : List Target) (es : List Expr) (it : Iteration) (w : VertexState) (rest : List Line)
        → tuples_inside c found r ts es ≡ true → Ready kind (S.Combine key total r ts es) it → Shows it w
        → let out = does (S.Combine key total r ts es) m loop it in
        Ended (reduce_lines (receiver_site c seg n i loads) kind (way_of c.declarations i ts) key total r ts (map (term v key) es)) rest w out out.fault
    tuple-case kind key total r [] es it w rest o ready q = absurd (both_ways false refl o)
    tuple-case kind key total r (t ∷ []) es it w rest o ready q = absurd (both_ways false refl o)
    tuple-case kind key total r (t ∷ (u ∷ ts)) es it w rest o ready q =
        let all = t ∷ (u ∷ ts) in
        let positions = suc (suc (suc (length ts))) in
        let x = is-inside c loop depth_is found r t u ts es o in
        let spares = tuple-spares c registers key total r t u ts es x.some ready.1 in
        let out = does (S.Combine key total r all es) m loop it in
        let less : length all < positions = omega arith in
        subst (λ way. Ended (reduce_lines (receiver_site c seg n i loads) kind way key total r all (map (term v key) es)) rest w out out.fault) (sym (inside-way c loop depth_is i found r all es o))
        (tuple-goes (receiver_site c seg n i loads) loop m k registers positions s run Shows Gave found (is_inner_target c) (receiver-tupled positions spares) spares
        key total r t u ts es (types_of_all c table around result loop m key total r t u ts es it k x.some ready.0) it w rest x.keeps x.inner (own-distinct k all x.distinct) x.long x.found_all less q
        (held-typed c table around result loop m key total r t u ts es it k x.some ready.0) (new-typed c table around result loop m key total r t u ts es it k x.some ready.0))

    pub message-case : (kind : ℕ) (key : Key) (total : TotalKey) (r : Reduce) (ts : List Target) (es : List Expr) (it : Iteration) (w : VertexState) (rest : List Line)
        → inner_gives c i found r ts es ≡ true → list_all (is_taken_here out total.key.statement) ts ≡ true → Ready kind (S.Combine key total r ts es) it → Shows it w
        → let out = does (S.Combine key total r ts es) m loop it in
        Ended (reduce_lines (receiver_site c seg n i loads) kind (way_of c.declarations i ts) key total r ts (map (term v key) es)) rest w out out.fault
    message-case kind key total r ts es it w rest o taken typed q = by (receiver_gives c i found r ts es) refl where
      by : (b : Bool) → receiver_gives c i found r ts es ≡ b
          → let out = does (S.Combine key total r ts es) m loop it in
          Ended (reduce_lines (receiver_site c seg n i loads) kind (way_of c.declarations i ts) key total r ts (map (term v key) es)) rest w out out.fault
      by true e = reduce kind key total r ts es it w rest e taken q
      by false e =
          or-cases' (picks_inside c found r ts es) (or-false (receiver_gives c i found r ts es) (picks_inside c found r ts es || tuples_inside c found r ts es) e o)
          (λ h. pick-case kind key total r ts es it w rest h typed.0 q) (λ h. tuple-case kind key total r ts es it w rest h typed q)

    -- a receiver's site holds
    pub receiver-holds : ((k : ℕ) (ts : List Target) → list_all (is_taken_here out k) ts ≡ true) → Holds (receiver_site c seg n i loads) loop m s run Shows Gave found sets_nothing (inner_gives c i found) Ready
    receiver-holds nothing =
        let types = parts-typed c table around result loop m in
        record {
          type_is = type_is;
          skipped = λ l ls a w. refl;
          register_runs = λ x t ls w. refl;
          skip_runs = λ a t ls w. refl;
          fine = λ it w q. q.0.fine;
          gave = λ it w q. q.1;
          gave_failed = gave-failed;
          tells = tells;
          local = local;
          property = λ key x p at e it w rest o f q. absurd (both_ways false refl o);
          placed_first = λ kind a b it h. (types.first a b it h.0, spares-first c registers (body_positions c.declarations a) (body_positions c.declarations b) h.1);
          placed_second = λ kind a b it h e. (types.second a b it h.0, spares-second c registers (body_positions c.declarations a) (body_positions c.declarations b) h.1);
          placed_yes = λ kind k e a b it h. (types.yes k e a b it h.0, spares-first c registers (body_positions c.declarations a) (body_positions c.declarations b) h.1);
          placed_no = λ kind k e a b it h. (types.no k e a b it h.0, spares-second c registers (body_positions c.declarations a) (body_positions c.declarations b) h.1);
          reduce = λ kind key total r ts es it w rest o h q. message-case kind key total r ts es it w rest o (nothing total.key.statement ts) h q;
        }

-- where a handler begins
module _ (c : Layout) (registers : List VType) (fields : ℕ) (loop : Loop) (i : ℕ) (loads : List Load) (key : Key) (s : VertexContext) (fs : List Value) (k edge : ℕ) (r : Store)
    (inner : is_register (variable_at c.declarations i) ≡ false) (two : nat_eq i loop.outer ≡ false) (graph : s.graph ≡ loop.graph)
    (shows : MessageShows c loop.graph registers fields s.globals fs s.message loop.outer loads (view_in loop (AtEdge edge) (begun r) key) k s.node r) where
  turned : (x y : ℕ) → nat_eq x y ≡ false → nat_eq y x ≡ false
  turned x y e = ne_eqb y x (λ z. eqb-false x y e (sym z))

  pub receiver-begins : ReceiverShows c loop i k s.node edge (length registers) fields loads s (begun (write r (Scalar i) (At (Some s.node)))) (begin registers fs)
  receiver-begins = record {
    fine = refl;
    node = refl;
    graph = graph;
    from_inside = shows.from_inside;
    inside = shows.inside;
    at_sender = ap (λ b. if b then At (Some s.node) else r.scalar loop.outer) two ∙ shows.sender;
    at_node = ap (λ b. if b then At (Some s.node) else r.scalar i) (eq-eqb i i refl);
    phase = λ x f h lt e g. shows.scalar x f lt e g ∙ sym (ap (λ b. if b then At (Some s.node) else r.scalar x) (turned x i h));
    in_graph = λ x f h lt e. subst (IsInGraph loop.graph) (sym (ap (λ b. if b then At (Some s.node) else r.scalar x) (turned x i h))) (shows.in_graph x f lt e);
    locals = λ x lt e. shows.locals x lt e ∙ sym (ap (λ b. if b then At (Some s.node) else r.scalar x) (unlike x e));
    properties = shows.properties;
    carries = λ key' load o. shows.carries load o ∙ same key' load;
    register_count = length-map zero_of registers;
    field_count = shows.field_count;
  } where
    unlike : (x : ℕ) → is_register (variable_at c.declarations x) ≡ true → nat_eq i x ≡ false
    unlike x e = ne_eqb i x (λ z. both_ways (is_register (variable_at c.declarations x)) (ap (λ b. is_register (variable_at c.declarations b)) (sym z) ∙ inner) e)

    length-map : {A B : Type 0} (f : A → B) (xs : List A) → length (map f xs) ≡ length xs
    length-map f [] = refl
    length-map f (x ∷ xs) = ap suc (length-map f xs)

    same : (key' : Key) (load : Load) → load_value (view_in loop (AtEdge edge) (begun r) key) k load ≡ load_value (view_in loop (AtEdge edge) (begun (write r (Scalar i) (At (Some s.node)))) key') k load
    same key' SenderItself = refl
    same key' (SenderProperty p) = refl
    same key' (SenderDegree Out) = refl
    same key' (SenderDegree In) = refl
    same key' (EdgeValue p) = refl

-- a handler's run
module _ (c : Layout) (seg : Segment) (registers : List VType) (fields : ℕ) (loop : Loop) (i : ℕ) (loads : List Load) (kind : ℕ) (key : Key) (test : Expr) (body : Stmt)
    (s : VertexContext) (fs : List Value) (k edge : ℕ) (r : Store) (table : TypeTable) (around : List ℕ) (result : Option VType)
    (able : IsMessageLoop c registers fields loop i loads test body) (graph : s.graph ≡ loop.graph)
    (shows : MessageShows c loop.graph registers fields s.globals fs s.message loop.outer loads (view_in loop (AtEdge edge) (begun r) key) k s.node r) where
  abbrev start : Iteration
  start = begun (write r (Scalar i) (At (Some s.node)))

  abbrev first : VertexState
  first = begin registers fs

  abbrev out : Iteration
  out = turn_at loop (AtEdge edge) key test (does body (AtEdge edge) loop) i s.node r

  abbrev w_env : Env
  w_env = receiver_env c seg loop.outer i loads

  abbrev sh : Iteration → VertexState → Type 0
  sh = Shows c seg loop i k s.node edge (length registers) fields loads s able.apart able.outer able.inner able.two able.types able.depths [] (λ it w. ReceiverGave c w_env it w) (receiver-giving c w_env)

  begins : sh start first
  begins = (receiver-begins c registers fields loop i loads key s fs k edge r able.inner able.two graph shows, record { puts = refl; folds = refl; messages = refl; inner = refl; deferred = refl })

  abbrev lines : List Line
  lines = handler_lines c seg loop.outer i loads kind key test body

  ends-as : (f : Option Fault)
      → Ending w_env (lines_after s) sh (ReceiverGave c w_env) lines [] first out f
      → RunEnds c w_env out (lines_after s lines 0 first) f
  ends-as None e =
      subst (λ a. RunEnds c w_env out a None) (sym (ap (λ ls. lines_after s ls 0 first) (sym (append-nil lines)) ∙ e.2)) (refl, e.1.1)
  ends-as (Some f) e =
      subst (λ a. RunEnds c w_env out a (Some f)) (sym (ap (λ ls. lines_after s ls 0 first) (sym (append-nil lines)) ∙ e.2)) (refl, e.1)

  pub handler-run : Typed c table around result loop body start → RunEnds c w_env out (lines_after s lines 0 first) out.fault
  handler-run typed =
      ends-as out.fault (
      filtered-ends (receiver_site c seg loop.outer i loads) loop (AtEdge edge) s (lines_after s) sh (ReceiverGave c w_env) (receiver_finds c loop.outer i loads) sets_nothing (inner_gives c i (receiver_finds c loop.outer i loads))
      (receiver-holds c seg loop i k s.node edge (length registers) fields loads s able.apart able.outer able.inner able.two able.types able.depths [] (λ it w. ReceiverGave c w_env it w) (receiver-giving c w_env) table around result nothing-sent)
      key test body kind able.found able.fits start (typed, able.spares) first [] begins)

pub handlers-are-turns : HandlersAreTurns
handlers-are-turns c seg registers fields loop i loads kind key test body s fs k edge r table around result able typed graph shows = handler-run c seg registers fields loop i loads kind key test body s fs k edge r table around result able graph shows typed
