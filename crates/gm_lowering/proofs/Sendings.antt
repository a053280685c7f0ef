-- Reductions that are sent through node variables: what they do, the line that sends, and what they leave.
use Rattle.std.proofs.Common.{◌≡◌, ◌<◌, ◌≤◌, ℕ, Bool, true, false, Option, Some, None, Result, Ok, Err, List, [], ◌∷◌, ◌++◌, refl, ap, ◌∙◌, sym, subst, inl, inr, ⊎_elim, arith}
use Rattle.std.specs.Prelude.{◌+◌, ◌&&◌, ◌||◌, not, if◌then◌else◌, nat_eq, slice_get}
use Rattle.std.specs.List.{list_all}
use Rattle.std.proofs.lemmas.Bool.{both_ways, not-true}
use Rattle.gm_base.specs.declared.places.Place.{Place}
use Rattle.gm_value.specs.declared.values.VType.{VType}
use Rattle.gm_value.specs.declared.values.Value.{Value}
use Rattle.gm_value.specs.declared.values.Value.TheVariants.{I32, I64, Flag, At}
use Rattle.gm_value.specs.declared.faults.FaultKind.TheVariants.{NilNode}
use Rattle.gm_value.specs.declared.reductions.Reduce.{Reduce}
use Rattle.gm_value.specs.Bag.{IsIn}
use Rattle.gm_model.specs.Graphs.{NumberedGraph, node_count}
use Rattle.gm_ast.specs.declared.tree.Key.{Key}
use Rattle.gm_ast.specs.declared.tree.Sort.TheVariants as Sorts
use Rattle.gm_ast.specs.declared.tree.Target.{Target}
use Rattle.gm_ast.specs.declared.tree.Target.TheVariants as T
use Rattle.gm_ast.specs.declared.tree.TotalKey.{TotalKey}
use Rattle.gm_ast.specs.declared.tree.Variable.{Variable}
use Rattle.gm_ast.specs.Names.{is}
use Rattle.gm_ast.specs.Program as S
use Rattle.gm_ast.specs.Program.{Expr, Stmt}
use Rattle.gm_ast.specs.Ways.{is_in}
use Rattle.gm_forms.proofs.Named.{both-true}
use Rattle.gm_semantics.specs.declared.faults.Fault.{Fault}
use Rattle.gm_semantics.specs.declared.slots.Slot.TheVariants.{Node}
use Rattle.gm_semantics.specs.Contributions.{Contribution}
use Rattle.gm_semantics.specs.Expressions.{View, AllEvaluated, evaluated_all, node_held, fault_at}
use Rattle.gm_semantics.specs.Faults.{then_with, unless_fault}
use Rattle.gm_semantics.specs.Iterations.{Loop, Mode, Iteration, view_in, failed, with_ok, slots_of, assigned_all, contribution, gave_outermost, reduced, does}
use Rattle.gm_semantics.specs.Levels.{node_in}
use Rattle.gm_semantics.specs.Statements.{variable_at}
use Rattle.gm_typed_stores.specs.Tells.{TypeTable}
use Rattle.gm_typed_stores.specs.Values.{NodeBelow}
use Rattle.gm_typed_stores.proofs.Kept.{holds-scalar}
use Rattle.gm_image.specs.Program.{Line, Send}
use Rattle.gm_image.specs.Term.{Term}
use Rattle.gm_machine.specs.Expressions.{value as term_value, values}
use Rattle.gm_machine.specs.Vertex.{Message, VertexContext, VertexState, After, view, line_ends, leaves, goes_on, messages_to}
use Rattle.gm_lowering.specs.Layouts.{Layout, is_global, has_value}
use Rattle.gm_lowering.specs.Places.{Spot, spots_in_all, spot_at, spot_of_total}
use Rattle.gm_lowering.specs.Terms.{Env}
use Rattle.gm_lowering.specs.Plans.{Away, way_of}
use Rattle.gm_lowering.specs.Bodies.{reduce_spots, target_spots}
use Rattle.gm_lowering.specs.Showing.{answer_of}
use Rattle.gm_lowering.specs.Sites.{are_of_scalars, finds, same_length, IsInGraph}
use Rattle.gm_lowering.specs.OwnLoops.{AreTyped}
use Rattle.gm_lowering.specs.Settles.{HasSpot, spot_of_fault}
use Rattle.gm_lowering.specs.TakingSteps.{Carried}
use Rattle.gm_lowering.specs.MessageLoops.{inner_gives}
use Rattle.gm_lowering.specs.Sent.{may_hold_node, sends_through, sender_gives}
use Rattle.gm_lowering.proofs.Bodies.{Ends as Ending}
use Rattle.gm_lowering.proofs.Givens.{node_slots, are_kept, node-slots, node-in, assigned-is}
use Rattle.gm_lowering.proofs.Kept.{Gives}
use Rattle.gm_lowering.proofs.Receivers.{nodes-end}
use Rattle.gm_lowering.proofs.Receiving.{all-weaker, and-last, or-cases, inner-weaker}
use Rattle.gm_lowering.proofs.Sent.{sends-way, same-slots, LongAs}
use Rattle.gm_lowering.proofs.Spots.{Has, HoldNodes, Left, Within, spot-left, spot-right, all-read, all-within, all-hoist_nothing}

-- a node of the graph
pub node-inside : (g : NumberedGraph) (a : Value) (j : ℕ) → IsInGraph g a → node_in g a ≡ Some j → j < node_count g
node-inside g (At (Some k)) j h e = subst (λ z. z < node_count g) (ap number (sym (node-in g k (h k refl)) ∙ e)) (h k refl) where
  number : Option ℕ → ℕ
  number (Some z) = z
  number None = 0
node-inside g (At None) j h e = absurd (both_ways true (ap is_none e) refl) where
  is_none : Option ℕ → Bool
  is_none (Some z) = false
  is_none None = true
node-inside g (I32 z) j h e = absurd (both_ways true (ap is_none e) refl) where
  is_none : Option ℕ → Bool
  is_none (Some z) = false
  is_none None = true
node-inside g (I64 z) j h e = absurd (both_ways true (ap is_none e) refl) where
  is_none : Option ℕ → Bool
  is_none (Some z) = false
  is_none None = true
node-inside g (Flag b) j h e = absurd (both_ways true (ap is_none e) refl) where
  is_none : Option ℕ → Bool
  is_none (Some z) = false
  is_none None = true

-- a scalar that has a type holds a node of the graph, if any
pub scalar-inside : (c : Layout) (table : TypeTable) (around : List ℕ) (result : Option VType) (loop : Loop) (st : Stmt) (it : Iteration) (x : ℕ) → table.limit ≤ node_count loop.graph
    → AreTyped c table around result loop st it → is Sorts.Scalar (variable_at c.declarations x) ≡ true → IsInGraph loop.graph (it.store.scalar x)
scalar-inside c table around result loop st it x limit typed o j e =
    let b = (typed.iteration.store.scalar x (holds-scalar table around x (ap (λ ds. is Sorts.Scalar (variable_at ds x)) typed.declarations ∙ o))).below in
    let lt : j < table.limit = subst (NodeBelow table.limit) e b in
    omega (arith, lt, limit)

-- what may hold a node has a value
pub held-value : (v : Variable) → is Sorts.Scalar v || is_global v ≡ true → has_value v ≡ true
held-value v h = by (is Sorts.Scalar v) (nat_eq v.depth 0) (is Sorts.Iterator v) h where
  by : (a b d : Bool) → a || (b && (a || d)) ≡ true → a || d ≡ true
  by true b d h = refl
  by false true d h = h
  by false false d h = absurd (both_ways false refl h)

-- what is none of one iterator, and of two
pub off-one : (x n : ℕ) → is_in (n ∷ []) x ≡ false → nat_eq x n ≡ false
off-one x n h = by (nat_eq x n) h where
  by : (b : Bool) → b || false ≡ false → b ≡ false
  by true h = h
  by false h = refl

pub off-both : (x n i : ℕ) → is_in (n ∷ (i ∷ [])) x ≡ false → (nat_eq x i ≡ false) × (nat_eq x n ≡ false)
off-both x n i h = by (nat_eq x n) (nat_eq x i) h where
  by : (a b : Bool) → a || (b || false) ≡ false → (b ≡ false) × (a ≡ false)
  by true b h = absurd (both_ways true h refl)
  by false true h = absurd (both_ways true h refl)
  by false false h = (refl, refl)

-- what is assigned through a node variable
pub assigned-through : (c : Layout) (u : View) (x p : ℕ) (at : Place) (ts : List Target) (a : AllEvaluated) (o : Option ℕ) → are_kept c x (T.Property x p at ∷ ts) ≡ true → a.hoisted ≡ None → node_in u.graph (u.store.scalar x) ≡ o
    → assigned_all u (T.Property x p at ∷ ts) a ≡ then_with (node_held u at o) (λ j. then_with a.rest (λ xs. Ok (node_slots j (T.Property x p at ∷ ts), xs)))
assigned-through c u x p at ts a (Some j) kept none e = assigned-is u (T.Property x p at ∷ ts) a (node_slots j (T.Property x p at ∷ ts)) none (node-slots c x j u (T.Property x p at ∷ ts) kept e)
assigned-through c u x p at ts a None kept none e =
    ap (λ f. unless_fault f (then_with (slots_of u (T.Property x p at ∷ ts)) (λ us. then_with a.rest (λ xs. Ok (us, xs))))) none
    ∙ ap (λ o. then_with (then_with (then_with (node_held u at o) (λ j. Ok (Node p j))) (λ z. then_with (slots_of u ts) (λ ss. Ok (z ∷ ss)))) (λ us. then_with a.rest (λ xs. Ok (us, xs)))) e

-- what a reduction does that sends: it gives its values to the node that its variable holds, or faults where there is none
abbrev pub out_of : TotalKey → Reduce → List Target → Iteration → View → Option ℕ → Place → Result (List Value) Fault → Iteration
out_of total r ts it u o at answer = with_ok it (then_with (node_held u at o) (λ j. then_with answer (λ xs. Ok (node_slots j ts, xs)))) (λ q. gave_outermost it (contribution total r q))

pub does-send : (c : Layout) (loop : Loop) (m : Mode) (k : Key) (total : TotalKey) (r : Reduce) (x p : ℕ) (at : Place) (ts : List Target) (es : List Expr) (it : Iteration)
    → nat_eq x loop.outer ≡ false → are_kept c x (T.Property x p at ∷ ts) ≡ true → (evaluated_all es (view_in loop m it k)).hoisted ≡ None
    → let u = view_in loop m it k in
    does (S.Combine k total r (T.Property x p at ∷ ts) es) m loop it ≡ out_of total r (T.Property x p at ∷ ts) it u (node_in loop.graph (it.store.scalar x)) at (evaluated_all es u).rest
does-send c loop m k total r x p at ts es it off kept none =
    let u = view_in loop m it k in
    ap (λ z. reduced z u it total r (T.Property x p at ∷ ts) es) (nodes-end c loop m x (T.Property x p at) ts off kept)
    ∙ ap (λ z. with_ok it z (λ y. gave_outermost it (contribution total r y))) (assigned-through c u x p at ts (evaluated_all es u) (node_in loop.graph (it.store.scalar x)) kept none refl)

-- a line that sends gives its values
module _ (c : Layout) (v : Env) (loop : Loop) (s : VertexContext) (run : List Line → ℕ → VertexState → After) (Shows Gave : Iteration → VertexState → Type 0) (kind : ℕ) (all : List Away) (Here : Contribution → Type 0)
    (fine : (it : Iteration) (w : VertexState) → Shows it w → it.fault ≡ None)
    (gave_failed : (it : Iteration) (w : VertexState) (f : Fault) → Shows it w → Gave (failed it f) w)
    (send_runs : (first : ℕ) (to : Term) (terms : List Term) (ls : List Line) (w : VertexState)
    → run (Send first to terms ∷ ls) 0 w ≡ goes_on (line_ends w (term_value (view s w) to) (λ z. line_ends w (values (view s w) terms) (λ vs. leaves (record w { messages = w.messages ++ messages_to z first vs })))) (λ k u. run ls k u))
    (sends : (it : Iteration) (w : VertexState) (a : Contribution) (msg : Message) → are_of_scalars a.slots ≡ false → Here a → Carried kind all a msg → msg.to < node_count loop.graph → Shows it w
    → Shows (gave_outermost it a) (record w { messages = w.messages ++ msg ∷ [] })) where
  abbrev Ended : List Line → List Line → VertexState → Iteration → Option Fault → Type 0
  Ended = Ending v run Shows Gave

  -- a send line gives its values in a message to the node, or faults where there is none
  pub send-by : (first : ℕ) (total : TotalKey) (r : Reduce) (x : ℕ) (t : Target) (ts : List Target) (to : Term) (terms : List Term) (it : Iteration) (w : VertexState) (rest : List Line) (u : View) (at : Place)
      → Shows it w → are_kept c x (t ∷ ts) ≡ true → ((j : ℕ) (ys : List Value) → Here (contribution total r (node_slots j (t ∷ ts), ys))) → (l : ℕ) → slice_get all l ≡ Some (record { total = total; reduce = r; targets = t ∷ ts }) → first ≡ kind + l
      → (o : Option ℕ) → ((j : ℕ) → o ≡ Some j → j < node_count loop.graph) → term_value (view s w) to ≡ answer_of v (then_with (node_held u at o) (λ j. Ok (At (Some j))))
      → (answer : Result (List Value) Fault) → LongAs (t ∷ ts) answer → values (view s w) terms ≡ answer_of v answer
      → let out = out_of total r (t ∷ ts) it u o at answer in Ended (Send first to terms ∷ []) rest w out out.fault
  send-by first total r x t ts to terms it w rest u at q kept there l here place None lt e answer long d = (
    w,
    gave_failed it w (fault_at u at NilNode) q,
    send_runs first to terms rest w
        ∙ ap (λ y. goes_on (line_ends w y (λ z. line_ends w (values (view s w) terms) (λ vs. leaves (record w { messages = w.messages ++ messages_to z first vs })))) (λ k' u'. run rest k' u')) e,
  )
  send-by first total r x t ts to terms it w rest u at q kept there l here place (Some j) lt e (Err f) long d = (
    w,
    gave_failed it w f q,
    send_runs first to terms rest w
        ∙ ap (λ y. goes_on (line_ends w y (λ z. line_ends w (values (view s w) terms) (λ vs. leaves (record w { messages = w.messages ++ messages_to z first vs })))) (λ k' u'. run rest k' u')) e
        ∙ ap (λ y. goes_on (line_ends w y (λ vs. leaves (record w { messages = w.messages ++ record { to = j; kind = first; values = vs } ∷ [] }))) (λ k' u'. run rest k' u')) d,
  )
  send-by first total r x t ts to terms it w rest u at q kept there l here place (Some j) lt e (Ok xs) long d =
      let a = contribution total r (node_slots j (t ∷ ts), xs) in
      let msg : Message = record { to = j; kind = first; values = xs } in
      subst (Ended (Send first to terms ∷ []) rest w (gave_outermost it a)) (sym (fine it w q)) (
        record w { messages = w.messages ++ msg ∷ [] },
        sends it w a msg (not-scalars t ts kept) (there j xs)
            (record {
              index = l;
              away = record { total = total; reduce = r; targets = t ∷ ts };
              found = here;
              of_kind = place;
              made = ap (λ ss. contribution total r (ss, xs)) (same-slots j (t ∷ ts));
              long = long;
            })
            (lt j refl) q,
        send_runs first to terms rest w
            ∙ ap (λ y. goes_on (line_ends w y (λ z. line_ends w (values (view s w) terms) (λ vs. leaves (record w { messages = w.messages ++ messages_to z first vs })))) (λ k' u'. run rest k' u')) e
            ∙ ap (λ y. goes_on (line_ends w y (λ vs. leaves (record w { messages = w.messages ++ record { to = j; kind = first; values = vs } ∷ [] }))) (λ k' u'. run rest k' u')) d,
      ) where
        not-scalars : (t : Target) (ts : List Target) → are_kept c x (t ∷ ts) ≡ true → are_of_scalars (node_slots j (t ∷ ts)) ≡ false
        not-scalars (T.Property y p pl) ts h = refl
        not-scalars (T.Scalar y pl) ts h = absurd (both_ways false refl h)

-- the slots of what is sent are of nodes
pub sent-of-nodes : (c : Layout) (its : List ℕ) (found : Expr → Bool) (r : Reduce) (ts : List Target) (es : List Expr) (j : ℕ) → sends_through c its found r ts es ≡ true → are_of_scalars (node_slots j ts) ≡ false
sent-of-nodes c its found r [] es j o = absurd (both_ways false refl o)
sent-of-nodes c its found r (T.Scalar x at ∷ ts) es j o = absurd (both_ways false refl o)
sent-of-nodes c its found r (T.Property x p at ∷ ts) es j o = refl

-- a weaker test of what is sent
sends-weaker : (c : Layout) (its : List ℕ) (found other : Expr → Bool) (r : Reduce) (ts : List Target) (es : List Expr) → ((e : Expr) → found e ≡ true → other e ≡ true) → sends_through c its found r ts es ≡ true → sends_through c its other r ts es ≡ true
sends-weaker c its found other r [] es f o = absurd (both_ways false refl o)
sends-weaker c its found other r (T.Scalar x at ∷ ts) es f o = absurd (both_ways false refl o)
sends-weaker c its found other r (T.Property x p at ∷ ts) es f o =
    let all = T.Property x p at ∷ ts in
    and-last (not (is_in its x)) (may_hold_node c x) (are_kept c x all && (same_length all es && list_all found es)) (are_kept c x all && (same_length all es && list_all other es)) o
    (λ k. and-last (are_kept c x all) (same_length all es) (list_all found es) (list_all other es) k (λ z. all-weaker found other es f z))

pub sender-weaker : (c : Layout) (n i : ℕ) (found other : Expr → Bool) (r : Reduce) (ts : List Target) (es : List Expr) → ((e : Expr) → found e ≡ true → other e ≡ true) → sender_gives c n i found r ts es ≡ true → sender_gives c n i other r ts es ≡ true
sender-weaker c n i found other r ts es f o =
    or-cases (inner_gives c i found r ts es) (sends_through c (n ∷ (i ∷ [])) found r ts es) o
    (λ z. ap (λ b. b || sends_through c (n ∷ (i ∷ [])) other r ts es) (inner-weaker c i found other r ts es f z))
    (λ z. or-right (inner_gives c i other r ts es) (sends-weaker c (n ∷ (i ∷ [])) found other r ts es f z)) where
      or-right : {y : Bool} (b : Bool) → y ≡ true → b || y ≡ true
      or-right true k = refl
      or-right false k = k

-- what such a reduction leaves, and what it gives, among some iterators
module _ (c : Layout) (its : List ℕ) (edge at_once : Bool) (n : ℕ) (loop : Loop) (m : Mode) (home : ℕ → ℕ)
    (apart : (x : ℕ) → is_in its x ≡ false → (nat_eq x n ≡ false) × (nat_eq x loop.outer ≡ false)) where
  abbrev found : Expr → Bool
  found = finds c its edge

  abbrev Holding : Iteration → Type 0
  Holding = HoldNodes loop.graph its home

  -- what is asked of a reduction that sends
  does-so : (k : Key) (total : TotalKey) (r : Reduce) (x y : ℕ) (at : Place) (ts : List Target) (es : List Expr) (i : Iteration) → sends_through c its found r (T.Property x y at ∷ ts) es ≡ true → Holding i
      → let u = view_in loop m i k in
      (nat_eq x n ≡ false) × (is_in its x ≡ false) × (are_kept c x (T.Property x y at ∷ ts) ≡ true) × Within (evaluated_all es u).rest (spots_in_all es k)
      × (does (S.Combine k total r (T.Property x y at ∷ ts) es) m loop i ≡ out_of total r (T.Property x y at ∷ ts) i u (node_in loop.graph (i.store.scalar x)) at (evaluated_all es u).rest)
  does-so k total r x y at ts es i o h =
      let all' = T.Property x y at ∷ ts in
      let values' = same_length all' es && list_all found es in
      let a = both-true (not (is_in its x)) (may_hold_node c x && (are_kept c x all' && values')) o in
      let b = both-true (may_hold_node c x) (are_kept c x all' && values') a.1 in
      let d = both-true (are_kept c x all') values' b.1 in
      let e = both-true (same_length all' es) (list_all found es) d.1 in
      let off = not-true (is_in its x) a.0 in
      let away = apart x off in
      let u = view_in loop m i k in
      let reading = all-read c its edge loop m home i k es e.1 h in
      (away.0, off, d.0, all-within u es reading, does-send c loop m k total r x y at ts es i away.1 d.0 (all-hoist_nothing u es refl reading))

  send-left-by : (k : Key) (total : TotalKey) (r : Reduce) (x y : ℕ) (at : Place) (ts : List Target) (i : Iteration) (xs : List Spot) → is_in its x ≡ false → i.fault ≡ None → Holding i
      → (o : Option ℕ) (answer : Result (List Value) Fault) → Within answer xs
      → Left c its edge loop m home (out_of total r (T.Property x y at ∷ ts) i (view_in loop m i k) o at answer) (xs ++ spot_of_total total ∷ target_spots its k (T.Property x y at ∷ ts))
  send-left-by k total r x y at ts i xs off e h None answer w = (
    spot-right (spot_at k at) xs (spot_of_total total ∷ target_spots its k (T.Property x y at ∷ ts)) (inr (subst (λ b. HasSpot (spot_at k at) (if b then [] else spot_at k at ∷ [])) (sym off) (inl refl))),
    h,
  )
  send-left-by k total r x y at ts i xs off e h (Some j) (Err f) w = (spot-left (spot_of_fault f) xs (spot_of_total total ∷ target_spots its k (T.Property x y at ∷ ts)) w, h)
  send-left-by k total r x y at ts i xs off e h (Some j) (Ok ys) w = (subst (λ o. Has o (xs ++ spot_of_total total ∷ target_spots its k (T.Property x y at ∷ ts))) (sym e) tt, h)

  pub send-left : (k : Key) (total : TotalKey) (r : Reduce) (ts : List Target) (es : List Expr) (i : Iteration) → sends_through c its found r ts es ≡ true → i.fault ≡ None → Holding i
      → Left c its edge loop m home (does (S.Combine k total r ts es) m loop i) (spots_in_all es k ++ reduce_spots at_once its (way_of c.declarations n ts) k total ts)
  send-left k total r [] es i o e h = absurd (both_ways false refl o)
  send-left k total r (T.Scalar x at ∷ ts) es i o e h = absurd (both_ways false refl o)
  send-left k total r (T.Property x y at ∷ ts) es i o e h =
      let q = does-so k total r x y at ts es i o h in
      let u = view_in loop m i k in
      let all' = T.Property x y at ∷ ts in
      subst (λ out. Left c its edge loop m home out (spots_in_all es k ++ reduce_spots at_once its (way_of c.declarations n all') k total all')) (sym q.4)
      (subst (λ w. Left c its edge loop m home (out_of total r all' i u (node_in loop.graph (i.store.scalar x)) at (evaluated_all es u).rest) (spots_in_all es k ++ reduce_spots at_once its w k total all')) (sym (sends-way c n x (T.Property x y at) ts q.0 q.2))
      (send-left-by k total r x y at ts i (spots_in_all es k) q.1 e h (node_in loop.graph (i.store.scalar x)) (evaluated_all es u).rest q.3))

  send-gives-by : (Good : Contribution → Type 0) (total : TotalKey) (r : Reduce) (ts : List Target) (i : Iteration) (u : View) (at : Place) → ((j : ℕ) (ys : List Value) → Good (contribution total r (node_slots j ts, ys))) → Gives Good i
      → (o : Option ℕ) (answer : Result (List Value) Fault) → Gives Good (out_of total r ts i u o at answer)
  send-gives-by Good total r ts i u at good h None answer = record { outermost = h.outermost; inner = h.inner }
  send-gives-by Good total r ts i u at good h (Some j) (Err f) = record { outermost = h.outermost; inner = h.inner }
  send-gives-by Good total r ts i u at good h (Some j) (Ok ys) = record { outermost = λ z w. last i.with_outermost z h.outermost w; inner = h.inner } where
    one : Contribution
    one = contribution total r (node_slots j ts, ys)

    last : (xs : List Contribution) (z : Contribution) → ((w : Contribution) → IsIn w xs → Good w) → IsIn z (xs ++ one ∷ []) → Good z
    last [] z f w = ⊎_elim (λ (e : z ≡ one). subst Good (sym e) (good j ys)) (λ (w : ⊥). absurd w) w
    last (a ∷ xs) z f w = ⊎_elim (λ (e : z ≡ a). f z (inl e)) (λ (w : IsIn z (xs ++ one ∷ [])). last xs z (λ d m. f d (inr m)) w) w

  pub send-gives : (Good : Contribution → Type 0) (k : Key) (total : TotalKey) (r : Reduce) (ts : List Target) (es : List Expr) (i : Iteration) → sends_through c its found r ts es ≡ true → Holding i
      → ((j : ℕ) (ys : List Value) → Good (contribution total r (node_slots j ts, ys))) → Gives Good i → Gives Good (does (S.Combine k total r ts es) m loop i)
  send-gives Good k total r [] es i o h good a = absurd (both_ways false refl o)
  send-gives Good k total r (T.Scalar x at ∷ ts) es i o h good a = absurd (both_ways false refl o)
  send-gives Good k total r (T.Property x y at ∷ ts) es i o h good a =
      let u = view_in loop m i k in
      subst (Gives Good) (sym (does-so k total r x y at ts es i o h).4)
      (send-gives-by Good total r (T.Property x y at ∷ ts) i u at good a (node_in loop.graph (i.store.scalar x)) (evaluated_all es u).rest)
