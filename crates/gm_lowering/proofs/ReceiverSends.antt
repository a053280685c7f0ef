-- The handler of a message, whose body may send through node variables, does what the inner loop does at its edge.
use Rattle.std.proofs.Common.{◌≡◌, ◌<◌, ◌≤◌, ℕ, Bool, true, false, Option, Some, None, Ok, List, [], ◌∷◌, ◌++◌, length, map, refl, ap, ◌∙◌, sym, subst, arith}
use Rattle.std.specs.Prelude.{◌+◌, ◌&&◌, ◌||◌, not, if◌then◌else◌, nat_eq, nat_lt, filter, slice_get}
use Rattle.std.specs.List.{list_all}
use Rattle.std.proofs.lemmas.Bool.{both_ways, not-true, ltb-true}
use Rattle.std.proofs.lemmas.List.{append-nil}
use Rattle.gm_value.specs.declared.values.VType.{VType}
use Rattle.gm_value.specs.declared.values.Value.{Value}
use Rattle.gm_value.specs.declared.values.Value.TheVariants.{At}
use Rattle.gm_value.specs.declared.reductions.Reduce.{Reduce}
use Rattle.gm_model.specs.Graphs.{NumberedGraph, node_count}
use Rattle.gm_ast.specs.declared.tree.Key.{Key}
use Rattle.gm_ast.specs.declared.tree.Sort.TheVariants as Sorts
use Rattle.gm_ast.specs.declared.tree.Target.{Target}
use Rattle.gm_ast.specs.declared.tree.Target.TheVariants as T
use Rattle.gm_ast.specs.declared.tree.TotalKey.{TotalKey}
use Rattle.gm_ast.specs.Names.{is}
use Rattle.gm_ast.specs.Program as S
use Rattle.gm_ast.specs.Program.{Expr, Stmt}
use Rattle.gm_ast.specs.Ways.{is_in}
use Rattle.gm_forms.proofs.Named.{both-true}
use Rattle.gm_semantics.specs.declared.faults.Fault.{Fault}
use Rattle.gm_semantics.specs.declared.slots.Slot.{Slot}
use Rattle.gm_semantics.specs.declared.slots.Slot.TheVariants as slots
use Rattle.gm_semantics.specs.Contributions.{Contribution, statement_of}
use Rattle.gm_semantics.specs.Expressions.{evaluated_all, node_held}
use Rattle.gm_semantics.specs.Faults.{then_with}
use Rattle.gm_semantics.specs.Iterations.{Loop, Mode, AtEdge, Iteration, begun, view_in, failed, gave_outermost, turn_at, does}
use Rattle.gm_semantics.specs.Levels.{node_in}
use Rattle.gm_semantics.specs.Statements.{variable_at}
use Rattle.gm_semantics.specs.Stores.{Store, write}
use Rattle.gm_typed_stores.specs.Tells.{TypeTable}
use Rattle.gm_image.specs.Program.{Line, Send}
use Rattle.gm_image.specs.Term as M
use Rattle.gm_machine.specs.Expressions.{value as term_value, live}
use Rattle.gm_machine.specs.Faults.{then_go}
use Rattle.gm_machine.specs.Vertex.{Message, VertexContext, VertexState, After, view, lines_after, begun as begin}
use Rattle.gm_lowering.specs.Layouts.{Layout, is_global, is_register, body_positions}
use Rattle.gm_lowering.specs.Places.{Segment}
use Rattle.gm_lowering.specs.Terms.{Env, term}
use Rattle.gm_lowering.specs.Plans.{Load, Away, away_by, aways, way_of}
use Rattle.gm_lowering.specs.Bodies.{reduce_lines, target_node}
use Rattle.gm_lowering.specs.Blocks.{receiver_env, receiver_site}
use Rattle.gm_lowering.specs.Showing.{answer_of}
use Rattle.gm_lowering.specs.Sites.{are_of_scalars, same_length, given, IsApart, IsInGraph}
use Rattle.gm_lowering.specs.OwnLoops.{HasSpares, AreTyped, puts_to_scalars, folds_to}
use Rattle.gm_lowering.specs.MessageLoops.{receiver_finds, sets_nothing, inner_gives, handler_lines, is_to_scalars, is_to_nodes, MessageShows, receiver_gives, picks_inside, tuples_inside}
use Rattle.gm_lowering.specs.Settles.{fault_or_none}
use Rattle.gm_lowering.specs.Sent.{may_hold_node, sends_through, sender_gives, AreSent}
use Rattle.gm_lowering.specs.TakingSteps.{Carried}
use Rattle.gm_lowering.specs.ReceiverSends.{is_part, is_sent_target, is_taken_here, are_sent_slots, is_sent, is_received, goes_away, are_told, tells_sent, IsSendingMessageLoop, ReceiverSent, RunSends, SendingHandlersAreTurns}
use Rattle.gm_lowering.proofs.Bodies.{Ends as Ending, Holds}
use Rattle.gm_lowering.proofs.Givens.{none-hoisted, node_slots, are_kept, values-all, folds-way}
use Rattle.gm_lowering.proofs.InnerPicks.{pick-way, inside-way}
use Rattle.gm_lowering.proofs.PutFacts.{puts-way}
use Rattle.gm_lowering.proofs.Own.{live-same}
use Rattle.gm_lowering.proofs.OwnSteps.{filtered-ends}
use Rattle.gm_lowering.proofs.Picks.{parts-are}
use Rattle.gm_lowering.proofs.Receivers as R
use Rattle.gm_lowering.proofs.Receivers.{Giving, one-more, no-more}
use Rattle.gm_lowering.proofs.Receiving.{or-cases}
use Rattle.gm_lowering.proofs.Sendings.{node-inside, scalar-inside, held-value, off-both, out_of, does-send, send-by}
use Rattle.gm_lowering.proofs.Sent.{sends-way, long-values, filter-last, get-left, get-right, sent-both}
use Rattle.gm_lowering.proofs.TupleFacts.{spares-first, spares-second}

-- what goes to scalars is not sent
pub scalars-stay : (out : List (ℕ × ℕ)) (k : ℕ) (xs : List Slot) → are_of_scalars xs ≡ true → are_sent_slots out k xs ≡ false
scalars-stay out k [] h = refl
scalars-stay out k (slots.Scalar x ∷ xs) h = refl
scalars-stay out k (slots.Node p n ∷ xs) h = absurd (both_ways false refl h)

-- one more that is received, or sent
received-more : (out : List (ℕ × ℕ)) (xs : List Contribution) (a : Contribution) → is_sent out a ≡ false → filter (is_received out) (xs ++ a ∷ []) ≡ filter (is_received out) xs ++ a ∷ []
received-more out xs a h = filter-last (is_received out) xs a true (ap not h)

received-same : (out : List (ℕ × ℕ)) (xs : List Contribution) (a : Contribution) → is_sent out a ≡ true → filter (is_received out) (xs ++ a ∷ []) ≡ filter (is_received out) xs
received-same out xs a h = filter-last (is_received out) xs a false (ap not h) ∙ append-nil (filter (is_received out) xs)

sent-same : (out : List (ℕ × ℕ)) (xs : List Contribution) (a : Contribution) → is_sent out a ≡ false → filter (is_sent out) (xs ++ a ∷ []) ≡ filter (is_sent out) xs
sent-same out xs a h = filter-last (is_sent out) xs a false h ∙ append-nil (filter (is_sent out) xs)

-- a receiver that sends
pub sending-giving : (c : Layout) (v : Env) (kind : ℕ) (all : List Away) (g : NumberedGraph) (out : List (ℕ × ℕ)) → Giving c v out (λ it w. ReceiverSent c v kind all g out it w)
sending-giving c v kind all g out = record {
  stays = λ it new w u inner outermost deferred puts folds messages q. record {
    puts = puts ∙ q.puts ∙ ap (λ l. map (given c v) (filter is_to_scalars (filter (is_received out) l))) (sym outermost);
    folds = folds ∙ q.folds ∙ ap (λ l. map (given c v) (filter is_to_nodes (filter (is_received out) l))) (sym outermost);
    carried = subst (λ ms. AreSent kind all g (filter (is_sent out) new.with_outermost) ms) (sym messages) (subst (λ l. AreSent kind all g (filter (is_sent out) l) w.messages) (sym outermost) q.carried);
    inner = inner ∙ q.inner;
    deferred = deferred ∙ q.deferred;
  };
  folds = λ it w a o h q. record {
    puts = no-more c v is_to_scalars (filter (is_received out) it.with_outermost) a w.puts q.puts o ∙ ap (λ l. map (given c v) (filter is_to_scalars l)) (sym (received-more out it.with_outermost a h));
    folds = one-more c v is_to_nodes (filter (is_received out) it.with_outermost) a w.folds q.folds (ap not o) ∙ ap (λ l. map (given c v) (filter is_to_nodes l)) (sym (received-more out it.with_outermost a h));
    carried = subst (λ l. AreSent kind all g l w.messages) (sym (sent-same out it.with_outermost a h)) q.carried;
    inner = q.inner;
    deferred = q.deferred;
  };
  puts = λ it w a o q.
      let h = scalars-stay out (statement_of a) a.slots o in
      record {
        puts = one-more c v is_to_scalars (filter (is_received out) it.with_outermost) a w.puts q.puts o ∙ ap (λ l. map (given c v) (filter is_to_scalars l)) (sym (received-more out it.with_outermost a h));
        folds = no-more c v is_to_nodes (filter (is_received out) it.with_outermost) a w.folds q.folds (ap not o) ∙ ap (λ l. map (given c v) (filter is_to_nodes l)) (sym (received-more out it.with_outermost a h));
        carried = subst (λ l. AreSent kind all g l w.messages) (sym (sent-same out it.with_outermost a h)) q.carried;
        inner = q.inner;
        deferred = q.deferred;
      };
}

-- the slots of what is sent
pub sent-slots : (out : List (ℕ × ℕ)) (c : Layout) (its : List ℕ) (found : Expr → Bool) (k : ℕ) (r : Reduce) (ts : List Target) (es : List Expr) (j : ℕ) → list_all (is_sent_target out k) ts ≡ true → sends_through c its found r ts es ≡ true → are_sent_slots out k (node_slots j ts) ≡ true
sent-slots out c its found k r [] es j h o = absurd (both_ways false refl o)
sent-slots out c its found k r (T.Scalar x at ∷ ts) es j h o = absurd (both_ways false refl o)
sent-slots out c its found k r (T.Property x p at ∷ ts) es j h o = (both-true (is_part out k p) (list_all (is_sent_target out k) ts) h).0

-- what is told of a reduction through a node variable
pub told-sent : (out : List (ℕ × ℕ)) (c : Layout) (n i : ℕ) (found : Expr → Bool) (k : ℕ) (r : Reduce) (ts : List Target) (es : List Expr) → sends_through c (n ∷ (i ∷ [])) found r ts es ≡ true
    → are_told out k (way_of c.declarations i ts) ts ≡ true → list_all (is_sent_target out k) ts ≡ true
told-sent out c n i found k r [] es o h = absurd (both_ways false refl o)
told-sent out c n i found k r (T.Scalar x at ∷ ts) es o h = absurd (both_ways false refl o)
told-sent out c n i found k r (T.Property x p at ∷ ts) es o h =
    let all = T.Property x p at ∷ ts in
    let a = both-true (not (is_in (n ∷ (i ∷ [])) x)) (may_hold_node c x && (are_kept c x all && (same_length all es && list_all found es))) o in
    let b = both-true (may_hold_node c x) (are_kept c x all && (same_length all es && list_all found es)) a.1 in
    let d = both-true (are_kept c x all) (same_length all es && list_all found es) b.1 in
    let off = off-both x n i (not-true (is_in (n ∷ (i ∷ [])) x) a.0) in
    ap (λ w. are_told out k w all) (sym (sends-way c i x (T.Property x p at) ts off.0 d.0)) ∙ h

-- and of one that sends nothing
inner-stays : (c : Layout) (loop : Loop) (i : ℕ) (found : Expr → Bool) (r : Reduce) (ts : List Target) (es : List Expr) → ((x : ℕ) → loop.depth x ≡ (variable_at c.declarations x).depth) → inner_gives c i found r ts es ≡ true
    → goes_away (way_of c.declarations i ts) ≡ false
inner-stays c loop i found r ts es depth_is o =
    or-cases (receiver_gives c i found r ts es) (picks_inside c found r ts es || tuples_inside c found r ts es) o
    (λ z. or-cases (puts_to_scalars c found r ts es) (folds_to c i found r ts es) z (put ts es) (fold ts es))
    (λ z. or-cases (picks_inside c found r ts es) (tuples_inside c found r ts es) z (λ y. ap goes_away (pick-way c i found r ts es y)) (λ y. ap goes_away (inside-way c loop depth_is i found r ts es y))) where
      put : (ts : List Target) (es : List Expr) → puts_to_scalars c found r ts es ≡ true → goes_away (way_of c.declarations i ts) ≡ false
      put [] es h = absurd (both_ways false refl h)
      put (t ∷ ts) es h = ap goes_away (puts-way c i (t ∷ ts) (both-true _ _ h).0)

      fold : (ts : List Target) (es : List Expr) → folds_to c i found r ts es ≡ true → goes_away (way_of c.declarations i ts) ≡ false
      fold [] es h = absurd (both_ways false refl h)
      fold (t ∷ ts) es h = ap goes_away (folds-way c i t ts (both-true _ _ h).0)

pub told-here : (out : List (ℕ × ℕ)) (c : Layout) (loop : Loop) (i : ℕ) (found : Expr → Bool) (k : ℕ) (r : Reduce) (ts : List Target) (es : List Expr) → ((x : ℕ) → loop.depth x ≡ (variable_at c.declarations x).depth)
    → inner_gives c i found r ts es ≡ true → are_told out k (way_of c.declarations i ts) ts ≡ true → list_all (is_taken_here out k) ts ≡ true
told-here out c loop i found k r ts es depth_is o h =
    ap (λ b. if b then list_all (is_sent_target out k) ts else list_all (is_taken_here out k) ts) (sym (inner-stays c loop i found r ts es depth_is o)) ∙ h

module _ (c : Layout) (seg : Segment) (loop : Loop) (i k j edge registers fields : ℕ) (loads : List Load) (s : VertexContext)
    (apart : IsApart c registers fields)
    (unlike_outer : is_register (variable_at c.declarations loop.outer) ≡ false)
    (unlike_inner : is_register (variable_at c.declarations i) ≡ false)
    (two : nat_eq i loop.outer ≡ false)
    (type_is : (x : ℕ) → loop.vtype x ≡ (variable_at c.declarations x).vtype)
    (depth_is : (x : ℕ) → loop.depth x ≡ (variable_at c.declarations x).depth)
    (out : List (ℕ × ℕ)) (kind : ℕ) (all : List Away) (table : TypeTable) (around : List ℕ) (result : Option VType) (limit : table.limit ≤ node_count loop.graph) where
  abbrev n : ℕ
  n = loop.outer

  abbrev v : Env
  v = receiver_env c seg n i loads

  abbrev m : Mode
  m = AtEdge edge

  abbrev found : Expr → Bool
  found = receiver_finds c n i loads

  abbrev Gave : Iteration → VertexState → Type 0
  Gave it w = ReceiverSent c v kind all loop.graph out it w

  pub giving : Giving c v out Gave
  giving = sending-giving c v kind all loop.graph out

  abbrev pub Shows : Iteration → VertexState → Type 0
  Shows = R.Shows c seg loop i k j edge registers fields loads s apart unlike_outer unlike_inner two type_is depth_is out Gave giving

  abbrev run : List Line → ℕ → VertexState → After
  run = lines_after s

  -- where a statement's messages begin among the kinds
  abbrev pub Placed : ℕ → Stmt → Type 0
  Placed first st = (at : ℕ) (a : Away) → slice_get (aways c.declarations i st) at ≡ Some a → (l : ℕ) × (slice_get all l ≡ Some a) × (first + at ≡ kind + l)

  abbrev pub Ready : ℕ → Stmt → Iteration → Type 0
  Ready first st it = AreTyped c table around result loop st it × HasSpares c registers (body_positions c.declarations st) × Placed first st × (tells_sent c.declarations i out st ≡ true)

  gave-failed : (it : Iteration) (w : VertexState) (f : Fault) → Gave it w → Gave (failed it f) w
  gave-failed = R.gave-failed c seg loop i k j edge registers fields loads s apart unlike_outer unlike_inner two type_is depth_is out Gave giving

  abbrev Ended : List Line → List Line → VertexState → Iteration → Option Fault → Type 0
  Ended = Ending v run Shows Gave

  -- one more message
  sends : (it : Iteration) (w : VertexState) (a : Contribution) (msg : Message) → is_sent out a ≡ true → Carried kind all a msg → msg.to < node_count loop.graph → Shows it w
      → Shows (gave_outermost it a) (record w { messages = w.messages ++ msg ∷ [] })
  sends it w a msg o carry lt q = (
    R.shows-given c seg loop i k j edge registers fields loads s apart unlike_outer unlike_inner two type_is depth_is out Gave giving it w (record w { messages = w.messages ++ msg ∷ [] }) a q.0 refl refl,
    record {
      puts = q.1.puts ∙ ap (λ l. map (given c v) (filter is_to_scalars l)) (sym (received-same out it.with_outermost a o));
      folds = q.1.folds ∙ ap (λ l. map (given c v) (filter is_to_nodes l)) (sym (received-same out it.with_outermost a o));
      carried = subst (λ l. AreSent kind all loop.graph l (w.messages ++ msg ∷ [])) (sym (filter-last (is_sent out) it.with_outermost a true o))
          (sent-both kind all loop.graph (filter (is_sent out) it.with_outermost) (a ∷ []) w.messages (msg ∷ []) q.1.carried (carry, lt, tt));
      inner = q.1.inner;
      deferred = q.1.deferred;
    },
  )

  send-case : (first : ℕ) (key : Key) (total : TotalKey) (r : Reduce) (ts : List Target) (es : List Expr) (it : Iteration) (w : VertexState) (rest : List Line)
      → sends_through c (n ∷ (i ∷ [])) found r ts es ≡ true → Ready first (S.Combine key total r ts es) it → Shows it w
      → let end = does (S.Combine key total r ts es) m loop it in
      Ended (reduce_lines (receiver_site c seg n i loads) first (way_of c.declarations i ts) key total r ts (map (term v key) es)) rest w end end.fault
  send-case first key total r [] es it w rest o ready q = absurd (both_ways false refl o)
  send-case first key total r (T.Scalar x at ∷ ts) es it w rest o ready q = absurd (both_ways false refl o)
  send-case first key total r (T.Property x p at ∷ ts) es it w rest o ready q =
      let t = T.Property x p at in
      let values' = same_length (t ∷ ts) es && list_all found es in
      let a = both-true (not (is_in (n ∷ (i ∷ [])) x)) (may_hold_node c x && (are_kept c x (t ∷ ts) && values')) o in
      let none_of = not-true (is_in (n ∷ (i ∷ [])) x) a.0 in
      let off = off-both x n i none_of in
      let b = both-true (may_hold_node c x) (are_kept c x (t ∷ ts) && values') a.1 in
      let holds = is Sorts.Scalar (variable_at c.declarations x) || is_global (variable_at c.declarations x) in
      let d = both-true (nat_lt x (length c.declarations)) holds b.0 in
      let e = both-true (are_kept c x (t ∷ ts)) values' b.1 in
      let f = both-true (same_length (t ∷ ts) es) (list_all found es) e.1 in
      let u = view_in loop m it key in
      let st = S.Combine key total r (t ∷ ts) es in
      let end = does st m loop it in
      let way = sends-way c i x t ts off.0 e.0 in
      let goes = told-sent out c n i found total.key.statement r (t ∷ ts) es o ready.3 in
      let place = ready.2 0 (record { total = total; reduce = r; targets = t ∷ ts }) (ap (λ w'. slice_get (away_by w' total r (t ∷ ts)) 0) way) in
      let tell = R.all-tell c seg loop i k j edge registers fields loads s apart unlike_outer unlike_inner two type_is depth_is out Gave giving it w key es f.1 q in
      let none = none-hoisted v u (view s w) es refl tell in
      let at_node = node_in loop.graph (it.store.scalar x) in
      let in_graph : IsInGraph loop.graph (it.store.scalar x) =
      or-cases (is Sorts.Scalar (variable_at c.declarations x)) (is_global (variable_at c.declarations x)) d.1
      (λ h. scalar-inside c table around result loop st it x limit ready.0 h) (λ h. q.0.in_graph x off.1 off.0 (ltb-true x (length c.declarations) d.0) h) in
      let scalar =
      R.scalar-by c seg loop i k j edge registers fields loads s apart unlike_outer unlike_inner two type_is depth_is out Gave giving it w x q (λ h. absurd (both_ways (nat_eq x n) off.1 h))
      (λ g h. (ltb-true x (length c.declarations) d.0, held-value (variable_at c.declarations x) d.1)) in
      let to : term_value (view s w) (M.Live (v.place key at) (v.scalar x)) ≡ answer_of v (then_with (node_held u at at_node) (λ z. Ok (At (Some z)))) =
      ap (λ z. then_go z (live (v.place key at))) scalar ∙ live-same v u at (it.store.scalar x) in_graph in
      let same : end ≡ out_of total r (t ∷ ts) it u at_node at (evaluated_all es u).rest =
      does-send c loop m key total r x p at ts es it off.1 e.0 none in
      subst (λ way'. Ended (reduce_lines (receiver_site c seg n i loads) first way' key total r (t ∷ ts) (map (term v key) es)) rest w end end.fault) (sym way)
      (subst (λ node. Ended (Send first node (map (term v key) es) ∷ []) rest w end end.fault) (sym (through none_of))
      (subst (λ z. Ended (Send first (M.Live (v.place key at) (v.scalar x)) (map (term v key) es) ∷ []) rest w z z.fault) (sym same)
      (send-by c v loop s run Shows Gave kind all (λ a'. is_sent out a' ≡ true) (λ it' w' q'. q'.0.fine) (λ it' w' f' q'. gave-failed it' w' f' q'.1) (λ k' to' terms' ls u'. refl) (λ it' w' a' msg o'. sends it' w' a' msg)
      first total r x t ts (M.Live (v.place key at) (v.scalar x)) (map (term v key) es) it w rest u at q e.0 (λ z ys. sent-slots out c (n ∷ (i ∷ [])) found total.key.statement r (t ∷ ts) es z goes o) place.0 place.1
      (let z : first + 0 ≡ kind + place.0 = place.2 in omega (arith, z))
      at_node (λ z h. node-inside loop.graph (it.store.scalar x) z in_graph h) to (evaluated_all es u).rest (long-values u (t ∷ ts) es f.0) (values-all v u (view s w) es tell)))) where
        through : is_in (n ∷ i ∷ []) x ≡ false → target_node (receiver_site c seg n i loads) key (T.Property x p at ∷ ts) ≡ M.Live (v.place key at) (v.scalar x)
        through h = ap (λ b. if b then v.scalar x else M.Live (v.place key at) (v.scalar x)) h

  -- the site of a receiver that may send
  pub sending-holds : Holds (receiver_site c seg n i loads) loop m s run Shows Gave found sets_nothing (sender_gives c n i found) Ready
  sending-holds =
      let types = parts-are c table around result loop m in
      record {
        type_is = type_is;
        skipped = λ l ls a w. refl;
        register_runs = λ x t ls w. refl;
        skip_runs = λ a t ls w. refl;
        fine = λ it w q. q.0.fine;
        gave = λ it w q. q.1;
        gave_failed = gave-failed;
        tells = R.tells c seg loop i k j edge registers fields loads s apart unlike_outer unlike_inner two type_is depth_is out Gave giving;
        local = R.local c seg loop i k j edge registers fields loads s apart unlike_outer unlike_inner two type_is depth_is out Gave giving;
        property = λ key x p at e it w rest o f q. absurd (both_ways false refl o);
        placed_first = λ first a b it h. (types.first a b it h.0, spares-first c registers (body_positions c.declarations a) (body_positions c.declarations b) h.1, λ at x e. h.2 at x (get-left (aways c.declarations i a) (aways c.declarations i b) at x e), (told a b h.3).0);
        placed_second = λ first a b it h fine. (types.second a b it h.0, spares-second c registers (body_positions c.declarations a) (body_positions c.declarations b) h.1, λ at x e. behind first a b h.2 at x e, (told a b h.3).1);
        placed_yes = λ first key e a b it h. (types.yes key e a b it h.0, spares-first c registers (body_positions c.declarations a) (body_positions c.declarations b) h.1, λ at x e'. h.2 at x (get-left (aways c.declarations i a) (aways c.declarations i b) at x e'), (told a b h.3).0);
        placed_no = λ first key e a b it h. (types.no key e a b it h.0, spares-second c registers (body_positions c.declarations a) (body_positions c.declarations b) h.1, λ at x e'. behind first a b h.2 at x e', (told a b h.3).1);
        reduce = λ first key total r ts es it w rest o h q.
            or-cases (inner_gives c i found r ts es) (sends_through c (n ∷ (i ∷ [])) found r ts es) o
            (λ z.
            R.message-case c seg loop i k j edge registers fields loads s apart unlike_outer unlike_inner two type_is depth_is out Gave giving table around result first key total r ts es it w rest z
            (told-here out c loop i found total.key.statement r ts es depth_is z h.3) ((λ a. h.0), h.1) q)
            (λ z. send-case first key total r ts es it w rest z h q);
      } where
        told : (a b : Stmt) → tells_sent c.declarations i out a && tells_sent c.declarations i out b ≡ true → (tells_sent c.declarations i out a ≡ true) × (tells_sent c.declarations i out b ≡ true)
        told a b h = both-true (tells_sent c.declarations i out a) (tells_sent c.declarations i out b) h

        behind : (first : ℕ) (a b : Stmt) → ((at : ℕ) (x : Away) → slice_get (aways c.declarations i a ++ aways c.declarations i b) at ≡ Some x → (l : ℕ) × (slice_get all l ≡ Some x) × (first + at ≡ kind + l))
            → (at : ℕ) (x : Away) → slice_get (aways c.declarations i b) at ≡ Some x → (l : ℕ) × (slice_get all l ≡ Some x) × ((first + length (aways c.declarations i a)) + at ≡ kind + l)
        behind first a b h at x e =
            let t = h (length (aways c.declarations i a) + at) x (get-right (aways c.declarations i a) (aways c.declarations i b) at x e) in
            let z : first + (length (aways c.declarations i a) + at) ≡ kind + t.0 = t.2 in (t.0, t.1, (omega (arith, z)))

-- a handler's run
module _ (c : Layout) (seg : Segment) (registers : List VType) (fields : ℕ) (loop : Loop) (i : ℕ) (loads : List Load) (out : List (ℕ × ℕ)) (kind : ℕ) (key : Key) (test : Expr) (body : Stmt)
    (s : VertexContext) (fs : List Value) (k edge : ℕ) (r : Store) (table : TypeTable) (around : List ℕ) (result : Option VType)
    (able : IsSendingMessageLoop c registers fields loop i loads out test body)
    (typed : AreTyped c table around result loop body (begun (write r (slots.Scalar i) (At (Some s.node)))))
    (limit : table.limit ≤ node_count loop.graph) (graph : s.graph ≡ loop.graph)
    (shows : MessageShows c loop.graph registers fields s.globals fs s.message loop.outer loads (view_in loop (AtEdge edge) (begun r) key) k s.node r) where
  abbrev start : Iteration
  start = begun (write r (slots.Scalar i) (At (Some s.node)))

  abbrev first_state : VertexState
  first_state = begin registers fs

  abbrev end : Iteration
  end = turn_at loop (AtEdge edge) key test (does body (AtEdge edge) loop) i s.node r

  abbrev w_env : Env
  w_env = receiver_env c seg loop.outer i loads

  abbrev away_all : List Away
  away_all = aways c.declarations i body

  abbrev GaveHere : Iteration → VertexState → Type 0
  GaveHere it w = ReceiverSent c w_env kind away_all loop.graph out it w

  abbrev ShowsHere : Iteration → VertexState → Type 0
  ShowsHere = Shows c seg loop i k s.node edge (length registers) fields loads s able.apart able.outer able.inner able.two able.types able.depths out kind away_all table around result limit

  begins-here : ShowsHere start first_state
  begins-here = (R.receiver-begins c registers fields loop i loads key s fs k edge r able.inner able.two graph shows, record { puts = refl; folds = refl; carried = tt; inner = refl; deferred = refl })

  abbrev lines : List Line
  lines = handler_lines c seg loop.outer i loads kind key test body

  ends-as : (f : Option Fault) → end.fault ≡ f → Ending w_env (lines_after s) ShowsHere GaveHere lines [] first_state end f → RunSends c w_env kind away_all loop.graph out end (lines_after s lines 0 first_state)
  ends-as None e q =
      subst (RunSends c w_env kind away_all loop.graph out end) (sym (ap (λ ls. lines_after s ls 0 first_state) (sym (append-nil lines)) ∙ q.2)) (sym (ap (fault_or_none w_env) e), q.1.1)
  ends-as (Some f) e q =
      subst (RunSends c w_env kind away_all loop.graph out end) (sym (ap (λ ls. lines_after s ls 0 first_state) (sym (append-nil lines)) ∙ q.2)) (sym (ap (fault_or_none w_env) e), q.1)

  pub sending-run : RunSends c w_env kind away_all loop.graph out end (lines_after s lines 0 first_state)
  sending-run =
      ends-as end.fault refl
      (filtered-ends (receiver_site c seg loop.outer i loads) loop (AtEdge edge) s (lines_after s) ShowsHere GaveHere (receiver_finds c loop.outer i loads) sets_nothing (sender_gives c loop.outer i (receiver_finds c loop.outer i loads))
      (sending-holds c seg loop i k s.node edge (length registers) fields loads s able.apart able.outer able.inner able.two able.types able.depths out kind away_all table around result limit)
      key test body kind able.found able.fits start (typed, able.spares, (λ at a e. (at, e, refl)), able.told) first_state [] begins-here)

pub sending-handlers : SendingHandlersAreTurns
sending-handlers c seg registers fields loop i loads out kind key test body s fs k edge r table around result able typed limit graph shows =
    sending-run c seg registers fields loop i loads out kind key test body s fs k edge r table around result able typed limit graph shows
