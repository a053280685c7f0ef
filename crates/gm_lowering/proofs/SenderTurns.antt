-- The lines of an each that sends, along its edge or through node variables.
use Rattle.std.proofs.Common.{◌≡◌, ◌<◌, ◌≤◌, ◌⊎◌, inr, ℕ, Bool, true, false, Option, Some, None, Result, Ok, List, [], ◌∷◌, ◌++◌, length, map, refl, ap, ◌∙◌, sym, subst, append_assoc, arith}
use Rattle.std.specs.Prelude.{◌+◌, if◌then◌else◌, ◌&&◌, ◌||◌, not, nat_eq, nat_lt, slice_set, slice_get, filter}
use Rattle.std.specs.List.{list_all, list_any}
use Rattle.std.proofs.lemmas.List.{append-nil}
use Rattle.std.proofs.lemmas.Bool.{both_ways, eqb-true, eq-eqb, not-true, ltb-true}
use Rattle.gm_value.specs.declared.values.VType.{VType}
use Rattle.gm_value.specs.declared.values.Value.{Value}
use Rattle.gm_value.specs.declared.values.Value.TheVariants.{At}
use Rattle.gm_value.specs.declared.reductions.Reduce.{Reduce}
use Rattle.gm_base.specs.declared.places.Place.{Place}
use Rattle.gm_model.specs.Graphs.{node_count}
use Rattle.gm_ast.specs.declared.tree.Key.{Key}
use Rattle.gm_ast.specs.declared.tree.Target.{Target}
use Rattle.gm_ast.specs.declared.tree.Target.TheVariants as T
use Rattle.gm_ast.specs.declared.tree.TotalKey.{TotalKey}
use Rattle.gm_ast.specs.declared.tree.Sort.TheVariants as Sorts
use Rattle.gm_ast.specs.Names.{is}
use Rattle.gm_ast.specs.Ways.{is_in}
use Rattle.gm_ast.specs.Program as S
use Rattle.gm_ast.specs.Program.{Expr, Stmt}
use Rattle.gm_forms.proofs.Named.{both-true}
use Rattle.gm_semantics.specs.declared.faults.Fault.{Fault}
use Rattle.gm_semantics.specs.declared.slots.Slot.TheVariants.{Scalar}
use Rattle.gm_semantics.specs.Contributions.{Contribution}
use Rattle.gm_semantics.specs.Expressions.{View, evaluated_all, node_held}
use Rattle.gm_semantics.specs.Faults.{then_with}
use Rattle.gm_semantics.specs.Iterations.{Loop, Mode, AtEdge, WithInner, WithOutermost, Iteration, ends_of_all, begun, view_in, failed, with_ok, contribution, gave_outermost, reduced, wrote, turn_at, does}
use Rattle.gm_semantics.specs.Levels.{node_in}
use Rattle.gm_semantics.specs.Statements.{variable_at}
use Rattle.gm_semantics.specs.Stores.{Store, write}
use Rattle.gm_typed_stores.specs.Tells.{TypeTable}
use Rattle.gm_image.specs.Program.{Line, Send}
use Rattle.gm_image.specs.Term as M
use Rattle.gm_image.specs.Term.{Term}
use Rattle.gm_machine.specs.Expressions.{value as term_value, values, live}
use Rattle.gm_machine.specs.Faults.{then_go}
use Rattle.gm_machine.specs.Vertex.{Message, VertexContext, VertexState, After, view, lines_after}
use Rattle.gm_lowering.specs.Layouts.{Layout, is_global, is_register, has_value}
use Rattle.gm_lowering.specs.Places.{Segment}
use Rattle.gm_lowering.specs.Terms.{Env, term, own_env, each_env}
use Rattle.gm_lowering.specs.Plans.{SenderItself, loads_in, Away, away_by, aways, way_of}
use Rattle.gm_lowering.specs.Bodies.{reduce_lines, target_node}
use Rattle.gm_lowering.specs.Blocks.{names_scalar, each_site}
use Rattle.gm_lowering.specs.Showing.{answer_of, Tells}
use Rattle.gm_lowering.specs.Sites.{are_of_scalars, same_length, is_body, is_local, given, IsInGraph, IsApart, HoldLocals, HoldProperties}
use Rattle.gm_lowering.specs.OwnLoops.{is_declared, puts_to_scalars, folds_to, AreTyped}
use Rattle.gm_lowering.specs.MessageLoops.{sets_nothing, receiver_gives, picks_inside, tuples_inside, is_to_scalars, is_to_nodes}
use Rattle.gm_lowering.specs.HomeTurns.{is_at_edge, home_finds, home_lines, HomeGave, EdgeShows}
use Rattle.gm_lowering.specs.TakingSteps.{Carried}
use Rattle.gm_lowering.specs.Sent.{may_hold_node, sends_through, AreSent, sender_gives}
use Rattle.gm_lowering.specs.SenderTurns.{IsSenderLoop, SenderGave, SendingEnds, SendingLinesAreTurns}
use Rattle.gm_lowering.proofs.Bodies.{Ends as Ending, Holds}
use Rattle.gm_lowering.proofs.FirstUses.{SameGiven, or-left}
use Rattle.gm_lowering.proofs.FoldFacts.{body-weaker}
use Rattle.gm_lowering.proofs.Givens.{AllTell, are_scalars, scalars-end, values-all, none-hoisted, assigned-is, put-ends, node_slots, are_kept, node-slots, node-in}
use Rattle.gm_lowering.proofs.HomeTurns.{IsEachLoop, TurnAs, turn-ends}
use Rattle.gm_lowering.proofs.Homes.{HomeShows, home-holds}
use Rattle.gm_lowering.proofs.Own.{live-same}
use Rattle.gm_lowering.proofs.Picks.{parts-are}
use Rattle.gm_lowering.proofs.PutFacts.{puts-way}
use Rattle.gm_lowering.proofs.Receivers.{nodes-end}
use Rattle.gm_lowering.proofs.Receiving.{or-cases}
use Rattle.gm_lowering.proofs.Sent.{sends-way, LongAs, long-values, filter-last, get-left, get-right, sent-both}
use Rattle.gm_lowering.proofs.Sendings.{node-inside, scalar-inside, held-value, off-both, out_of, does-send, send-by}

-- to the neighbour
to-neighbour : (c : Layout) (seg : Segment) (n i : ℕ) (key : Key) (t : Target) (ts : List Target) → nat_eq i n ≡ false → are_kept c i (t ∷ ts) ≡ true → target_node (each_site c seg n i) key (t ∷ ts) ≡ M.Neighbour
to-neighbour c seg n i key (T.Scalar x at) ts e h = absurd (both_ways false refl h)
to-neighbour c seg n i key (T.Property x p at) ts e h =
    let q = both-true (nat_eq x i && c.is_kept p) (are_kept c i ts) h in
    let here : nat_eq x i ≡ true = (both-true (nat_eq x i) (c.is_kept p) q.0).0 in
    let off : nat_eq x n ≡ false = ap (λ z. nat_eq z n) (eqb-true x i here) ∙ e in
    ap (λ b. if b || (nat_eq x i || false) then (each_env c seg n i).scalar x else M.Live ((each_env c seg n i).place key at) ((each_env c seg n i).scalar x)) off
    ∙ ap (λ b. if b || false then (each_env c seg n i).scalar x else M.Live ((each_env c seg n i).place key at) ((each_env c seg n i).scalar x)) here
    ∙ ap (λ b. if b then M.Neighbour else (own_env c seg n).scalar x) here

module _ (c : Layout) (seg : Segment) (loop : Loop) (i k j edge registers fields kind : ℕ) (all : List Away) (s : VertexContext) (before : VertexState)
    (apart : IsApart c registers fields)
    (unlike_outer : is_register (variable_at c.declarations loop.outer) ≡ false)
    (unlike_inner : is_register (variable_at c.declarations i) ≡ false)
    (two : nat_eq i loop.outer ≡ false)
    (type_is : (x : ℕ) → loop.vtype x ≡ (variable_at c.declarations x).vtype)
    (depth_is : (x : ℕ) → loop.depth x ≡ (variable_at c.declarations x).depth) where
  abbrev n : ℕ
  n = loop.outer

  abbrev v : Env
  v = each_env c seg n i

  abbrev m : Mode
  m = AtEdge edge

  abbrev found : Expr → Bool
  found = home_finds c n i

  abbrev Gave : Iteration → VertexState → Type 0
  Gave it w = SenderGave c v kind all loop.graph before it w

  abbrev Here : Iteration → VertexState → Type 0
  Here it w = HomeShows c loop i k j edge registers fields s it w

  abbrev Shows : Iteration → VertexState → Type 0
  Shows it w = Here it w × Gave it w

  abbrev run : List Line → ℕ → VertexState → After
  run = lines_after s

  -- where a statement's messages begin among the kinds
  abbrev pub Placed : ℕ → Stmt → Type 0
  Placed first st = (at : ℕ) (a : Away) → slice_get (aways c.declarations n st) at ≡ Some a → (l : ℕ) × (slice_get all l ≡ Some a) × (first + at ≡ kind + l)

  -- the same site, of which nothing was given, as one of a home loop
  abbrev calm : Loop
  calm = record loop { pushed = λ p. false }

  abbrev bare : Iteration → Iteration
  bare it = record it { with_inner = []; with_outermost = []; deferred = [] }

  lend : (it : Iteration) (w : VertexState) → Here it w → HomeShows c calm i k j edge registers fields s (bare it) w
  lend it w q = record {
    fine = q.fine;
    node = q.node;
    near = q.near;
    graph = q.graph;
    inside = q.inside;
    near_inside = q.near_inside;
    at_outer = q.at_outer;
    at_inner = q.at_inner;
    phase = q.phase;
    in_graph = q.in_graph;
    locals = q.locals;
    properties = q.properties;
    edges = q.edges;
    register_count = q.register_count;
    field_count = q.field_count;
  }

  take-back : (it : Iteration) (w : VertexState) → HomeShows c calm i k j edge registers fields s (bare it) w → Here it w
  take-back it w q = record {
    fine = q.fine;
    node = q.node;
    near = q.near;
    graph = q.graph;
    inside = q.inside;
    near_inside = q.near_inside;
    at_outer = q.at_outer;
    at_inner = q.at_inner;
    phase = q.phase;
    in_graph = q.in_graph;
    locals = q.locals;
    properties = q.properties;
    edges = q.edges;
    register_count = q.register_count;
    field_count = q.field_count;
  }

  idle : (it : Iteration) (w : VertexState) → HomeGave c v w (bare it) w
  idle it w = record { puts = sym (append-nil w.puts); folds = sym (append-nil w.folds); scalars = refl; nodes = refl; messages = refl; fields = refl; count = refl; deferred = refl }

  tells : (it : Iteration) (w : VertexState) (key : Key) (e : Expr) → found e ≡ true → Shows it w → Tells v (view_in loop m it key) (view s w) e
  tells it w key e o q =
      (home-holds c seg calm i k j edge registers fields s w apart unlike_outer unlike_inner two type_is depth_is (λ p. refl)).tells (bare it) w key e o (lend it w q.0, idle it w)

  all-tell : (it : Iteration) (w : VertexState) (key : Key) (es : List Expr) → list_all found es ≡ true → Shows it w → AllTell v (view_in loop m it key) (view s w) es
  all-tell it w key [] o q = tt
  all-tell it w key (e ∷ es) o q = let t = both-true (found e) (list_all found es) o in (tells it w key e t.0 q, all-tell it w key es t.1 q)

  local : (it : Iteration) (w : VertexState) (x : ℕ) (a : Value) → is_local c x ≡ true → Shows it w → Shows (wrote it (Scalar x, a)) (record w { registers = slice_set w.registers (c.register x) a })
  local it w x a o q =
      let u = record w { registers = slice_set w.registers (c.register x) a } in
      let moved = (home-holds c seg calm i k j edge registers fields s w apart unlike_outer unlike_inner two type_is depth_is (λ p. refl)).local (bare it) w x a o (lend it w q.0, idle it w) in (
        take-back (wrote it (Scalar x, a)) u moved.0,
        record { puts = q.1.puts; folds = q.1.folds; sent = q.1.sent; messages = q.1.messages; carried = q.1.carried; fields = q.1.fields; count = moved.1.count ∙ q.1.count; inner = q.1.inner; deferred = q.1.deferred },
      )

  gave-failed : (it : Iteration) (w : VertexState) (f : Fault) → Gave it w → Gave (failed it f) w
  gave-failed it w f g = record { puts = g.puts; folds = g.folds; sent = g.sent; messages = g.messages; carried = g.carried; fields = g.fields; count = g.count; inner = g.inner; deferred = g.deferred }

  here-given : (it : Iteration) (w : VertexState) (a : Contribution) (ps : VertexState) → ps.fields ≡ w.fields → ps.registers ≡ w.registers → Here it w → Here (gave_outermost it a) ps
  here-given it w a ps e f q = record {
    fine = q.fine;
    node = q.node;
    near = q.near;
    graph = q.graph;
    inside = q.inside;
    near_inside = q.near_inside;
    at_outer = q.at_outer;
    at_inner = q.at_inner;
    phase = q.phase;
    in_graph = q.in_graph;
    locals = subst (λ rs. HoldLocals c rs it.store) (sym f) q.locals;
    properties = subst (λ fs. HoldProperties c fs k it.store) (sym e) q.properties;
    edges = q.edges;
    register_count = ap length f ∙ q.register_count;
    field_count = ap length e ∙ q.field_count;
  }

  not-nodes : (a : Contribution) → are_of_scalars a.slots ≡ true → is_to_nodes a ≡ false
  not-nodes a o = ap not o

  map-both : {A B : Type 0} (f : A → B) (xs ys : List A) → map f (xs ++ ys) ≡ map f xs ++ map f ys
  map-both f [] ys = refl
  map-both f (x ∷ xs) ys = ap (λ l. f x ∷ l) (map-both f xs ys)

  puts : (it : Iteration) (w : VertexState) (a : Contribution) → are_of_scalars a.slots ≡ true → Shows it w → Shows (gave_outermost it a) (record w { puts = w.puts ++ given c v a ∷ [] })
  puts it w a o q = (
    here-given it w a (record w { puts = w.puts ++ given c v a ∷ [] }) refl refl q.0,
    record {
      puts =
          ap (λ l. l ++ given c v a ∷ []) q.1.puts
          ∙ append_assoc before.puts (map (given c v) (filter is_to_scalars it.with_outermost)) (given c v a ∷ [])
          ∙ ap (λ l. before.puts ++ l) (sym (map-both (given c v) (filter is_to_scalars it.with_outermost) (a ∷ [])) ∙ ap (map (given c v)) (sym (filter-last is_to_scalars it.with_outermost a true o)));
      folds = q.1.folds;
      sent = q.1.sent;
      messages = q.1.messages;
      carried = subst (λ l. AreSent kind all loop.graph l q.1.sent) (sym (filter-last is_to_nodes it.with_outermost a false (not-nodes a o) ∙ append-nil (filter is_to_nodes it.with_outermost))) q.1.carried;
      fields = q.1.fields;
      count = q.1.count;
      inner = q.1.inner;
      deferred = q.1.deferred;
    },
  )

  sends : (it : Iteration) (w : VertexState) (a : Contribution) (msg : Message) → are_of_scalars a.slots ≡ false → Carried kind all a msg → msg.to < node_count loop.graph → Shows it w
      → Shows (gave_outermost it a) (record w { messages = w.messages ++ msg ∷ [] })
  sends it w a msg o carry lt q = (
    here-given it w a (record w { messages = w.messages ++ msg ∷ [] }) refl refl q.0,
    record {
      puts = q.1.puts ∙ ap (λ l. before.puts ++ map (given c v) l) (sym (filter-last is_to_scalars it.with_outermost a false o ∙ append-nil (filter is_to_scalars it.with_outermost)));
      folds = q.1.folds;
      sent = q.1.sent ++ msg ∷ [];
      messages = ap (λ l. l ++ msg ∷ []) q.1.messages ∙ append_assoc before.messages q.1.sent (msg ∷ []);
      carried = subst (λ l. AreSent kind all loop.graph l (q.1.sent ++ msg ∷ [])) (sym (filter-last is_to_nodes it.with_outermost a true (ap not o)))
          (sent-both kind all loop.graph (filter is_to_nodes it.with_outermost) (a ∷ []) q.1.sent (msg ∷ []) q.1.carried (carry, lt, tt));
      fields = q.1.fields;
      count = q.1.count;
      inner = q.1.inner;
      deferred = q.1.deferred;
    },
  )

  abbrev Ended : List Line → List Line → VertexState → Iteration → Option Fault → Type 0
  Ended = Ending v run Shows Gave

  put-case : (first : ℕ) (key : Key) (total : TotalKey) (r : Reduce) (ts : List Target) (es : List Expr) (it : Iteration) (w : VertexState) (rest : List Line) → puts_to_scalars c found r ts es ≡ true → Shows it w
      → let out = does (S.Combine key total r ts es) m loop it in
      Ended (reduce_lines (each_site c seg n i) first (way_of c.declarations n ts) key total r ts (map (term v key) es)) rest w out out.fault
  put-case first key total r [] es it w rest o q = absurd (both_ways false refl o)
  put-case first key total r (t ∷ ts) es it w rest o q =
      let x = both-true (are_scalars c (t ∷ ts)) (list_all (is_declared c) (t ∷ ts) && (same_length (t ∷ ts) es && list_all found es)) o in
      let z = both-true (list_all (is_declared c) (t ∷ ts)) (same_length (t ∷ ts) es && list_all found es) x.1 in
      let y = both-true (same_length (t ∷ ts) es) (list_all found es) z.1 in
      let out = does (S.Combine key total r (t ∷ ts) es) m loop it in
      subst (λ way. Ended (reduce_lines (each_site c seg n i) first way key total r (t ∷ ts) (map (term v key) es)) rest w out out.fault) (sym (puts-way c n (t ∷ ts) x.0))
      (put-ends c v loop m s run Shows Gave depth_is (λ r' place targets ls u. refl) (λ a u b. b.0.fine) (λ a u f b. gave-failed a u f b.1) puts
      key total r t ts es it w rest q x.0 y.0 (all-tell it w key es y.1 q))

  -- a send line gives its values in a message to a node
  abbrev Sends : Type 0
  Sends =
      (first : ℕ) (total : TotalKey) (r : Reduce) (x : ℕ) (t : Target) (ts : List Target) (to : Term) (terms : List Term) (it : Iteration) (w : VertexState) (rest : List Line) (u : View) (at : Place)
      → Shows it w → are_kept c x (t ∷ ts) ≡ true → ((y : ℕ) (ys : List Value) → Unit {0}) → (l : ℕ) → slice_get all l ≡ Some (record { total = total; reduce = r; targets = t ∷ ts }) → first ≡ kind + l
      → (o : Option ℕ) → ((y : ℕ) → o ≡ Some y → y < node_count loop.graph) → term_value (view s w) to ≡ answer_of v (then_with (node_held u at o) (λ y. Ok (At (Some y))))
      → (answer : Result (List Value) Fault) → LongAs (t ∷ ts) answer → values (view s w) terms ≡ answer_of v answer
      → let out = out_of total r (t ∷ ts) it u o at answer in Ended (Send first to terms ∷ []) rest w out out.fault

  sent : Sends
  sent =
      send-by c v loop s run Shows Gave kind all (λ a. Unit {0}) (λ it w q. q.0.fine) (λ it w f q. gave-failed it w f q.1) (λ first to terms ls w. refl) (λ it w a msg o z. sends it w a msg o)

  send-case : (first : ℕ) (key : Key) (total : TotalKey) (r : Reduce) (ts : List Target) (es : List Expr) (it : Iteration) (w : VertexState) (rest : List Line) → folds_to c i found r ts es ≡ true → Placed first (S.Combine key total r ts es) → Shows it w
      → let out = does (S.Combine key total r ts es) m loop it in
      Ended (reduce_lines (each_site c seg n i) first (way_of c.declarations n ts) key total r ts (map (term v key) es)) rest w out out.fault
  send-case first key total r [] es it w rest o here q = absurd (both_ways false refl o)
  send-case first key total r (t ∷ ts) es it w rest o here q =
      let x = both-true (are_kept c i (t ∷ ts)) (same_length (t ∷ ts) es && list_all found es) o in
      let y = both-true (same_length (t ∷ ts) es) (list_all found es) x.1 in
      let u = view_in loop m it key in
      let out = does (S.Combine key total r (t ∷ ts) es) m loop it in
      let way = sends-way c n i t ts two x.0 in
      let place = here 0 (record { total = total; reduce = r; targets = t ∷ ts }) (ap (λ w'. slice_get (away_by w' total r (t ∷ ts)) 0) way) in
      let tell = all-tell it w key es y.1 q in
      let same : out ≡ with_ok it (then_with (evaluated_all es u).rest (λ xs. Ok (node_slots j (t ∷ ts), xs))) (λ p. gave_outermost it (contribution total r p)) =
      ap (λ e. reduced e u it total r (t ∷ ts) es) (nodes-end c loop m i t ts two x.0)
      ∙ ap (λ a. with_ok it a (λ p. gave_outermost it (contribution total r p)))
      (assigned-is u (t ∷ ts) (evaluated_all es u) (node_slots j (t ∷ ts)) (none-hoisted v u (view s w) es refl tell) (node-slots c i j u (t ∷ ts) x.0 (ap (node_in loop.graph) q.0.at_inner ∙ node-in loop.graph j q.0.near_inside))) in
      subst (λ way'. Ended (reduce_lines (each_site c seg n i) first way' key total r (t ∷ ts) (map (term v key) es)) rest w out out.fault) (sym way)
      (subst (λ node. Ended (Send first node (map (term v key) es) ∷ []) rest w out out.fault) (sym (to-neighbour c seg n i key t ts two x.0))
      (subst (λ z. Ended (Send first M.Neighbour (map (term v key) es) ∷ []) rest w z z.fault) (sym same)
      (sent first total r i t ts M.Neighbour (map (term v key) es) it w rest u total.place q x.0 (λ y' ys. tt) place.0 place.1 (let z : first + 0 ≡ kind + place.0 = place.2 in omega (arith, z))
      (Some j) (λ y' e. subst (λ z. z < node_count loop.graph) (number e) q.0.near_inside) (ap (λ z. Ok (At (Some z))) q.0.near)
      (evaluated_all es u).rest (long-values u (t ∷ ts) es y.0) (values-all v u (view s w) es tell)))) where
        number : {y : ℕ} → Some j ≡ Some y → j ≡ y
        number e = ap value_of e where
          value_of : Option ℕ → ℕ
          value_of (Some z) = z
          value_of None = 0

  -- a variable that may hold a node is told
  held-found : (x : ℕ) (at : Place) → nat_lt x (length c.declarations) ≡ true → has_value (variable_at c.declarations x) ≡ true → nat_eq x i ≡ false → found (S.Var x at) ≡ true
  held-found x at lt has off =
      ap (λ b. b && list_all is_at_edge (loads_in i (S.Var x at))) (known (is_in (n ∷ (i ∷ [])) x)) ∙ ap (λ b. list_all is_at_edge (if b then SenderItself ∷ [] else [])) off where
        known : (b : Bool) → b || (nat_lt x (length c.declarations) && has_value (variable_at c.declarations x)) ≡ true
        known true = refl
        known false = ap (λ b. b && has_value (variable_at c.declarations x)) lt ∙ has

  -- a reduction through a node variable is sent to its node, or faults where there is none. A local holds what it holds in a turn that has types
  through-case : (table : TypeTable) (around : List ℕ) (result : Option VType) → table.limit ≤ node_count loop.graph
      → (first : ℕ) (key : Key) (total : TotalKey) (r : Reduce) (ts : List Target) (es : List Expr) (it : Iteration) (w : VertexState) (rest : List Line) (turn : Iteration)
      → sends_through c (n ∷ (i ∷ [])) found r ts es ≡ true → Placed first (S.Combine key total r ts es) → AreTyped c table around result loop (S.Combine key total r ts es) turn
      → ((x : ℕ) → list_any (names_scalar x) ts ≡ true → it.store.scalar x ≡ turn.store.scalar x) → Shows it w
      → let out = does (S.Combine key total r ts es) m loop it in
      Ended (reduce_lines (each_site c seg n i) first (way_of c.declarations n ts) key total r ts (map (term v key) es)) rest w out out.fault
  through-case table around result limit first key total r [] es it w rest turn o here typed same q = absurd (both_ways false refl o)
  through-case table around result limit first key total r (T.Scalar x at ∷ ts) es it w rest turn o here typed same q = absurd (both_ways false refl o)
  through-case table around result limit first key total r (T.Property x p at ∷ ts) es it w rest turn o here typed same q =
      let t = T.Property x p at in
      let values' = same_length (t ∷ ts) es && list_all found es in
      let a = both-true (not (is_in (n ∷ (i ∷ [])) x)) (may_hold_node c x && (are_kept c x (t ∷ ts) && values')) o in
      let none_in = not-true (is_in (n ∷ (i ∷ [])) x) a.0 in
      let off = off-both x n i none_in in
      let b = both-true (may_hold_node c x) (are_kept c x (t ∷ ts) && values') a.1 in
      let holds = is Sorts.Scalar (variable_at c.declarations x) || is_global (variable_at c.declarations x) in
      let d = both-true (nat_lt x (length c.declarations)) holds b.0 in
      let e = both-true (are_kept c x (t ∷ ts)) values' b.1 in
      let f = both-true (same_length (t ∷ ts) es) (list_all found es) e.1 in
      let u = view_in loop m it key in
      let st = S.Combine key total r (t ∷ ts) es in
      let out = does st m loop it in
      let way = sends-way c n x t ts off.1 e.0 in
      let place = here 0 (record { total = total; reduce = r; targets = t ∷ ts }) (ap (λ w'. slice_get (away_by w' total r (t ∷ ts)) 0) way) in
      let tell = all-tell it w key es f.1 q in
      let at_node = node_in loop.graph (it.store.scalar x) in
      let in_graph : IsInGraph loop.graph (it.store.scalar x) =
      or-cases (is Sorts.Scalar (variable_at c.declarations x)) (is_global (variable_at c.declarations x)) d.1
      (λ h. subst (IsInGraph loop.graph) (sym (same x (or-left (list_any (names_scalar x) ts) (eq-eqb x x refl)))) (scalar-inside c table around result loop st turn x limit typed h))
      (λ h. q.0.in_graph x off.1 off.0 (ltb-true x (length c.declarations) d.0) h) in
      let told = tells it w key (S.Var x at) (held-found x at d.0 (held-value (variable_at c.declarations x) d.1) off.0) q in
      let to : term_value (view s w) (M.Live (v.place key at) (v.scalar x)) ≡ answer_of v (then_with (node_held u at at_node) (λ y. Ok (At (Some y)))) =
      ap (λ z. then_go z (live (v.place key at))) told ∙ live-same v u at (it.store.scalar x) in_graph in
      let meant : out ≡ out_of total r (t ∷ ts) it u at_node at (evaluated_all es u).rest =
      does-send c loop m key total r x p at ts es it off.1 e.0 (none-hoisted v u (view s w) es refl tell) in
      subst (λ way'. Ended (reduce_lines (each_site c seg n i) first way' key total r (t ∷ ts) (map (term v key) es)) rest w out out.fault) (sym way)
      (subst (λ node. Ended (Send first node (map (term v key) es) ∷ []) rest w out out.fault) (sym (ap (λ b'. if b' then v.scalar x else M.Live (v.place key at) (v.scalar x)) none_in))
      (subst (λ z. Ended (Send first (M.Live (v.place key at) (v.scalar x)) (map (term v key) es) ∷ []) rest w z z.fault) (sym meant)
      (sent first total r x t ts (M.Live (v.place key at) (v.scalar x)) (map (term v key) es) it w rest u at q e.0 (λ y ys. tt) place.0 place.1 (let z : first + 0 ≡ kind + place.0 = place.2 in omega (arith, z))
      at_node (λ y h. node-inside loop.graph (it.store.scalar x) y in_graph h) to (evaluated_all es u).rest (long-values u (t ∷ ts) es f.0) (values-all v u (view s w) es tell))))

  pub sender-holds : Holds (each_site c seg n i) loop m s run (λ it w. HomeShows c loop i k j edge registers fields s it w × SenderGave c v kind all loop.graph before it w) (λ it w. SenderGave c v kind all loop.graph before it w) found sets_nothing (receiver_gives c i found) (λ first st it. Placed first st)
  sender-holds = record {
    type_is = type_is;
    skipped = λ l ls a w. refl;
    register_runs = λ x t ls w. refl;
    skip_runs = λ a t ls w. refl;
    fine = λ it w q. q.0.fine;
    gave = λ it w q. q.1;
    gave_failed = gave-failed;
    tells = tells;
    local = local;
    property = λ key x p at e it w rest o f q. absurd (both_ways false refl o);
    placed_first = λ first a b it h at x e. h at x (get-left (aways c.declarations n a) (aways c.declarations n b) at x e);
    placed_second = λ first a b it h fine at x e.
        let t = h (length (aways c.declarations n a) + at) x (get-right (aways c.declarations n a) (aways c.declarations n b) at x e) in
        let z : first + (length (aways c.declarations n a) + at) ≡ kind + t.0 = t.2 in (t.0, t.1, (omega (arith, z)));
    placed_yes = λ first key e a b it h at x e'. h at x (get-left (aways c.declarations n a) (aways c.declarations n b) at x e');
    placed_no = λ first key e a b it h at x e'.
        let t = h (length (aways c.declarations n a) + at) x (get-right (aways c.declarations n a) (aways c.declarations n b) at x e') in
        let z : first + (length (aways c.declarations n a) + at) ≡ kind + t.0 = t.2 in (t.0, t.1, (omega (arith, z)));
    reduce = λ first key total r ts es it w rest o h q.
        or-cases (puts_to_scalars c found r ts es) (folds_to c i found r ts es) o
        (λ z. put-case first key total r ts es it w rest z q)
        (λ z. send-case first key total r ts es it w rest z h q);
  }

-- the turn
module _ (c : Layout) (seg : Segment) (registers : List VType) (fields : ℕ) (loop : Loop) (i : ℕ) (kind : ℕ) (key : Key) (test : Expr) (body : Stmt) (s : VertexContext) (w : VertexState) (r : Store)
    (able : IsSenderLoop c registers fields loop i test body) (shows : EdgeShows c loop registers fields s w r)
    (table : TypeTable) (around : List ℕ) (result : Option VType) (typed : AreTyped c table around result loop body (begun (write r (Scalar i) (At (Some s.near.node)))))
    (limit : table.limit ≤ node_count loop.graph) where
  abbrev at_sender : Env
  at_sender = each_env c seg loop.outer i

  abbrev finds_here : Expr → Bool
  finds_here = home_finds c loop.outer i

  abbrev sent_here : List Away
  sent_here = aways c.declarations loop.outer body

  abbrev GaveHere : Iteration → VertexState → Type 0
  GaveHere it u = SenderGave c at_sender kind sent_here loop.graph w it u

  is-each : IsEachLoop c registers fields loop i test
  is-each = record { apart = able.apart; outer = able.outer; inner = able.inner; two = able.two; types = able.types; depths = able.depths; firsts = able.firsts; plain = able.plain; found = able.found }

  abbrev Ending_so : List Target → Type 0
  Ending_so ts = (ends_of_all (AtEdge s.near.edge) loop ts ≡ WithInner) ⊎ (ends_of_all (AtEdge s.near.edge) loop ts ≡ WithOutermost)

  late-sender : (r' : Reduce) (ts : List Target) (es : List Expr) → receiver_gives c i finds_here r' ts es ≡ true → Ending_so ts × (list_all finds_here es ≡ true)
  late-sender r' [] es o = absurd (both_ways false refl o)
  late-sender r' (t ∷ ts) es o =
      or-cases (puts_to_scalars c finds_here r' (t ∷ ts) es) (folds_to c i finds_here r' (t ∷ ts) es) o
      (λ h.
      let x = both-true (are_scalars c (t ∷ ts)) (list_all (is_declared c) (t ∷ ts) && (same_length (t ∷ ts) es && list_all finds_here es)) h in
      let z = both-true (list_all (is_declared c) (t ∷ ts)) (same_length (t ∷ ts) es && list_all finds_here es) x.1 in
      (inr (scalars-end c loop (AtEdge s.near.edge) t ts able.depths x.0), (both-true (same_length (t ∷ ts) es) (list_all finds_here es) z.1).1))
      (λ h.
      let x = both-true (are_kept c i (t ∷ ts)) (same_length (t ∷ ts) es && list_all finds_here es) h in
      (inr (nodes-end c loop (AtEdge s.near.edge) i t ts able.two x.0), (both-true (same_length (t ∷ ts) es) (list_all finds_here es) x.1).1))

  abbrev through : Reduce → List Target → List Expr → Bool
  through = sends_through c (loop.outer ∷ (i ∷ [])) finds_here

  late-through : (r' : Reduce) (ts : List Target) (es : List Expr) → through r' ts es ≡ true → Ending_so ts × (list_all finds_here es ≡ true)
  late-through r' [] es o = absurd (both_ways false refl o)
  late-through r' (T.Scalar x at ∷ ts) es o = absurd (both_ways false refl o)
  late-through r' (T.Property x p at ∷ ts) es o =
      let all' = T.Property x p at ∷ ts in
      let values' = same_length all' es && list_all finds_here es in
      let a = both-true (not (is_in (loop.outer ∷ (i ∷ [])) x)) (may_hold_node c x && (are_kept c x all' && values')) o in
      let b = both-true (may_hold_node c x) (are_kept c x all' && values') a.1 in
      let d = both-true (are_kept c x all') values' b.1 in (
        inr (nodes-end c loop (AtEdge s.near.edge) x (T.Property x p at) ts (off-both x loop.outer i (not-true (is_in (loop.outer ∷ (i ∷ [])) x) a.0)).1 d.0),
        (both-true (same_length all' es) (list_all finds_here es) d.1).1,
      )

  -- what the body may, in the order in which it is told
  turned : (a b d : Bool) → (a || b) || d ≡ true → (d || a) || b ≡ true
  turned true b true h = refl
  turned true b false h = refl
  turned false true true h = refl
  turned false true false h = refl
  turned false false true h = refl
  turned false false false h = h

  fits-so : is_body c finds_here sets_nothing (λ r' ts es. (through r' ts es || receiver_gives c i finds_here r' ts es) || (picks_inside c finds_here r' ts es || tuples_inside c finds_here r' ts es)) body ≡ true
  fits-so =
      body-weaker c finds_here finds_here sets_nothing (sender_gives c loop.outer i finds_here)
      (λ r' ts es. (through r' ts es || receiver_gives c i finds_here r' ts es) || (picks_inside c finds_here r' ts es || tuples_inside c finds_here r' ts es)) (λ e o. o)
      (λ r' ts es o. turned (receiver_gives c i finds_here r' ts es) (picks_inside c finds_here r' ts es || tuples_inside c finds_here r' ts es) (through r' ts es) o) body able.fits

  none-given : (it : Iteration) → it.with_inner ≡ [] → it.with_outermost ≡ [] → it.deferred ≡ [] → GaveHere it w
  none-given it e f g = record {
    puts = sym (append-nil w.puts) ∙ ap (λ l. w.puts ++ map (given c at_sender) (filter is_to_scalars l)) (sym f);
    folds = refl;
    sent = [];
    messages = sym (append-nil w.messages);
    carried = subst (λ l. AreSent kind sent_here loop.graph (filter is_to_nodes l) []) (sym f) tt;
    fields = refl;
    count = refl;
    inner = e;
    deferred = g;
  }

  gave-moved : (a b : Iteration) (u : VertexState) → SameGiven a b → GaveHere b u → GaveHere a u
  gave-moved a b u same g = record {
    puts = g.puts ∙ ap (λ l. w.puts ++ map (given c at_sender) (filter is_to_scalars l)) same.outermost;
    folds = g.folds;
    sent = g.sent;
    messages = g.messages;
    carried = subst (λ l. AreSent kind sent_here loop.graph (filter is_to_nodes l) g.sent) same.outermost g.carried;
    fields = g.fields;
    count = g.count;
    inner = sym same.inner ∙ g.inner;
    deferred = sym same.deferred ∙ g.deferred;
  }

  gave-registers : (it : Iteration) (u : VertexState) (rs : List Value) → length rs ≡ length u.registers → GaveHere it u → GaveHere it (record u { registers = rs })
  gave-registers it u rs e g =
      record { puts = g.puts; folds = g.folds; sent = g.sent; messages = g.messages; carried = g.carried; fields = g.fields; count = e ∙ g.count; inner = g.inner; deferred = g.deferred }

  abbrev sender_out : Iteration
  sender_out = turn_at loop (AtEdge s.near.edge) key test (does body (AtEdge s.near.edge) loop) i s.near.node r

  by-fault : (it : Iteration) (a : After) (f : Option Fault) → TurnAs at_sender GaveHere it a f → SendingEnds c at_sender kind sent_here loop.graph w it a f
  by-fault it a None e = e
  by-fault it a (Some f) e = e

  pub sending-turn : SendingEnds c at_sender kind sent_here loop.graph w sender_out (lines_after s (home_lines c seg loop.outer i kind key test body) 0 w) sender_out.fault
  sending-turn =
      by-fault sender_out (lines_after s (home_lines c seg loop.outer i kind key test body) 0 w) sender_out.fault
      (turn-ends c seg registers fields loop i kind key test body s w r is-each shows through (receiver_gives c i finds_here) (λ r' ts es o. or-cases (through r' ts es) (receiver_gives c i finds_here r' ts es) o (λ z. late-through r' ts es z) (λ z. late-sender r' ts es z)) GaveHere gave-registers
      (Placed c seg loop i s.node s.near.node s.near.edge (length registers) fields kind sent_here s w able.apart able.outer able.inner able.two able.types able.depths) (λ at a e. (at, e, refl))
      (sender-holds c seg loop i s.node s.near.node s.near.edge (length registers) fields kind sent_here s w able.apart able.outer able.inner able.two able.types able.depths)
      none-given gave-moved table around result (AreTyped c table around result loop) (parts-are c table around result loop (AtEdge s.near.edge)) (λ st it t. (λ o. t))
      (through-case c seg loop i s.node s.near.node s.near.edge (length registers) fields kind sent_here s w able.apart able.outer able.inner able.two able.types able.depths table around result limit)
      fits-so typed able.spares)

pub sending-turns : SendingLinesAreTurns
sending-turns c seg registers fields loop i kind key test body s w r table around result able typed limit shows =
    sending-turn c seg registers fields loop i kind key test body s w r able shows table around result typed limit
