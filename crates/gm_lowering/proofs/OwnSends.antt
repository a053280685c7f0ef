-- The lines of an own body that sends through node variables, and the step of its vertex.
use Rattle.std.proofs.Common.{◌≡◌, ◌<◌, ◌≤◌, ℕ, Bool, true, false, Option, Some, None, Ok, List, [], ◌∷◌, ◌++◌, length, map, refl, ap, ◌∙◌, sym, subst, arith}
use Rattle.std.specs.Prelude.{◌+◌, ◌&&◌, ◌||◌, not, if◌then◌else◌, nat_eq, nat_lt, filter, slice_get}
use Rattle.std.specs.List.{list_all}
use Rattle.std.proofs.lemmas.Bool.{both_ways, not-true, ltb-true}
use Rattle.std.proofs.lemmas.List.{append-nil}
use Rattle.gm_value.specs.declared.values.VType.{VType}
use Rattle.gm_value.specs.declared.values.Value.{Value}
use Rattle.gm_value.specs.declared.values.Value.TheVariants.{At}
use Rattle.gm_value.specs.declared.reductions.Reduce.{Reduce}
use Rattle.gm_model.specs.Graphs.{NumberedGraph, node_count}
use Rattle.gm_ast.specs.declared.tree.Key.{Key}
use Rattle.gm_ast.specs.declared.tree.Sort.TheVariants as Sorts
use Rattle.gm_ast.specs.declared.tree.Target.{Target}
use Rattle.gm_ast.specs.declared.tree.Target.TheVariants as T
use Rattle.gm_ast.specs.declared.tree.TotalKey.{TotalKey}
use Rattle.gm_ast.specs.Names.{is}
use Rattle.gm_ast.specs.Ways.{is_in}
use Rattle.gm_ast.specs.Program as S
use Rattle.gm_ast.specs.Program.{Expr, Stmt}
use Rattle.gm_forms.proofs.Named.{both-true}
use Rattle.gm_semantics.specs.declared.faults.Fault.{Fault}
use Rattle.gm_semantics.specs.declared.slots.Slot.TheVariants.{Scalar}
use Rattle.gm_semantics.specs.Contributions.{Contribution}
use Rattle.gm_semantics.specs.Expressions.{evaluated_all, node_held}
use Rattle.gm_semantics.specs.Faults.{then_with}
use Rattle.gm_semantics.specs.Iterations.{Loop, Outermost, Iteration, begun, view_in, failed, gave_outermost, does}
use Rattle.gm_semantics.specs.Levels.{node_in}
use Rattle.gm_semantics.specs.Loops.{iteration}
use Rattle.gm_semantics.specs.Statements.{variable_at}
use Rattle.gm_semantics.specs.Stores.{Store, write}
use Rattle.gm_typed_stores.specs.Tells.{TypeTable}
use Rattle.gm_image.specs.Program as image
use Rattle.gm_image.specs.Program.{Line, Send}
use Rattle.gm_image.specs.Term as M
use Rattle.gm_machine.specs.Expressions.{value as term_value, live}
use Rattle.gm_machine.specs.Faults.{then_go}
use Rattle.gm_machine.specs.Machine.{context_at}
use Rattle.gm_machine.specs.Vertex.{Message, VertexContext, VertexState, After, view, body_after, begun as begin, vertex_after}
use Rattle.gm_lowering.specs.Layouts.{Layout, is_global, is_register, has_value, body_positions}
use Rattle.gm_lowering.specs.Places.{Segment}
use Rattle.gm_lowering.specs.Terms.{Env, term, own_env}
use Rattle.gm_lowering.specs.Plans.{Away, away_by, aways, way_of}
use Rattle.gm_lowering.specs.Bodies.{under, lines_of, reduce_lines, target_node}
use Rattle.gm_lowering.specs.Blocks.{own_site}
use Rattle.gm_lowering.specs.Showing.{answer_of}
use Rattle.gm_lowering.specs.Sites.{are_of_scalars, same_length, given, IsApart, IsInGraph}
use Rattle.gm_lowering.specs.OwnLoops.{own_finds, own_sets, own_gives, own_block, IsOwnLoop, fold_spots, HaveIndices, HasSpares, AreTyped, NodeShows}
use Rattle.gm_lowering.specs.MessageLoops.{is_to_scalars, is_to_nodes}
use Rattle.gm_lowering.specs.Settles.{fault_or_none}
use Rattle.gm_lowering.specs.TakingSteps.{Carried}
use Rattle.gm_lowering.specs.Sent.{may_hold_node, sends_through, AreSent}
use Rattle.gm_lowering.specs.OwnSends.{sending_gives, IsSendingOwnLoop, OwnSent, OwnSends, SendingOwnStepsAreIterations}
use Rattle.gm_lowering.proofs.Bodies.{Ends as Ending, Holds}
use Rattle.gm_lowering.proofs.Givens.{none-hoisted, are_kept, values-all}
use Rattle.gm_lowering.proofs.Own as O
use Rattle.gm_lowering.proofs.OwnGives as OG
use Rattle.gm_lowering.proofs.OwnSteps.{body-alone, filtered-ends, begins}
use Rattle.gm_lowering.proofs.Picks.{parts-are}
use Rattle.gm_lowering.proofs.Receiving.{or-cases}
use Rattle.gm_lowering.proofs.Sent.{sends-way, long-values, filter-last, get-left, get-right, sent-both}
use Rattle.gm_lowering.proofs.Sendings.{node-inside, scalar-inside, held-value, off-one, out_of, does-send, send-by}
use Rattle.gm_lowering.proofs.TupleFacts.{no-spares, spares-first, spares-second}

map-both : {A B : Type 0} (f : A → B) (xs ys : List A) → map f (xs ++ ys) ≡ map f xs ++ map f ys
map-both f [] ys = refl
map-both f (x ∷ xs) ys = ap (λ l. f x ∷ l) (map-both f xs ys)

-- what is sent is told by what both gave
sent-giving : (c : Layout) (v : Env) (kind : ℕ) (all : List Away) (g : NumberedGraph) → O.Giving c v (λ it w. OwnSent c v kind all g it w)
sent-giving c v kind all g = record {
  stays = λ it new w u inner outermost deferred puts folds messages q. record {
    puts = puts ∙ q.puts ∙ ap (λ l. map (given c v) (filter is_to_scalars l)) (sym outermost);
    folds = folds;
    carried = subst (λ ms. AreSent kind all g (filter is_to_nodes new.with_outermost) ms) (sym messages) (subst (λ l. AreSent kind all g (filter is_to_nodes l) w.messages) (sym outermost) q.carried);
    inner = inner ∙ q.inner;
    deferred = deferred ∙ q.deferred;
  };
  folds = λ it w q. q.folds;
  puts = λ it w a o q. record {
    puts =
        ap (λ l. l ++ given c v a ∷ []) q.puts
        ∙ sym (map-both (given c v) (filter is_to_scalars it.with_outermost) (a ∷ [])) ∙ ap (map (given c v)) (sym (filter-last is_to_scalars it.with_outermost a true o));
    folds = q.folds;
    carried = subst (λ l. AreSent kind all g l w.messages) (sym (filter-last is_to_nodes it.with_outermost a false (ap not o) ∙ append-nil (filter is_to_nodes it.with_outermost))) q.carried;
    inner = q.inner;
    deferred = q.deferred;
  };
}

module _ (c : Layout) (seg : Segment) (loop : Loop) (k registers fields places : ℕ) (s : VertexContext)
    (apart : IsApart c registers fields)
    (unlike : is_register (variable_at c.declarations loop.outer) ≡ false)
    (type_is : (x : ℕ) → loop.vtype x ≡ (variable_at c.declarations x).vtype)
    (depth_is : (x : ℕ) → loop.depth x ≡ (variable_at c.declarations x).depth)
    (kind : ℕ) (all : List Away) (table : TypeTable) (around : List ℕ) (result : Option VType) (limit : table.limit ≤ node_count loop.graph) where
  abbrev n : ℕ
  n = loop.outer

  abbrev v : Env
  v = own_env c seg n

  abbrev found : Expr → Bool
  found = own_finds c n

  abbrev Gave : Iteration → VertexState → Type 0
  Gave it w = OwnSent c v kind all loop.graph it w

  pub giving : O.Giving c v Gave
  giving = sent-giving c v kind all loop.graph

  abbrev pub Shows : Iteration → VertexState → Type 0
  Shows = O.Shows c seg loop k registers fields places s apart unlike type_is depth_is Gave giving

  abbrev run : List Line → ℕ → VertexState → After
  run = body_after places s

  abbrev Base : ℕ → Stmt → Iteration → Type 0
  Base = OG.Ready c seg loop k registers fields places s apart unlike type_is depth_is Gave giving table around result

  base : Holds (own_site c seg n) loop Outermost s run Shows Gave found (own_sets c n) (own_gives c n found) Base
  base = OG.own-holds c seg loop k registers fields places s apart unlike type_is depth_is Gave giving table around result

  -- where a statement's messages begin among the kinds
  abbrev pub Placed : ℕ → Stmt → Type 0
  Placed first st = (at : ℕ) (a : Away) → slice_get (aways c.declarations n st) at ≡ Some a → (l : ℕ) × (slice_get all l ≡ Some a) × (first + at ≡ kind + l)

  abbrev pub Ready : ℕ → Stmt → Iteration → Type 0
  Ready first st it = HaveIndices seg places (fold_spots c n st) × AreTyped c table around result loop st it × HasSpares c registers (body_positions c.declarations st) × Placed first st

  ready-base : (first : ℕ) (st : Stmt) (it : Iteration) → Ready first st it → Base first st it
  ready-base first st it h = (h.0, (λ o. h.1), h.2)

  abbrev Ended : List Line → List Line → VertexState → Iteration → Option Fault → Type 0
  Ended = Ending v run Shows Gave

  gave-failed : (it : Iteration) (w : VertexState) (f : Fault) → Gave it w → Gave (failed it f) w
  gave-failed it w f q = giving.stays it (failed it f) w w refl refl refl refl q.folds refl q

  -- one more message
  sends : (it : Iteration) (w : VertexState) (a : Contribution) (msg : Message) → are_of_scalars a.slots ≡ false → Carried kind all a msg → msg.to < node_count loop.graph → Shows it w
      → Shows (gave_outermost it a) (record w { messages = w.messages ++ msg ∷ [] })
  sends it w a msg o carry lt q = (
    record {
      fine = q.0.fine;
      node = q.0.node;
      graph = q.0.graph;
      inside = q.0.inside;
      at_node = q.0.at_node;
      phase = q.0.phase;
      in_graph = q.0.in_graph;
      locals = q.0.locals;
      properties = q.0.properties;
      register_count = q.0.register_count;
      field_count = q.0.field_count;
    },
    record {
      puts = q.1.puts ∙ ap (map (given c v)) (sym (filter-last is_to_scalars it.with_outermost a false o ∙ append-nil (filter is_to_scalars it.with_outermost)));
      folds = q.1.folds;
      carried = subst (λ l. AreSent kind all loop.graph l (w.messages ++ msg ∷ [])) (sym (filter-last is_to_nodes it.with_outermost a true (ap not o)))
          (sent-both kind all loop.graph (filter is_to_nodes it.with_outermost) (a ∷ []) w.messages (msg ∷ []) q.1.carried (carry, lt, tt));
      inner = q.1.inner;
      deferred = q.1.deferred;
    },
  )

  send-case : (first : ℕ) (key : Key) (total : TotalKey) (r : Reduce) (ts : List Target) (es : List Expr) (it : Iteration) (w : VertexState) (rest : List Line)
      → sends_through c (n ∷ []) found r ts es ≡ true → Ready first (S.Combine key total r ts es) it → Shows it w
      → let out = does (S.Combine key total r ts es) Outermost loop it in
      Ended (reduce_lines (own_site c seg n) first (way_of c.declarations n ts) key total r ts (map (term v key) es)) rest w out out.fault
  send-case first key total r [] es it w rest o ready q = absurd (both_ways false refl o)
  send-case first key total r (T.Scalar x at ∷ ts) es it w rest o ready q = absurd (both_ways false refl o)
  send-case first key total r (T.Property x p at ∷ ts) es it w rest o ready q =
      let t = T.Property x p at in
      let values' = same_length (t ∷ ts) es && list_all found es in
      let a = both-true (not (is_in (n ∷ []) x)) (may_hold_node c x && (are_kept c x (t ∷ ts) && values')) o in
      let off : nat_eq x n ≡ false = off-one x n (not-true (is_in (n ∷ []) x) a.0) in
      let b = both-true (may_hold_node c x) (are_kept c x (t ∷ ts) && values') a.1 in
      let holds = is Sorts.Scalar (variable_at c.declarations x) || is_global (variable_at c.declarations x) in
      let d = both-true (nat_lt x (length c.declarations)) holds b.0 in
      let e = both-true (are_kept c x (t ∷ ts)) values' b.1 in
      let f = both-true (same_length (t ∷ ts) es) (list_all found es) e.1 in
      let u = view_in loop Outermost it key in
      let st = S.Combine key total r (t ∷ ts) es in
      let out = does st Outermost loop it in
      let way = sends-way c n x t ts off e.0 in
      let place = ready.3 0 (record { total = total; reduce = r; targets = t ∷ ts }) (ap (λ w'. slice_get (away_by w' total r (t ∷ ts)) 0) way) in
      let tell = O.all-tell c seg loop k registers fields places s apart unlike type_is depth_is Gave giving it w key es f.1 q in
      let none = none-hoisted v u (view s w) es refl tell in
      let at_node = node_in loop.graph (it.store.scalar x) in
      let in_graph : IsInGraph loop.graph (it.store.scalar x) =
      or-cases (is Sorts.Scalar (variable_at c.declarations x)) (is_global (variable_at c.declarations x)) d.1
      (λ h. scalar-inside c table around result loop st it x limit ready.1 h) (λ h. q.0.in_graph x off (ltb-true x (length c.declarations) d.0) h) in
      let scalar = O.scalar-is c seg loop k registers fields places s apart unlike type_is depth_is Gave giving it w x (known d.0 (held-value (variable_at c.declarations x) d.1) (nat_eq x n || false)) q in
      let to : term_value (view s w) (M.Live (v.place key at) (v.scalar x)) ≡ answer_of v (then_with (node_held u at at_node) (λ j. Ok (At (Some j)))) =
      ap (λ z. then_go z (live (v.place key at))) scalar ∙ O.live-same v u at (it.store.scalar x) in_graph in
      let same : out ≡ out_of total r (t ∷ ts) it u at_node at (evaluated_all es u).rest =
      does-send c loop Outermost key total r x p at ts es it off e.0 none in
      subst (λ way'. Ended (reduce_lines (own_site c seg n) first way' key total r (t ∷ ts) (map (term v key) es)) rest w out out.fault) (sym way)
      (subst (λ node. Ended (Send first node (map (term v key) es) ∷ []) rest w out out.fault) (sym (through off))
      (subst (λ z. Ended (Send first (M.Live (v.place key at) (v.scalar x)) (map (term v key) es) ∷ []) rest w z z.fault) (sym same)
      (send-by c v loop s run Shows Gave kind all (λ a. Unit {0}) base.fine (λ it' w' f' q'. gave-failed it' w' f' q'.1) (λ k' to' terms' ls u'. refl) (λ it' w' a' msg o' z. sends it' w' a' msg o')
      first total r x t ts (M.Live (v.place key at) (v.scalar x)) (map (term v key) es) it w rest u at q e.0 (λ j ys. tt) place.0 place.1 (let z : first + 0 ≡ kind + place.0 = place.2 in omega (arith, z))
      at_node (λ j h. node-inside loop.graph (it.store.scalar x) j in_graph h) to (evaluated_all es u).rest (long-values u (t ∷ ts) es f.0) (values-all v u (view s w) es tell)))) where
        known : nat_lt x (length c.declarations) ≡ true → has_value (variable_at c.declarations x) ≡ true → (b : Bool) → b || (nat_lt x (length c.declarations) && has_value (variable_at c.declarations x)) ≡ true
        known e f true = refl
        known e f false = ap (λ b. b && has_value (variable_at c.declarations x)) e ∙ f

        through : nat_eq x n ≡ false → target_node (own_site c seg n) key (T.Property x p at ∷ ts) ≡ M.Live (v.place key at) (v.scalar x)
        through off = ap (λ b. if b || false then v.scalar x else M.Live (v.place key at) (v.scalar x)) off

  -- the site of an own body that may send
  pub sending-holds : Holds (own_site c seg n) loop Outermost s run Shows Gave found (own_sets c n) (sending_gives c n found) Ready
  sending-holds =
      let types = parts-are c table around result loop Outermost in
      let always = λ (first : ℕ) (st : Stmt) (it : Iteration) (h : Ready first st it). ready-base first st it h in
      record {
        type_is = type_is;
        skipped = base.skipped;
        register_runs = base.register_runs;
        skip_runs = base.skip_runs;
        fine = base.fine;
        gave = base.gave;
        gave_failed = gave-failed;
        tells = base.tells;
        local = base.local;
        property = base.property;
        placed_first = λ first a b it h. ((base.placed_first first a b it (always first (S.Then a b) it h)).0, types.first a b it h.1, spares-first c registers (body_positions c.declarations a) (body_positions c.declarations b) h.2, λ at x e. h.3 at x (get-left (aways c.declarations n a) (aways c.declarations n b) at x e));
        placed_second = λ first a b it h fine. ((base.placed_second first a b it (always first (S.Then a b) it h) fine).0, types.second a b it h.1, spares-second c registers (body_positions c.declarations a) (body_positions c.declarations b) h.2, λ at x e. behind first a b h.3 at x e);
        placed_yes = λ first key e a b it h. ((base.placed_yes first key e a b it (always first (S.If key e a b) it h)).0, types.yes key e a b it h.1, spares-first c registers (body_positions c.declarations a) (body_positions c.declarations b) h.2, λ at x e'. h.3 at x (get-left (aways c.declarations n a) (aways c.declarations n b) at x e'));
        placed_no = λ first key e a b it h. ((base.placed_no first key e a b it (always first (S.If key e a b) it h)).0, types.no key e a b it h.1, spares-second c registers (body_positions c.declarations a) (body_positions c.declarations b) h.2, λ at x e'. behind first a b h.3 at x e');
        reduce = λ first key total r ts es it w rest o h q.
            or-cases (own_gives c n found r ts es) (sends_through c (n ∷ []) found r ts es) o
            (λ z. base.reduce first key total r ts es it w rest z (always first (S.Combine key total r ts es) it h) q)
            (λ z. send-case first key total r ts es it w rest z h q);
      } where
        behind : (first : ℕ) (a b : Stmt) → ((at : ℕ) (x : Away) → slice_get (aways c.declarations n a ++ aways c.declarations n b) at ≡ Some x → (l : ℕ) × (slice_get all l ≡ Some x) × (first + at ≡ kind + l))
            → (at : ℕ) (x : Away) → slice_get (aways c.declarations n b) at ≡ Some x → (l : ℕ) × (slice_get all l ≡ Some x) × ((first + length (aways c.declarations n a)) + at ≡ kind + l)
        behind first a b h at x e =
            let t = h (length (aways c.declarations n a) + at) x (get-right (aways c.declarations n a) (aways c.declarations n b) at x e) in
            let z : first + (length (aways c.declarations n a) + at) ≡ kind + t.0 = t.2 in (t.0, t.1, (omega (arith, z)))

-- the step
module _ (c : Layout) (seg : Segment) (p : image.Program) (fields : ℕ) (loop : Loop) (kind : ℕ) (key : Key) (test : Expr) (body : Stmt) (globals fs : List Value) (k : ℕ) (r : Store) (table : TypeTable) (around : List ℕ) (result : Option VType)
    (able : IsSendingOwnLoop c p.registers fields loop test body) (room : HaveIndices seg (length p.places) (fold_spots c loop.outer body))
    (typed : AreTyped c table around result loop body (begun (write r (Scalar loop.outer) (At (Some k))))) (limit : table.limit ≤ node_count loop.graph)
    (shows : NodeShows c loop.graph p.registers fields globals fs k r) where
  abbrev n' : ℕ
  n' = loop.outer

  abbrev v' : Env
  v' = own_env c seg n'

  abbrev away_all : List Away
  away_all = aways c.declarations n' body

  abbrev s' : VertexContext
  s' = context_at loop.graph globals k

  abbrev start : Iteration
  start = begun (write r (Scalar n') (At (Some k)))

  abbrev first' : VertexState
  first' = begin p.registers fs

  abbrev out : Iteration
  out = iteration loop key test body r k

  abbrev GaveHere : Iteration → VertexState → Type 0
  GaveHere it w = OwnSent c v' kind away_all loop.graph it w

  abbrev ShowsHere : Iteration → VertexState → Type 0
  ShowsHere = Shows c seg loop k (length p.registers) fields (length p.places) s' able.apart able.iterator able.types able.depths kind away_all table around result limit

  -- the filter alone is an own loop's
  test-loop : IsOwnLoop c p.registers fields loop test S.Skip
  test-loop = record { apart = able.apart; iterator = able.iterator; types = able.types; depths = able.depths; found = able.found; fits = refl; spares = no-spares c (length p.registers) }

  begins-here : ShowsHere start first'
  begins-here =
      ((begins c seg p fields loop kind key test S.Skip globals fs k r test-loop shows).0, record { puts = refl; folds = refl; carried = tt; inner = refl; deferred = refl })

  abbrev block_lines : List Line
  block_lines = under (term v' key test) (lines_of (own_site c seg n') kind body)

  abbrev step : After
  step = vertex_after p (own_block c seg n' kind key test body) s' [] fs

  step-is : step ≡ body_after (length p.places) s' (block_lines ++ []) 0 first'
  step-is = body-alone p s' block_lines fs ∙ ap (λ ls. body_after (length p.places) s' ls 0 first') (sym (append-nil block_lines))

  ends-as : (f : Option Fault) → out.fault ≡ f → Ending v' (body_after (length p.places) s') ShowsHere GaveHere block_lines [] first' out f
      → OwnSends c v' kind away_all loop.graph fields k out step
  ends-as None e q =
      subst (OwnSends c v' kind away_all loop.graph fields k out) (sym (step-is ∙ q.2))
      (record { fault = sym (ap (fault_or_none v') e); sent = q.1.1; properties = λ h. q.1.0.properties; field_count = λ h. q.1.0.field_count })
  ends-as (Some f) e q =
      subst (OwnSends c v' kind away_all loop.graph fields k out) (sym (step-is ∙ q.2))
      (record { fault = sym (ap (fault_or_none v') e); sent = q.1; properties = λ h. absurd (none (sym e ∙ h)); field_count = λ h. absurd (none (sym e ∙ h)) }) where
        is_none : Option Fault → Bool
        is_none None = true
        is_none (Some g) = false

        none : Some f ≡ None → ⊥
        none h = both_ways false refl (ap is_none h)

  pub sending-own-step : OwnSends c v' kind away_all loop.graph fields k out step
  sending-own-step =
      ends-as out.fault refl
      (filtered-ends (own_site c seg n') loop Outermost s' (body_after (length p.places) s') ShowsHere GaveHere (own_finds c n') (own_sets c n') (sending_gives c n' (own_finds c n'))
      (sending-holds c seg loop k (length p.registers) fields (length p.places) s' able.apart able.iterator able.types able.depths kind away_all table around result limit)
      key test body kind able.found able.fits start (room, typed, able.spares, λ at a e. (at, e, refl)) first' [] begins-here)

pub sending-own-steps : SendingOwnStepsAreIterations
sending-own-steps c seg p fields loop kind key test body globals fs k r table around result able room typed limit shows =
    sending-own-step c seg p fields loop kind key test body globals fs k r table around result able room typed limit shows
