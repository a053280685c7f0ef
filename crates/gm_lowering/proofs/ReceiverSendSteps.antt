-- The step of a vertex whose receivers send takes what the turns that reach its node give, and sends the rest.
use Rattle.std.proofs.Common.{◌≡◌, ◌<◌, ◌≤◌, ℕ, suc, Bool, true, false, Option, Some, None, List, [], ◌∷◌, ◌++◌, length, map, refl, ap, ◌∙◌, sym, subst}
use Rattle.std.specs.Prelude.{◌&&◌, nat_eq, filter}
use Rattle.std.specs.List.{list_all}
use Rattle.std.proofs.lemmas.Bool.{both_ways, not-true}
use Rattle.std.proofs.lemmas.List.{append-nil}
use Rattle.gm_value.specs.declared.values.VType.{VType}
use Rattle.gm_value.specs.declared.values.Value.{Value}
use Rattle.gm_value.specs.declared.values.Value.TheVariants.{At}
use Rattle.gm_value.specs.declared.reductions.Reduce.{Reduce}
use Rattle.gm_value.specs.Bag.{IsIn}
use Rattle.gm_model.specs.Graphs.{NumberedGraph, Step, node_count}
use Rattle.gm_ast.specs.declared.tree.Key.{Key}
use Rattle.gm_ast.specs.declared.tree.Target.{Target}
use Rattle.gm_ast.specs.declared.tree.TotalKey.{TotalKey}
use Rattle.gm_ast.specs.Program as P
use Rattle.gm_ast.specs.Program.{Expr, Stmt}
use Rattle.gm_ast.specs.Ways.{is_in}
use Rattle.gm_forms.proofs.Named.{both-true}
use Rattle.gm_semantics.specs.declared.slots.Slot.TheVariants as slots
use Rattle.gm_semantics.specs.Contributions.{Contribution, value_after, total_faults}
use Rattle.gm_semantics.specs.Faults.{joined, least}
use Rattle.gm_semantics.specs.Iterations.{Loop, Mode, AtEdge, Iteration, turn_at, does}
use Rattle.gm_semantics.specs.Levels.{node_in}
use Rattle.gm_semantics.specs.Statements.{variable_at}
use Rattle.gm_semantics.specs.Stores.{Store, write}
use Rattle.gm_semantics.proofs.ContributionLaws.{IsIn-filter}
use Rattle.gm_typed_stores.specs.Tells.{TypeTable}
use Rattle.gm_image.specs.Program as image
use Rattle.gm_machine.specs.Machine.{context_at}
use Rattle.gm_machine.specs.Vertex.{Message, VertexContext, VertexState, After, lines_after, handler_run, begun as begin, vertex_after}
use Rattle.gm_lowering.specs.Layouts.{Layout, is_register}
use Rattle.gm_lowering.specs.Places.{Spot, Segment, segment, spots_in_all}
use Rattle.gm_lowering.specs.Terms.{Env}
use Rattle.gm_lowering.specs.Plans.{Load, Away, aways, loads_in, way_of}
use Rattle.gm_lowering.specs.Bodies.{reduce_spots}
use Rattle.gm_lowering.specs.Blocks.{receiver_env}
use Rattle.gm_lowering.specs.Sites.{finds, is_body, given}
use Rattle.gm_lowering.specs.OwnLoops.{NodeShows, AreTyped}
use Rattle.gm_lowering.specs.MessageLoops.{has_load, receiver_finds, sets_nothing, inner_gives, handler_lines, is_to_scalars, is_to_nodes, TurnsAreTyped}
use Rattle.gm_lowering.specs.Phases.{GivesApart}
use Rattle.gm_lowering.specs.Receiving.{receive_block, turn_of, given_by, faults_by, IsMessageOf, inner_spots}
use Rattle.gm_lowering.specs.Settles.{HasSpot, HaveRoom, fault_or_none}
use Rattle.gm_lowering.specs.Sent.{sends_through, sender_gives, AreSent}
use Rattle.gm_lowering.specs.ReceiverSends.{are_sent_slots, is_sent, is_received, IsSendingMessageLoop, ReceiverSent, RunSends, ReceivesAndSends, SendingReceiversAreTurns, tells_sent}
use Rattle.gm_lowering.proofs.FoldFacts.{IsReceived, body-weaker}
use Rattle.gm_lowering.proofs.Givens.{node_slots}
use Rattle.gm_lowering.proofs.Handled.{filter-both, Joins, Ran, takes}
use Rattle.gm_lowering.proofs.Kept.{Gives}
use Rattle.gm_lowering.proofs.Picks.{parts-are}
use Rattle.gm_lowering.proofs.Received.{joined-both}
use Rattle.gm_lowering.proofs.Receiving.{inner-left, inner-give, or-cases, message-shows, one-handler}
use Rattle.gm_lowering.proofs.ReceiverSends.{sent-slots, sending-handlers, told-sent}
use Rattle.gm_lowering.proofs.Sendings.{off-both, send-left, send-gives, sender-weaker}
use Rattle.gm_lowering.proofs.Sent.{sent-both}
use Rattle.gm_lowering.proofs.Spots.{Has, HoldNodes, Left, PartsReady}
use Rattle.gm_lowering.proofs.TurnsLeft.{both, home_at, no-locals, outer-in, at-receiver, turn-left}

-- parts of what turns give
pub joined-filter : (t : Contribution → Bool) (f : ℕ × Step → List Contribution) (xs : List (ℕ × Step)) → joined (map (λ x. filter t (f x)) xs) ≡ filter t (joined (map f xs))
joined-filter t f [] = refl
joined-filter t f (x ∷ xs) = ap (λ l. filter t (f x) ++ l) (joined-filter t f xs) ∙ sym (filter-both t (f x) (joined (map f xs)))

-- what is sent for turns
abbrev pub SentFor : ℕ → List Away → NumberedGraph → List (ℕ × ℕ) → (ℕ × Step → Iteration) → List (ℕ × Step) → List Message → Type 0
SentFor kind sends g out turn xs ms = AreSent kind sends g (filter (is_sent out) (given_by turn xs)) ms

pub sent-joins : (kind : ℕ) (sends : List Away) (g : NumberedGraph) (out : List (ℕ × ℕ)) (turn : ℕ × Step → Iteration) → Joins (SentFor kind sends g out turn)
sent-joins kind sends g out turn = record {
  nothing = tt;
  both = λ xs ys ms ns a b.
      subst (λ l. AreSent kind sends g l (ms ++ ns)) (sym (ap (filter (is_sent out)) (joined-both xs ys (λ x. (turn x).with_outermost)) ∙ filter-both (is_sent out) (given_by turn xs) (given_by turn ys)))
      (sent-both kind sends g (filter (is_sent out) (given_by turn xs)) (filter (is_sent out) (given_by turn ys)) ms ns a b);
}

module _ (c : Layout) (p : image.Program) (fields base : ℕ) (all : List Spot) (loop : Loop) (i : ℕ) (loads : List Load) (out : List (ℕ × ℕ)) (kind : ℕ) (key : Key) (test : Expr) (body : Stmt)
    (globals fs : List Value) (j : ℕ) (r : Store) (message : ℕ × Step → Message)
    (table : TypeTable) (around : List ℕ) (result : Option VType)
    (able : IsSendingMessageLoop c p.registers fields loop i loads out test body)
    (typed : TurnsAreTyped c table around result loop i body r)
    (limit : table.limit ≤ node_count loop.graph)
    (incl : (f : Spot) → HasSpot f (inner_spots c loop.outer i key test body) → HasSpot f all)
    (fit : HaveRoom base all (length p.places))
    (shows : NodeShows c loop.graph p.registers fields globals fs j r) where
  abbrev n : ℕ
  n = loop.outer

  abbrev g : NumberedGraph
  g = loop.graph

  abbrev seg : Segment
  seg = segment base all

  abbrev v : Env
  v = receiver_env c seg n i loads

  abbrev s : VertexContext
  s = context_at g globals j

  abbrev sends : List Away
  sends = aways c.declarations i body

  abbrev turn : ℕ × Step → Iteration
  turn = turn_of loop i key test body r

  abbrev first_state : VertexState
  first_state = begin p.registers fs

  abbrev lines : List image.Line
  lines = handler_lines c seg n i loads (suc kind) key test body

  abbrev hs : List image.Handler
  hs = (receive_block c seg n i loads kind key test body).handlers

  abbrev run : ℕ × Step → After
  run x = handler_run s hs first_state (message x)

  abbrev Is : ℕ × Step → Type 0
  Is x = IsMessageOf loop loads kind key r j x (message x)

  abbrev from : ℕ → Store
  from k = write r (slots.Scalar n) (At (Some k))

  -- the run of a message is the turn
  run-ends : (x : ℕ × Step) → Is x → RunSends c v (suc kind) sends g out (turn x) (run x)
  run-ends x is_of =
      subst (RunSends c v (suc kind) sends g out (turn x)) (sym (one-handler s first_state kind lines (message x) is_of.of_kind))
      (subst (λ k. RunSends c v (suc kind) sends g out (turn_at loop (AtEdge x.1.edge) key test (does body (AtEdge x.1.edge) loop) i k (from x.0)) (lines_after (record s { message = (message x).values }) lines 0 first_state)) (sym is_of.arrives)
      (sending-handlers c seg p.registers fields loop i loads out (suc kind) key test body (record s { message = (message x).values }) fs x.0 x.1.edge (from x.0) table around result able (typed x.0 j is_of.from_inside shows.inside) limit refl
      (message-shows c p.registers fields loop loads kind key globals fs j r x (message x) able.outer shows is_of)))

  pub gave-of : (x : ℕ × Step) → Is x → ReceiverSent c v (suc kind) sends g out (turn x) (run x).state
  gave-of x is_of = (run-ends x is_of).1

  -- a turn's fault has a spot, and what it gives is received, or sent
  abbrev its : List ℕ
  its = n ∷ i ∷ []

  abbrev loose : Expr → Bool
  loose = finds c its true

  loosen : (e : Expr) → receiver_finds c n i loads e ≡ true → loose e ≡ true
  loosen e h = (both-true (loose e) (list_all (has_load loads) (loads_in n e)) h).0

  abbrev gives : Reduce → List Target → List Expr → Bool
  gives = sender_gives c n i loose

  fits : is_body c loose sets_nothing gives body ≡ true
  fits =
      body-weaker c (receiver_finds c n i loads) loose sets_nothing (sender_gives c n i (receiver_finds c n i loads)) gives loosen (λ r' ts es h. sender-weaker c n i (receiver_finds c n i loads) loose r' ts es loosen h) body able.fits

  abbrev Good : Contribution → Type 0
  Good y = is_sent out y ≡ false → IsReceived c j all y

  abbrev Ready : P.Stmt → Iteration → Type 0
  Ready st it = AreTyped c table around result loop st it × (tells_sent c.declarations i out st ≡ true)

  told : (a b : P.Stmt) → tells_sent c.declarations i out a && tells_sent c.declarations i out b ≡ true → (tells_sent c.declarations i out a ≡ true) × (tells_sent c.declarations i out b ≡ true)
  told a b h = both-true (tells_sent c.declarations i out a) (tells_sent c.declarations i out b) h

  parts-ready : (m : Mode) → PartsReady loop m Ready
  parts-ready m =
      let types = parts-are c table around result loop m in
      record {
        first = λ a b it h. (types.first a b it h.0, (told a b h.1).0);
        second = λ a b it h. (types.second a b it h.0, (told a b h.1).1);
        yes = λ k e a b it h. (types.yes k e a b it h.0, (told a b h.1).0);
        no = λ k e a b it h. (types.no k e a b it h.0, (told a b h.1).1);
      }

  module _ (x : ℕ × Step) (is_of : Is x) where
    abbrev m : Mode
    m = AtEdge x.1.edge

    abbrev home : ℕ → ℕ
    home = home_at i x.1.node x.0

    here-inside : x.1.node < node_count g
    here-inside = subst (λ z. z < node_count g) (sym is_of.arrives) shows.inside

    none : (y : ℕ) → is_in its y ≡ true → is_register (variable_at c.declarations y) ≡ false
    none = no-locals c loop i able.outer able.inner able.two

    outer-here : is_in its n ≡ true
    outer-here = outer-in c loop i able.outer able.inner able.two

    at-j : (it : Iteration) → HoldNodes g its home it → node_in g (it.store.scalar i) ≡ Some j
    at-j it h = at-receiver c loop i able.outer able.inner able.two x.1.node x.0 here-inside it h ∙ ap Some is_of.arrives

    off : (y : ℕ) → is_in its y ≡ false → (nat_eq y i ≡ false) × (nat_eq y n ≡ false)
    off y h = off-both y n i h

    reductions-left : (k : Key) (total : TotalKey) (r' : Reduce) (ts : List Target) (es : List Expr) (it : Iteration) → gives r' ts es ≡ true → Ready (P.Combine k total r' ts es) it → it.fault ≡ None → HoldNodes g its home it
        → Left c its true loop m home (does (P.Combine k total r' ts es) m loop it) (spots_in_all es k ++ reduce_spots false its (way_of c.declarations i ts) k total ts)
    reductions-left k total r' ts es it o y e h =
        or-cases (inner_gives c i loose r' ts es) (sends_through c (n ∷ (i ∷ [])) loose r' ts es) o
        (λ z. inner-left c loop i able.depths able.two table around result none outer-here x.1.edge j home k total r' ts es it z (λ a. y.0) e h (at-j it h))
        (λ z. send-left c its true false i loop m home off k total r' ts es it z e h)

    reductions-give : (k : Key) (total : TotalKey) (r' : Reduce) (ts : List Target) (es : List Expr) (it : Iteration) → gives r' ts es ≡ true → Ready (P.Combine k total r' ts es) it → HoldNodes g its home it
        → ((f : Spot) → HasSpot f (reduce_spots false its (way_of c.declarations i ts) k total ts) → HasSpot f all)
        → Gives Good it → Gives Good (does (P.Combine k total r' ts es) m loop it)
    reductions-give k total r' ts es it o y h e q =
        or-cases (inner_gives c i loose r' ts es) (sends_through c (n ∷ (i ∷ [])) loose r' ts es) o
        (λ z. inner-give c loop i able.depths able.two table around result none outer-here x.1.edge j home all Good (λ a w d. w) k total r' ts es it z (λ a. y.0) h (at-j it h) e q)
        (λ z.
        let goes = told-sent out c n i loose total.key.statement r' ts es z y.1 in
        send-gives c its true false i loop m home off Good k total r' ts es it z h
        (λ a ys d. absurd (both_ways (are_sent_slots out total.key.statement (node_slots a ts)) d (sent-slots out c (n ∷ (i ∷ [])) loose total.key.statement r' ts es a goes z))) q)

    pub left-at : Has (turn x).fault all × Gives Good (turn x)
    left-at =
        turn-left c loop i able.outer able.inner able.two all key test body r gives Ready Good incl (loosen test able.found) fits x is_of.from_inside here-inside
        (parts-ready m) (typed x.0 x.1.node is_of.from_inside here-inside, able.told)
        (λ k total r' ts es it o y e h. reductions-left k total r' ts es it o y e h) (λ k total r' ts es it o y h e q. reductions-give k total r' ts es it o y h e q)

  -- what a handler's run has done
  abbrev kept : ℕ × Step → List Contribution
  kept x = filter (is_received out) (turn x).with_outermost

  pub ran : (x : ℕ × Step) → Is x → Ran c v all j (kept x) (turn x).fault (SentFor (suc kind) sends g out turn (x ∷ [])) (run x)
  ran x is_of =
      let e = run-ends x is_of in
      let t = left-at x is_of in
      record {
        fault = e.0;
        puts = e.1.puts;
        folds = e.1.folds;
        messages = subst (λ l. AreSent (suc kind) sends g (filter (is_sent out) l) (run x).state.messages) (sym (append-nil (turn x).with_outermost)) e.1.carried;
        spotted = t.0;
        received = λ y o. let w = IsIn-filter (is_received out) y (turn x).with_outermost o in t.1.outermost y w.0 (not-true (is_sent out y) w.1);
      }

  pub receives-sends : (xs : List (ℕ × Step)) → ((x : ℕ × Step) → IsIn x xs → Is x) → GivesApart (filter is_to_nodes (filter (is_received out) (given_by turn xs)))
      → ReceivesAndSends c v (suc kind) sends g out fields j r (given_by turn xs) (faults_by turn xs) (vertex_after p (receive_block c seg n i loads kind key test body) s (map message xs) fs)
  receives-sends xs h apart =
      let same = joined-filter (is_received out) (λ x. (turn x).with_outermost) xs in
      let t =
      takes c v p fields base all s hs fs j r message kept (λ x. (turn x).fault) (SentFor (suc kind) sends g out turn) (sent-joins (suc kind) sends g out turn) able.apart refl fit shows.properties shows.field_count xs (λ x z. ran x (h x z))
      (subst (λ l. GivesApart (filter is_to_nodes l)) (sym same) apart) in
      record {
        fault = t.fault ∙ ap (λ l. fault_or_none v (least (faults_by turn xs ++ total_faults r (filter is_to_nodes l)))) same;
        puts = t.puts ∙ ap (λ l. map (given c v) (filter is_to_scalars l)) same;
        carried = t.messages;
        properties = λ q o. t.properties q o ∙ ap (λ l. value_after r (filter is_to_nodes l) (slots.Node q j)) same;
        field_count = t.field_count;
      }

pub sending-receivers : SendingReceiversAreTurns
sending-receivers c p fields base all loop i loads out kind key test body globals fs j r xs message table around result able typed limit incl fit shows h apart =
    receives-sends c p fields base all loop i loads out kind key test body globals fs j r message table around result able typed limit incl fit shows xs h apart
