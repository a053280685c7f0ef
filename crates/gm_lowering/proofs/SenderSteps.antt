-- The step of a vertex whose each sends, along its edges or through node variables.
use Rattle.std.proofs.Common.{◌≡◌, ◌<◌, ◌≤◌, ◌⊎◌, inl, inr, ℕ, suc, Bool, true, false, Option, Some, None, Result, Ok, Err, List, [], ◌∷◌, ◌++◌, length, map, refl, ap, ◌∙◌, sym, subst, append_assoc, ⊎_elim, cond}
use Rattle.std.specs.Prelude.{◌&&◌, ◌||◌, nat_eq, nat_lt, if◌then◌else◌, take, filter}
use Rattle.std.specs.List.{list_all}
use Rattle.std.proofs.lemmas.Bool.{both_ways, ne_eqb, eq-eqb, eqb-true, eqb-false, ltb-true}
use Rattle.std.proofs.lemmas.List.{append-nil}
use Rattle.gm_base.specs.declared.places.Place.{Place}
use Rattle.gm_value.specs.declared.values.VType.{VType}
use Rattle.gm_value.specs.declared.values.Value.{Value}
use Rattle.gm_value.specs.declared.values.Value.TheVariants.{Flag, At}
use Rattle.gm_value.specs.declared.reductions.Reduce.{Reduce}
use Rattle.gm_value.specs.Bag.{IsIn}
use Rattle.gm_value.specs.Numbers.{zero_of}
use Rattle.gm_value.specs.Operations.{is_true}
use Rattle.gm_model.specs.Graphs.{NumberedGraph, Step, node_count}
use Rattle.gm_ast.specs.declared.tree.Domain.TheVariants.{OutNbrs, InNbrs}
use Rattle.gm_ast.specs.declared.tree.Head.{Head}
use Rattle.gm_ast.specs.declared.tree.Key.{Key}
use Rattle.gm_ast.specs.declared.tree.Target.{Target}
use Rattle.gm_ast.specs.declared.tree.TotalKey.{TotalKey}
use Rattle.gm_ast.specs.Program as P
use Rattle.gm_ast.specs.Program.{Expr, Stmt}
use Rattle.gm_ast.specs.Ways.{is_in}
use Rattle.gm_forms.proofs.Named.{both-true}
use Rattle.gm_semantics.specs.declared.faults.Fault.{Fault}
use Rattle.gm_semantics.specs.declared.slots.Slot.TheVariants as slots
use Rattle.gm_semantics.specs.Contributions.{Contribution, total_faults, value_after}
use Rattle.gm_semantics.specs.Expressions.{Answer, value, steps_in, steps_of}
use Rattle.gm_semantics.specs.Faults.{least, somes, joined}
use Rattle.gm_semantics.specs.Faults as F
use Rattle.gm_semantics.specs.Iterations.{Loop, Mode, Outermost, AtEdge, Iteration, begun, view_in, with_ok, one_way, as_it_is, inner_done, does}
use Rattle.gm_semantics.specs.Levels.{node_in}
use Rattle.gm_semantics.specs.Loops.{iteration}
use Rattle.gm_semantics.specs.Statements.{variable_at}
use Rattle.gm_semantics.specs.Stores.{Store, write}
use Rattle.gm_typed_stores.specs.Tells.{TypeTable}
use Rattle.gm_image.specs.Term as T
use Rattle.gm_image.specs.Term.{Term}
use Rattle.gm_image.specs.Program as image
use Rattle.gm_image.specs.Program.{Line}
use Rattle.gm_machine.specs.declared.faults.Fault as M
use Rattle.gm_machine.specs.Expressions.{value as term_value}
use Rattle.gm_machine.specs.Faults.{lesser, least_from}
use Rattle.gm_machine.specs.Machine.{context_at}
use Rattle.gm_machine.specs.Taking.{settled}
use Rattle.gm_machine.specs.Vertex.{VertexContext, VertexState, After, view, goes_on, line_ends, lines_after, turns_after, steps, ended, body_after, begun as begin, vertex_after, Message}
use Rattle.gm_machine.proofs.LeastLaws.{least_right, least_from-right}
use Rattle.gm_machine.proofs.SlotSteps.{settled-nothing}
use Rattle.gm_lowering.specs.Layouts.{Layout, is_register}
use Rattle.gm_lowering.specs.Places.{Spot, Segment, segment, spots_in, spots_in_all, spot_of_total}
use Rattle.gm_lowering.specs.Terms.{Env, term, own_env, each_env}
use Rattle.gm_lowering.specs.Plans.{loads_in, way_of, Away, aways}
use Rattle.gm_lowering.specs.Bodies.{under, spots_of, reduce_spots, target_spots}
use Rattle.gm_lowering.specs.Blocks.{direction_of, each_lines, own_site}
use Rattle.gm_lowering.specs.Showing.{fault_of, answer_of}
use Rattle.gm_lowering.specs.Sites.{are_of_scalars, given, finds, is_body, IsInGraph, HoldProperties, OwnGave, same_length}
use Rattle.gm_lowering.specs.OwnLoops.{own_finds, own_sets, puts_to_scalars, own_gives, IsOwnLoop, AreTyped, NodeShows, folds_to}
use Rattle.gm_lowering.specs.MessageLoops.{sets_nothing, receiver_gives, picks_inside, tuples_inside, inner_gives, TurnsAreTyped, is_to_scalars, is_to_nodes}
use Rattle.gm_lowering.specs.Phases.{EdgesShown}
use Rattle.gm_lowering.specs.Receiving.{turn_of}
use Rattle.gm_lowering.specs.TwoSupersteps.{IsInside, StepsWithin}
use Rattle.gm_lowering.specs.Settles.{HasSpot, fault_or_none, spot_of_fault}
use Rattle.gm_lowering.specs.HomeTurns.{is_at_edge, home_finds, home_lines, EdgeShows}
use Rattle.gm_lowering.specs.HomeSteps.{home_block, each_spots, given_inside, HasEach}
use Rattle.gm_lowering.specs.SenderTurns.{IsSenderLoop, SenderGave, SendingEnds}
use Rattle.gm_lowering.specs.Sent.{sends_through, AreSent, sender_gives}
use Rattle.gm_lowering.specs.SenderSteps.{SendsAs, SendingStepsAreIterations}
use Rattle.gm_lowering.proofs.Bodies.{value-of}
use Rattle.gm_lowering.proofs.FoldFacts.{body-weaker, fold-left, IsReceived, fold-gives}
use Rattle.gm_lowering.proofs.Orders.{lesser-lower}
use Rattle.gm_lowering.proofs.Own.{Shows, own-giving}
use Rattle.gm_lowering.proofs.OwnGives.{own-holds}
use Rattle.gm_lowering.proofs.Supersteps.{least-parts}
use Rattle.gm_lowering.proofs.OwnSteps.{body-alone, begins}
use Rattle.gm_lowering.proofs.PutFacts.{put-left, IsPut, put-gives-at}
use Rattle.gm_lowering.proofs.InnerPicks.{pick-left, pick-gives, keep-left, keep-gives}
use Rattle.gm_lowering.proofs.Picks.{parts-are}
use Rattle.gm_lowering.proofs.Receiving.{or-cases}
use Rattle.gm_lowering.proofs.Spots.{Has, HoldNodes, Left, Within, spot-left, has-right, reads, value-within, body-left, spot-right}
use Rattle.gm_lowering.proofs.Sent.{sends-way, sent-both}
use Rattle.gm_lowering.proofs.Sendings.{off-both, sent-of-nodes, sender-weaker, send-left, send-gives}
use Rattle.gm_lowering.proofs.SenderTurns.{sending-turns}
use Rattle.gm_lowering.proofs.Givens.{are_kept, node_slots, folds-way, node-in}
use Rattle.gm_lowering.proofs.Kept.{Gives, body-gives}
use Rattle.gm_lowering.proofs.Settles.{least-is}
use Rattle.gm_lowering.proofs.Regions.{in-parts}
use Rattle.gm_semantics.proofs.TargetLaws.{value-away}
use Rattle.gm_lowering.proofs.TupleFacts.{no-spares}

map-both : {A B : Type 0} (f : A → B) (xs ys : List A) → map f (xs ++ ys) ≡ map f xs ++ map f ys
map-both f [] ys = refl
map-both f (x ∷ xs) ys = ap (λ l. f x ∷ l) (map-both f xs ys)

filter-both : {A : Type 0} (t : A → Bool) (xs ys : List A) → filter t (xs ++ ys) ≡ filter t xs ++ filter t ys
filter-both t [] ys = refl
filter-both t (x ∷ xs) ys = by (t x) (filter-both t xs ys) where
  by : (b : Bool) → filter t (xs ++ ys) ≡ filter t xs ++ filter t ys → cond b (x ∷ filter t (xs ++ ys)) (filter t (xs ++ ys)) ≡ cond b (x ∷ filter t xs) (filter t xs) ++ filter t ys
  by true e = ap (λ l. x ∷ l) e
  by false e = e

take-all : {A : Type 0} (xs : List A) → take (length xs) xs ≡ xs
take-all [] = refl
take-all (x ∷ xs) = ap (λ l. x ∷ l) (take-all xs)

-- more spots
more-spots : (o : Option Fault) (xs ys : List Spot) → ((z : Spot) → HasSpot z xs → HasSpot z ys) → Has o xs → Has o ys
more-spots None xs ys h q = tt
more-spots (Some f) xs ys h q = h (spot_of_fault f) q

-- what the turns of an each sent, from a state and a fault on
record TurnsSent (c : Layout) (v : Env) (kind : ℕ) (as' : List Away) (g : NumberedGraph) (turns : List Iteration) (w : VertexState) (f : Option M.Fault) (a : After) : Type 0 where
  fault : a.fault ≡ least_from f (map (fault_or_none v) (map (λ t. t.fault) turns))
  puts : a.state.puts ≡ w.puts ++ map (given c v) (filter is_to_scalars (joined (map (λ t. t.with_outermost) turns)))
  folds : a.state.folds ≡ w.folds
  sent : List Message
  messages : a.state.messages ≡ w.messages ++ sent
  carried : AreSent kind as' g (filter is_to_nodes (joined (map (λ t. t.with_outermost) turns))) sent
  fields : a.state.fields ≡ w.fields
  inner : given_inside turns ≡ []
  deferred : joined (map (λ t. t.deferred) turns) ≡ []

module _ (c : Layout) (p : image.Program) (fields base : ℕ) (all : List Spot) (loop : Loop) (kind : ℕ) (mask_key : Key) (mask : Expr) (key : Key) (place : Place) (h : Head) (test : Expr) (body : Stmt)
    (globals fs : List Value) (k : ℕ) (r : Store) (table : TypeTable) (around : List ℕ) (result : Option VType)
    (outer : HasEach c loop mask h)
    (able : IsSenderLoop c p.registers fields loop h.iterator test body)
    (typed : TurnsAreTyped c table around result loop h.iterator body r)
    (limit : table.limit ≤ node_count loop.graph)
    (incl : (f : Spot) → HasSpot f (each_spots c loop.outer h.iterator key test body) → HasSpot f all)
    (shows : NodeShows c loop.graph p.registers fields globals fs k r)
    (edges : EdgesShown c loop.graph r)
    (within : StepsWithin loop.graph h.domain) where
  abbrev n : ℕ
  n = loop.outer

  abbrev i : ℕ
  i = h.iterator

  abbrev g : NumberedGraph
  g = loop.graph

  abbrev seg : Segment
  seg = segment base all

  abbrev v : Env
  v = each_env c seg n i

  abbrev ov : Env
  ov = own_env c seg n

  abbrev s : VertexContext
  s = context_at g globals k

  abbrev from : Store
  from = write r (slots.Scalar n) (At (Some k))

  abbrev first : VertexState
  first = begin p.registers fs

  abbrev sends : List Away
  sends = aways c.declarations n body

  abbrev turn : Step → Iteration
  turn e = turn_of loop i key test body r (k, e)

  abbrev lines : List Line
  lines = home_lines c seg n i kind key test body

  turned : (x y : ℕ) → nat_eq x y ≡ false → nat_eq y x ≡ false
  turned x y e = ne_eqb y x (λ z. eqb-false x y e (sym z))

  edge-shows : (e : Step) → IsInside g e → (w : VertexState) → length w.registers ≡ length p.registers → w.fields ≡ fs → EdgeShows c loop p.registers fields (record s { near = e }) w from
  edge-shows e lt w count same = record {
    graph = refl;
    scalar = λ x f l d o. shows.phase.scalar x l d o ∙ sym (ap (λ b. if b then At (Some k) else r.scalar x) (turned x n f));
    in_graph = λ x f l d. subst (IsInGraph g) (sym (ap (λ b. if b then At (Some k) else r.scalar x) (turned x n f))) (shows.phase.in_graph x l d);
    at_outer = ap (λ b. if b then At (Some k) else r.scalar n) (eq-eqb n n refl);
    locals = λ x o.
        let t = both-true (nat_lt x (length c.declarations)) (is_register (variable_at c.declarations x)) o in
        shows.locals x (ltb-true x (length c.declarations) t.0) t.1 ∙ sym (ap (λ b. if b then At (Some k) else r.scalar x) (unlike x t.1));
    properties = subst (λ z. HoldProperties c z k from) (sym same) shows.properties;
    edges = λ q l d. edges q e.edge l d lt.1;
    register_count = count;
    field_count = ap length same ∙ shows.field_count;
    inside = shows.inside;
    near_inside = lt.0;
  } where
    unlike : (x : ℕ) → is_register (variable_at c.declarations x) ≡ true → nat_eq n x ≡ false
    unlike x d = ne_eqb n x (λ z. both_ways (is_register (variable_at c.declarations x)) (ap (λ b. is_register (variable_at c.declarations b)) (sym z) ∙ able.outer) d)

  -- the turns one after the other
  abbrev one : Step → VertexState → After
  one e w = lines_after (record s { near = e }) lines 0 w

  one-ends : (e : Step) → IsInside g e → (w : VertexState) → length w.registers ≡ length p.registers → w.fields ≡ fs → SendingEnds c v kind sends g w (turn e) (one e w) (turn e).fault
  one-ends e lt w count same = sending-turns c seg p.registers fields loop i kind key test body (record s { near = e }) w from table around result able (typed k e.node shows.inside lt.0) limit (edge-shows e lt w count same)

  fault-part : (it : Iteration) (w : VertexState) (a : After) (o : Option Fault) → SendingEnds c v kind sends g w it a o → a.fault ≡ fault_or_none v o
  fault-part it w a None e = e.0
  fault-part it w a (Some f) e = e.0

  gave-part : (it : Iteration) (w : VertexState) (a : After) (o : Option Fault) → SendingEnds c v kind sends g w it a o → SenderGave c v kind sends g w it a.state
  gave-part it w a None e = e.1
  gave-part it w a (Some f) e = e.1

  turns-sent : (es : List Step) → ((e : Step) → IsIn e es → IsInside g e) → (w : VertexState) (f : Option M.Fault) → length w.registers ≡ length p.registers → w.fields ≡ fs
      → TurnsSent c v kind sends g (map turn es) w f (turns_after s lines es w f)
  turns-sent [] lt w f count same = record { fault = refl; puts = sym (append-nil w.puts); folds = refl; sent = []; messages = sym (append-nil w.messages); carried = tt; fields = refl; inner = refl; deferred = refl }
  turns-sent (e ∷ es) lt w f count same =
      let inside = lt e (inl refl) in
      let ending = one-ends e inside w count same in
      let gave = gave-part (turn e) w (one e w) (turn e).fault ending in
      let rest = turns-sent es (λ x q. lt x (inr q)) (one e w).state (lesser f (one e w).fault) (gave.count ∙ count) (gave.fields ∙ same) in
      let more = joined (map (λ t. t.with_outermost) (map turn es)) in
      record {
        fault = rest.fault ∙ ap (λ o. least_from (lesser f o) (map (fault_or_none v) (map (λ t. t.fault) (map turn es)))) (fault-part (turn e) w (one e w) (turn e).fault ending);
        puts =
            rest.puts ∙ ap (λ l. l ++ map (given c v) (filter is_to_scalars more)) gave.puts
            ∙ append_assoc w.puts (map (given c v) (filter is_to_scalars (turn e).with_outermost)) (map (given c v) (filter is_to_scalars more))
            ∙ ap (λ l. w.puts ++ l) (sym (map-both (given c v) (filter is_to_scalars (turn e).with_outermost) (filter is_to_scalars more)) ∙ ap (map (given c v)) (sym (filter-both is_to_scalars (turn e).with_outermost more)));
        folds = rest.folds ∙ gave.folds;
        sent = gave.sent ++ rest.sent;
        messages = rest.messages ∙ ap (λ l. l ++ rest.sent) gave.messages ∙ append_assoc w.messages gave.sent rest.sent;
        carried = subst (λ l. AreSent kind sends g l (gave.sent ++ rest.sent)) (sym (filter-both is_to_nodes (turn e).with_outermost more))
            (sent-both kind sends g (filter is_to_nodes (turn e).with_outermost) (filter is_to_nodes more) gave.sent rest.sent gave.carried rest.carried);
        fields = rest.fields ∙ gave.fields;
        inner = ap (λ l. l ++ given_inside (map turn es)) gave.inner ∙ rest.inner;
        deferred = ap (λ l. l ++ joined (map (λ t. t.deferred) (map turn es))) gave.deferred ∙ rest.deferred;
      }

  abbrev along : List Step
  along = steps (direction_of h.domain) g k

  abbrev turns : List Iteration
  turns = map turn along

  length-map : {A B : Type 0} (f : A → B) (xs : List A) → length (map f xs) ≡ length xs
  length-map f [] = refl
  length-map f (x ∷ xs) = ap suc (length-map f xs)

  abbrev whole : After
  whole = turns_after s lines along first None

  did : TurnsSent c v kind sends g turns first None whole
  did = turns-sent along (λ e q. within k e q) first None (length-map zero_of p.registers) refl

  -- spots of the turns
  abbrev its : List ℕ
  its = n ∷ i ∷ []

  abbrev loose : Expr → Bool
  loose = finds c its true

  loosen : (e : Expr) → home_finds c n i e ≡ true → loose e ≡ true
  loosen e o = (both-true (loose e) (list_all is_at_edge (loads_in i e)) o).0

  abbrev through : Reduce → List Target → List Expr → Bool
  through = sends_through c (n ∷ (i ∷ [])) loose

  fits : is_body c loose sets_nothing (sender_gives c n i loose) body ≡ true
  fits =
      body-weaker c (home_finds c n i) loose sets_nothing (sender_gives c n i (home_finds c n i)) (sender_gives c n i loose) loosen
      (λ r' ts es o. sender-weaker c n i (home_finds c n i) loose r' ts es loosen o)
      body able.fits

  off : (x : ℕ) → is_in its x ≡ false → (nat_eq x n ≡ false) × (nat_eq x n ≡ false)
  off x o = let t = off-both x n i o in (t.1, t.1)

  -- what turns give to scalars is put
  abbrev Good : Contribution → Type 0
  Good y = is_to_scalars y ≡ true → IsPut c all y

  put-good : (y : Contribution) → IsPut c all y → Good y
  put-good y w o = w

  received-good : (j : ℕ) (y : Contribution) → IsReceived c j all y → Good y
  received-good j y w o = record { here_all = w.scalars o; not_empty = w.not_empty; spotted = w.spotted }

  in-two : (x : ℕ) → is_in its x ≡ true → (x ≡ n) ⊎ (x ≡ i)
  in-two x o = by (nat_eq x n) (nat_eq x i) refl refl o where
    by : (a b : Bool) → nat_eq x n ≡ a → nat_eq x i ≡ b → a || (b || false) ≡ true → (x ≡ n) ⊎ (x ≡ i)
    by true b e f o = inl (eqb-true x n e)
    by false true e f o = inr (eqb-true x i f)
    by false false e f o = absurd (both_ways false refl o)

  no_locals : (x : ℕ) → is_in its x ≡ true → is_register (variable_at c.declarations x) ≡ false
  no_locals x o = ⊎_elim (λ (e : x ≡ n). ap (λ y. is_register (variable_at c.declarations y)) e ∙ able.outer) (λ (e : x ≡ i). ap (λ y. is_register (variable_at c.declarations y)) e ∙ able.inner) (in-two x o)

  module _ (e : Step) (lt : IsInside g e) where
    abbrev m : Mode
    m = AtEdge e.edge

    abbrev start : Iteration
    start = begun (write from (slots.Scalar i) (At (Some e.node)))

    abbrev Ready : Stmt → Iteration → Type 0
    Ready = AreTyped c table around result loop

    typed-start : Ready body start
    typed-start = typed k e.node shows.inside lt.0

    in-n : is_in its n ≡ true
    in-n = ap (λ b. b || (nat_eq n i || false)) (eq-eqb n n refl)

    abbrev home : ℕ → ℕ
    home y = if nat_eq i y then e.node else k

    holds : HoldNodes g its home start
    holds y o = ⊎_elim at_outer at_inner (in-two y o) where
      at_inner : y ≡ i → (start.store.scalar y ≡ At (Some (home y))) × (home y < node_count g)
      at_inner q =
          let same : nat_eq i y ≡ true = eq-eqb i y (sym q) in (
            ap (λ b. if b then At (Some e.node) else from.scalar y) same ∙ ap (λ z. At (Some z)) (sym (ap (λ b. if b then e.node else k) same)),
            subst (λ z. z < node_count g) (sym (ap (λ b. if b then e.node else k) same)) lt.0,
          )

      at_outer : y ≡ n → (start.store.scalar y ≡ At (Some (home y))) × (home y < node_count g)
      at_outer q =
          let other : nat_eq i y ≡ false = ap (nat_eq i) q ∙ able.two in (
            ap (λ b. if b then At (Some e.node) else from.scalar y) other ∙ ap (λ b. if b then At (Some k) else r.scalar y) (eq-eqb n y (sym q)) ∙ ap (λ z. At (Some z)) (sym (ap (λ b. if b then e.node else k) other)),
            subst (λ z. z < node_count g) (sym (ap (λ b. if b then e.node else k) other)) shows.inside,
          )

    at-j : (it : Iteration) → HoldNodes g its home it → node_in g (it.store.scalar i) ≡ Some e.node
    at-j it q = ap (node_in g) ((q i in-i).0 ∙ ap (λ b. At (Some (if b then e.node else k))) (eq-eqb i i refl)) ∙ node-in g e.node lt.0 where
      in-i : is_in its i ≡ true
      in-i = ap (λ b. b || (nat_eq i i || false)) able.two ∙ ap (λ b. b || false) (eq-eqb i i refl)

    abbrev body_spots : List Spot
    body_spots = spots_of c n its false body

    -- the total is among the spots of a reduction at either node
    total-there : (j : Key) (total : TotalKey) (t : Target) (ts : List Target) (es : List Expr) → are_kept c i (t ∷ ts) ≡ true → (z : Spot)
        → HasSpot z (spots_in_all es j ++ reduce_spots false its (way_of c.declarations i (t ∷ ts)) j total (t ∷ ts)) → HasSpot z (spots_in_all es j ++ reduce_spots false its (way_of c.declarations n (t ∷ ts)) j total (t ∷ ts))
    total-there j total t ts es x z q =
        subst (λ w. HasSpot z (spots_in_all es j ++ reduce_spots false its w j total (t ∷ ts))) (sym (sends-way c n i t ts able.two x))
        (either (spots_in_all es j) (subst (λ w. HasSpot z (spots_in_all es j ++ reduce_spots false its w j total (t ∷ ts))) (folds-way c i t ts x) q)) where
          either : (xs : List Spot) → HasSpot z (xs ++ spot_of_total total ∷ []) → HasSpot z (xs ++ spot_of_total total ∷ target_spots its j (t ∷ ts))
          either [] q = ⊎_elim (λ (e : spot_of_total total ≡ z). inl e) (λ (w : ⊥). absurd w) q
          either (y ∷ ys) q = ⊎_elim (λ (e : y ≡ z). inl e) (λ (w : HasSpot z (ys ++ spot_of_total total ∷ [])). inr (either ys w)) q

    ended-left : (j : Key) (total : TotalKey) (r' : Reduce) (ts : List Target) (es : List Expr) (it : Iteration) → receiver_gives c i loose r' ts es ≡ true → it.fault ≡ None → HoldNodes g its home it
        → Left c its true loop m home (does (P.Combine j total r' ts es) m loop it) (spots_in_all es j ++ reduce_spots false its (way_of c.declarations n ts) j total ts)
    ended-left j total r' [] es it o f q = absurd (both_ways false refl o)
    ended-left j total r' (t ∷ ts) es it o f q =
        or-cases (puts_to_scalars c loose r' (t ∷ ts) es) (folds_to c i loose r' (t ∷ ts) es) o
        (λ z. put-left c its true false n loop m home able.depths j total r' (t ∷ ts) es it z f q)
        (λ z.
        let x = both-true (are_kept c i (t ∷ ts)) (same_length (t ∷ ts) es && list_all loose es) z in
        let l = fold-left c its true i e.node loop m home able.two j total r' (t ∷ ts) es it z f q (at-j it q) in (
          more-spots (does (P.Combine j total r' (t ∷ ts) es) m loop it).fault (spots_in_all es j ++ reduce_spots false its (way_of c.declarations i (t ∷ ts)) j total (t ∷ ts)) (spots_in_all es j ++ reduce_spots false its (way_of c.declarations n (t ∷ ts)) j total (t ∷ ts))
              (total-there j total t ts es x.0) l.0,
          l.1,
        ))

    reductions-left : (j : Key) (total : TotalKey) (r' : Reduce) (ts : List Target) (es : List Expr) (it : Iteration) → sender_gives c n i loose r' ts es ≡ true → Ready (P.Combine j total r' ts es) it → it.fault ≡ None → HoldNodes g its home it
        → Left c its true loop m home (does (P.Combine j total r' ts es) m loop it) (spots_in_all es j ++ reduce_spots false its (way_of c.declarations n ts) j total ts)
    reductions-left j total r' ts es it o y f q =
        or-cases (inner_gives c i loose r' ts es) (through r' ts es) o
        (λ x.
        or-cases (receiver_gives c i loose r' ts es) (picks_inside c loose r' ts es || tuples_inside c loose r' ts es) x (λ z. ended-left j total r' ts es it z f q) (λ p'.
        or-cases (picks_inside c loose r' ts es) (tuples_inside c loose r' ts es) p'
        (λ z. pick-left c its n loop e.edge home able.depths no_locals table around result j total r' ts es it z (λ a. y) f q)
        (λ z. keep-left c its n loop e.edge home able.depths no_locals table around result in-n j total r' ts es it z (λ a. y) f q)))
        (λ x. send-left c its true false n loop m home off j total r' ts es it x f q)

    left-body : (st : Stmt) → is_body c loose sets_nothing (sender_gives c n i loose) st ≡ true → (it : Iteration) → Ready st it → it.fault ≡ None → HoldNodes g its home it
        → Left c its true loop m home (does st m loop it) (spots_of c n its false st)
    left-body st o it y f q =
        body-left c its true loop m home n false sets_nothing (sender_gives c n i loose) Ready (parts-are c table around result loop m) no_locals (λ y' z o'. absurd (both_ways false refl o'))
        (λ j' total r' ts es it' o' y' f' q'. reductions-left j' total r' ts es it' o' y' f' q') st o it y f q

    -- what is given at the neighbour has its total there
    total-in : (j : Key) (total : TotalKey) (t : Target) (ts : List Target) → are_kept c i (t ∷ ts) ≡ true → ((f : Spot) → HasSpot f (reduce_spots false its (way_of c.declarations n (t ∷ ts)) j total (t ∷ ts)) → HasSpot f all)
        → (f : Spot) → HasSpot f (reduce_spots false its (way_of c.declarations i (t ∷ ts)) j total (t ∷ ts)) → HasSpot f all
    total-in j total t ts x incl' f q =
        incl' f (subst (λ w. HasSpot f (reduce_spots false its w j total (t ∷ ts))) (sym (sends-way c n i t ts able.two x))
        (⊎_elim (λ (e : spot_of_total total ≡ f). inl e) (λ (w : ⊥). absurd w) (subst (λ w. HasSpot f (reduce_spots false its w j total (t ∷ ts))) (folds-way c i t ts x) q)))

    ended-give : (j : Key) (total : TotalKey) (r' : Reduce) (ts : List Target) (es : List Expr) (it : Iteration) → receiver_gives c i loose r' ts es ≡ true → HoldNodes g its home it
        → ((f : Spot) → HasSpot f (reduce_spots false its (way_of c.declarations n ts) j total ts) → HasSpot f all)
        → Gives Good it → Gives Good (does (P.Combine j total r' ts es) m loop it)
    ended-give j total r' [] es it o q f a = absurd (both_ways false refl o)
    ended-give j total r' (t ∷ ts) es it o q f a =
        or-cases (puts_to_scalars c loose r' (t ∷ ts) es) (folds_to c i loose r' (t ∷ ts) es) o
        (λ z. put-gives-at c its true false n loop m home able.depths all Good put-good j total r' (t ∷ ts) es it z q f a)
        (λ z. fold-gives c its true i e.node loop m home able.two all Good (received-good e.node) j total r' (t ∷ ts) es it z q (at-j it q) (total-in j total t ts (both-true (are_kept c i (t ∷ ts)) (same_length (t ∷ ts) es && list_all loose es) z).0 f) a)

    reductions-give : (j : Key) (total : TotalKey) (r' : Reduce) (ts : List Target) (es : List Expr) (it : Iteration) → sender_gives c n i loose r' ts es ≡ true → Ready (P.Combine j total r' ts es) it → HoldNodes g its home it
        → ((f : Spot) → HasSpot f (reduce_spots false its (way_of c.declarations n ts) j total ts) → HasSpot f all)
        → Gives Good it → Gives Good (does (P.Combine j total r' ts es) m loop it)
    reductions-give j total r' ts es it o y q f a =
        or-cases (inner_gives c i loose r' ts es) (through r' ts es) o
        (λ x.
        or-cases (receiver_gives c i loose r' ts es) (picks_inside c loose r' ts es || tuples_inside c loose r' ts es) x (λ z. ended-give j total r' ts es it z q f a) (λ p'.
        or-cases (picks_inside c loose r' ts es) (tuples_inside c loose r' ts es) p'
        (λ z. pick-gives c its n loop e.edge home able.depths no_locals table around result Good j total r' ts es it z (λ d. y) q a)
        (λ z. keep-gives c its n loop e.edge home able.depths no_locals table around result in-n Good j total r' ts es it z (λ d. y) q a)))
        (λ x. send-gives c its true false n loop m home off Good j total r' ts es it x q (λ y' ys d. absurd (both_ways (are_of_scalars (node_slots y' ts)) (sent-of-nodes c its loose r' ts es y' x) d)) a)

    give-body : (it : Iteration) → Ready body it → it.fault ≡ None → HoldNodes g its home it → Gives Good it → Gives Good (does body m loop it)
    give-body it y f q a =
        body-gives c n its false loop m loose sets_nothing (sender_gives c n i loose) Good all (HoldNodes g its home) Ready (parts-are c table around result loop m)
        (λ st o it' y' f' q'. (left-body st o it' y' f' q').1)
        (λ j total r' ts es it' o y' q' f' a'. reductions-give j total r' ts es it' o y' q' f' a')
        body fits (λ f' z. incl f' (spot-right f' (spots_in test key) body_spots z)) it y f q a

    turn-gives : Gives Good (turn e)
    turn-gives = by (value test (view_in loop m start key)) where
      nothing : Gives Good start
      nothing = record { outermost = λ y z. absurd z; inner = λ y z. absurd z }

      way : (b : Bool) → Gives Good (one_way b (does body m loop) as_it_is start)
      way true = give-body start typed-start refl holds nothing
      way false = nothing

      by : (a : Result Value Fault) → Gives Good (with_ok start a (λ z. one_way (is_true z) (does body m loop) as_it_is start))
      by (Ok z) = way (is_true z)
      by (Err f) = record { outermost = λ y z. absurd z; inner = λ y z. absurd z }

    has-all : (o : Option Fault) → Has o (each_spots c n i key test body) → Has o all
    has-all None q = tt
    has-all (Some f) q = incl (spot_of_fault f) q

    turn-left : Has (turn e).fault all
    turn-left = by (value test (view_in loop m start key)) (value-within (view_in loop m start key) test refl (reads c its true loop m home start key test (loosen test able.found) holds)) where
      way : (b : Bool) → Has (one_way b (does body m loop) as_it_is start).fault all
      way true = has-all (does body m loop start).fault (has-right (does body m loop start).fault (spots_in test key) body_spots (left-body body fits start typed-start refl holds).0)
      way false = tt

      by : (a : Result Value Fault) → Within a (spots_in test key) → Has (with_ok start a (λ z. one_way (is_true z) (does body m loop) as_it_is start)).fault all
      by (Ok z) w = way (is_true z)
      by (Err f) w = incl (spot_of_fault f) (spot-left (spot_of_fault f) (spots_in test key) body_spots w)

  fault-spots : (es : List Step) → ((e : Step) → IsIn e es → IsInside g e) → (f : Fault) → IsIn f (somes (map (λ t. t.fault) (map turn es))) → HasSpot (spot_of_fault f) all
  fault-spots [] lt f z = absurd z
  fault-spots (e ∷ es) lt f z = by (turn e).fault (turn-left e (lt e (inl refl))) (λ w. fault-spots es (λ a b. lt a (inr b)) f w) z where
    by : (o : Option Fault) → Has o all → (IsIn f (somes (map (λ t. t.fault) (map turn es))) → HasSpot (spot_of_fault f) all) → IsIn f (somes (o ∷ map (λ t. t.fault) (map turn es))) → HasSpot (spot_of_fault f) all
    by None q next z = next z
    by (Some a) q next z = ⊎_elim (λ (x : f ≡ a). subst (λ b. HasSpot (spot_of_fault b) all) (sym x) q) (λ (w : IsIn f (somes (map (λ t. t.fault) (map turn es)))). next w) z

  -- what turns give to scalars
  put-in : (es : List Step) → ((e : Step) → IsIn e es → IsInside g e) → (y : Contribution) → is_to_scalars y ≡ true → IsIn y (joined (map (λ t. t.with_outermost) (map turn es))) → IsPut c all y
  put-in [] lt y o z = absurd z
  put-in (e ∷ es) lt y o z =
      ⊎_elim
      (λ (w : IsIn y (turn e).with_outermost). (turn-gives e (lt e (inl refl))).outermost y w o)
      (λ (w : IsIn y (joined (map (λ t. t.with_outermost) (map turn es)))). put-in es (λ a b. lt a (inr b)) y o w)
      (in-parts y (turn e).with_outermost (joined (map (λ t. t.with_outermost) (map turn es))) z)

  low : (f d : Fault) → HasSpot (spot_of_fault f) all → HasSpot (spot_of_fault d) all → lesser (Some (fault_of v f)) (Some (fault_of v d)) ≡ Some (fault_of v (F.lower f d))
  low f d a b = lesser-lower v base all refl f d a b

  -- the each, and what it leaves
  past-all : (ls : List Line) (w : VertexState) → body_after (length p.places) s ls (length ls) w ≡ record { state = w; fault = None; skip = 0 }
  past-all [] w = refl
  past-all (l ∷ ls) w = past-all ls w

  ends : (w : VertexState) (f : Option M.Fault) → goes_on (ended w f (length lines)) (λ j u. body_after (length p.places) s lines j u) ≡ record { state = w; fault = f; skip = 0 }
  ends w None = past-all lines w
  ends w (Some f) = refl

  abbrev each_block : List Line
  each_block = each_lines h.domain lines

  abbrev done_by : List Line → After
  done_by ls =
      let a = turns_after s ls along first None in
      let taken = settled (length p.places) a.state.folds a.state.fields in
      goes_on (ended (record (a.state) { folds = []; fields = taken.values }) (lesser a.fault taken.fault) (length lines)) (λ j u. body_after (length p.places) s lines j u)

  abbrev left_state : VertexState
  left_state = record (whole.state) { folds = []; fields = fs }

  nothing-taken : settled (length p.places) whole.state.folds whole.state.fields ≡ record { values = fs; fault = None }
  nothing-taken = ap (λ ds. settled (length p.places) ds whole.state.fields) did.folds ∙ ap (settled (length p.places) []) did.fields ∙ settled-nothing (length p.places) fs

  each-is : body_after (length p.places) s each_block 0 first ≡ record { state = left_state; fault = lesser whole.fault None; skip = 0 }
  each-is =
      ap done_by (take-all lines)
      ∙ ap (λ t. goes_on (ended (record (whole.state) { folds = []; fields = t.values }) (lesser whole.fault t.fault) (length lines)) (λ j u. body_after (length p.places) s lines j u)) nothing-taken
      ∙ ends left_state (lesser whole.fault None)

  abbrev begun_at : Iteration
  begun_at = begun from

  abbrev out : Iteration
  out = inner_done begun_at turns

  -- the inner loop is these turns
  steps-are : steps_in (view_in loop Outermost begun_at key) h ≡ along
  steps-are =
      ap (λ y. steps_of (view_in loop Outermost begun_at key) h.domain (node_in g (from.scalar y))) outer.owner
      ∙ ap (λ a. steps_of (view_in loop Outermost begun_at key) h.domain (node_in g a)) (ap (λ b. if b then At (Some k) else r.scalar n) (eq-eqb n n refl))
      ∙ ap (steps_of (view_in loop Outermost begun_at key) h.domain) (node-in g k shows.inside)
      ∙ ⊎_elim
      (λ (e : h.domain ≡ OutNbrs). ap (λ d. steps_of (view_in loop Outermost begun_at key) d (Some k)) e ∙ sym (ap (λ d. steps (direction_of d) g k) e))
      (λ (e : h.domain ≡ InNbrs). ap (λ d. steps_of (view_in loop Outermost begun_at key) d (Some k)) e ∙ sym (ap (λ d. steps (direction_of d) g k) e))
      outer.neighbours

  abbrev inner : Stmt
  inner = P.Foreach key place h test body

  inner-is : does inner Outermost loop begun_at ≡ out
  inner-is = ap (λ es. inner_done begun_at (map turn es)) steps-are

  abbrev run : List Line → After
  run ls = body_after (length p.places) s ls 0 first

  abbrev As : Iteration → After → Type 0
  As it a = SendsAs c ov kind sends g fs r it a

  fault-is : lesser whole.fault None ≡ fault_or_none v out.fault
  fault-is =
      ap (λ o. lesser o None)
      (did.fault ∙ least_from-right None (map (fault_or_none v) (map (λ t. t.fault) turns)) ∙ none-first (least_right (map (fault_or_none v) (map (λ t. t.fault) turns)))
      ∙ least-parts v all low (map (λ t. t.fault) turns) (λ f z. fault-spots along (λ e q. within k e q) f z))
      ∙ none-last (least (somes (map (λ t. t.fault) turns)))
      ∙ ap (λ l. fault_or_none v (least l)) (sym (append-nil (somes (map (λ t. t.fault) turns))))
      ∙ ap (λ cs. fault_or_none v (least (somes (map (λ t. t.fault) turns) ++ total_faults from cs))) (sym did.inner) where
        none-first : (o : Option M.Fault) → lesser None o ≡ o
        none-first o = refl

        none-last : (o : Option Fault) → lesser (fault_or_none v o) None ≡ fault_or_none v o
        none-last None = refl
        none-last (Some f) = refl

  each-sends : As out (record { state = left_state; fault = lesser whole.fault None; skip = 0 })
  each-sends = record {
    fault = fault-is;
    puts = did.puts;
    carried = subst (AreSent kind sends g (filter is_to_nodes (joined (map (λ t. t.with_outermost) turns)))) (sym did.messages) did.carried;
    fields_are = refl;
    node = λ y m. ap (λ cs. value_after from cs (slots.Node y m)) did.inner ∙ value-away from (slots.Node y m) [] (λ x q. absurd q);
    deferred = refl;
  }

  taken-way : As (does inner Outermost loop begun_at) (run each_block)
  taken-way = subst (λ it. As it (run each_block)) (sym inner-is) (subst (As out) (sym each-is) each-sends)

  stays : As begun_at (record { state = first; fault = None; skip = 0 })
  stays = record { fault = refl; puts = refl; carried = tt; fields_are = refl; node = λ y m. refl; deferred = refl }

  -- under the mask
  abbrev answered : Answer → Iteration
  answered a = with_ok begun_at a (λ z. one_way (is_true z) (does inner Outermost loop) as_it_is begun_at)

  always : (a : Answer) → Ok (Flag true) ≡ answer_of ov a → As (answered a) (run each_block)
  always (Ok z) e = by (is_true z) (ap truth e) where
    truth : Result Value M.Fault → Bool
    truth (Ok y) = is_true y
    truth (Err f) = true

    by : (b : Bool) → true ≡ b → As (one_way b (does inner Outermost loop) as_it_is begun_at) (run each_block)
    by true o = taken-way
    by false o = absurd (both_ways false refl (sym o))
  always (Err f) e = absurd (both_ways false refl (ap is_err e)) where
    is_err : Result Value M.Fault → Bool
    is_err (Ok y) = false
    is_err (Err d) = true

  skip-is : (t : Term) (a : Result Value M.Fault) → term_value (view s first) t ≡ a
      → run (image.Skip (length each_block) t ∷ each_block) ≡ goes_on (line_ends first a (λ z. record { state = first; fault = None; skip = if is_true z then 0 else length each_block })) (λ j u. body_after (length p.places) s each_block j u)
  skip-is t a e = ap (λ x. goes_on (line_ends first x (λ z. record { state = first; fault = None; skip = if is_true z then 0 else length each_block })) (λ j u. body_after (length p.places) s each_block j u)) e

  head : (t : Term) (a : Answer) → term_value (view s first) t ≡ answer_of ov a → As (answered a) (run (image.Skip (length each_block) t ∷ each_block))
  head t (Ok z) e = subst (As (answered (Ok z))) (sym (skip-is t (Ok z) e)) (by (is_true z)) where
    by : (b : Bool) → As (one_way b (does inner Outermost loop) as_it_is begun_at) (body_after (length p.places) s each_block (if b then 0 else length each_block) first)
    by true = taken-way
    by false = subst (As begun_at) (sym (past-all each_block first)) stays
  head t (Err f) e =
      subst (As (answered (Err f))) (sym (skip-is t (Err (fault_of ov f)) e))
      (record { fault = refl; puts = refl; carried = tt; fields_are = refl; node = λ y m. refl; deferred = refl })

  under-mask : (t : Term) (a : Answer) → term_value (view s first) t ≡ answer_of ov a → As (answered a) (run (under t each_block))
  under-mask (T.Const (Flag true)) a e = always a e
  under-mask t a e = head t a e

  -- the mask is an own loop's filter
  mask-loop : IsOwnLoop c p.registers fields loop mask P.Skip
  mask-loop = record { apart = able.apart; iterator = able.outer; types = able.types; depths = able.depths; found = outer.found; fits = refl; spares = no-spares c (length p.registers) }

  mask-value : term_value (view s first) (term ov mask_key mask) ≡ answer_of ov (value mask (view_in loop Outermost begun_at mask_key))
  mask-value =
      value-of (own_site c seg n) loop Outermost s (body_after (length p.places) s)
      (Shows c seg loop k (length p.registers) fields (length p.places) s able.apart able.outer able.types able.depths (λ it' w'. OwnGave c ov it' w') (own-giving c ov)) (OwnGave c ov) (own_finds c n) (own_sets c n) (own_gives c n (own_finds c n))
      (own-holds c seg loop k (length p.registers) fields (length p.places) s able.apart able.outer able.types able.depths (λ it' w'. OwnGave c ov it' w') (own-giving c ov) (record { limit = 0; declarations = []; inputs = 0 }) [] None) begun_at first mask_key mask outer.found
      (begins c seg p fields loop kind mask_key mask P.Skip globals fs k r mask-loop shows)

  pub sending-step : As (iteration loop mask_key mask inner r k) (vertex_after p (home_block c seg n kind mask_key mask h key test body) s [] fs)
  sending-step =
      subst (As (iteration loop mask_key mask inner r k)) (sym (body-alone p s (under (term ov mask_key mask) each_block) fs))
      (under-mask (term ov mask_key mask) (value mask (view_in loop Outermost begun_at mask_key)) mask-value)

  -- an iteration's fault is among the spots, and what it gives to scalars is put
  abbrev pub Spotted : Iteration → Type 0
  Spotted it = Has it.fault all × ((y : Contribution) → is_to_scalars y ≡ true → IsIn y it.with_outermost → IsPut c all y)

  starts : HoldNodes g (n ∷ []) (λ x. k) begun_at
  starts x o = (ap (λ b. if b then At (Some k) else r.scalar x) (eq-eqb n x (sym (eqb-true x n (or-none (nat_eq x n) o)))), shows.inside) where
    or-none : (b : Bool) → b || false ≡ true → b ≡ true
    or-none true q = refl
    or-none false q = q

  out-has : (o : Option Fault) → out.fault ≡ o → Has o all
  out-has None e = tt
  out-has (Some f) e =
      fault-spots along (λ x q. within k x q) f
      (least-is (somes (map (λ t. t.fault) turns)) f (ap least (sym (append-nil (somes (map (λ t. t.fault) turns)))) ∙ ap (λ cs. least (somes (map (λ t. t.fault) turns) ++ total_faults from cs)) (sym did.inner) ∙ e)).is_in

  pub iteration-spotted : ((f : Spot) → HasSpot f (spots_in mask mask_key) → HasSpot f all) → Spotted (iteration loop mask_key mask inner r k)
  iteration-spotted masks = by (value mask (view_in loop Outermost begun_at mask_key)) (value-within (view_in loop Outermost begun_at mask_key) mask refl (reads c (n ∷ []) false loop Outermost (λ x. k) begun_at mask_key mask outer.found starts)) where
    way : (b : Bool) → Spotted (one_way b (does inner Outermost loop) as_it_is begun_at)
    way true = subst Spotted (sym inner-is) (out-has out.fault refl, λ y o z. put-in along (λ x q. within k x q) y o z)
    way false = (tt, λ y o z. absurd z)

    by : (a : Answer) → Within a (spots_in mask mask_key) → Spotted (answered a)
    by (Ok z) w = way (is_true z)
    by (Err f) w = (masks (spot_of_fault f) w, λ y o z. absurd z)

pub sending-steps : SendingStepsAreIterations
sending-steps c p fields base all loop kind mask_key mask key place h test body globals fs k r table around result outer able typed limit incl shows edges within =
    sending-step c p fields base all loop kind mask_key mask key place h test body globals fs k r table around result outer able typed limit incl shows edges within
