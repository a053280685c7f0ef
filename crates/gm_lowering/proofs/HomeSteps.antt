-- The step of a vertex with a home loop's block is the loop's iteration.
use Rattle.std.proofs.Common.{◌≡◌, ◌<◌, ◌⊎◌, inl, inr, ℕ, suc, Bool, true, false, Option, Some, None, Result, Ok, Err, List, [], ◌∷◌, ◌++◌, length, map, refl, ap, ◌∙◌, sym, subst, append_assoc, ⊎_elim}
use Rattle.std.specs.Prelude.{◌&&◌, ◌||◌, nat_eq, nat_lt, not, if◌then◌else◌, take}
use Rattle.std.specs.List.{list_all}
use Rattle.std.proofs.lemmas.Bool.{both_ways, ne_eqb, eq-eqb, eqb-true, eqb-false, ltb-true}
use Rattle.std.proofs.lemmas.List.{append-nil}
use Rattle.gm_base.specs.declared.places.Place.{Place}
use Rattle.gm_value.specs.declared.values.VType.{VType}
use Rattle.gm_value.specs.declared.values.Value.{Value}
use Rattle.gm_value.specs.declared.values.Value.TheVariants.{Flag, At}
use Rattle.gm_value.specs.declared.reductions.Reduce.{Reduce}
use Rattle.gm_value.specs.Bag.{IsIn}
use Rattle.gm_value.specs.Numbers.{zero_of}
use Rattle.gm_value.specs.Operations.{is_true}
use Rattle.gm_model.specs.Graphs.{NumberedGraph, Step, node_count}
use Rattle.gm_ast.specs.declared.tree.Domain.TheVariants.{OutNbrs, InNbrs}
use Rattle.gm_ast.specs.declared.tree.Head.{Head}
use Rattle.gm_ast.specs.declared.tree.Key.{Key}
use Rattle.gm_ast.specs.declared.tree.Target.{Target}
use Rattle.gm_ast.specs.declared.tree.TotalKey.{TotalKey}
use Rattle.gm_ast.specs.Program as P
use Rattle.gm_ast.specs.Program.{Expr, Stmt}
use Rattle.gm_ast.specs.Ways.{is_in}
use Rattle.gm_forms.proofs.Named.{both-true}
use Rattle.gm_semantics.specs.declared.faults.Fault.{Fault}
use Rattle.gm_semantics.specs.declared.slots.Slot.{Slot}
use Rattle.gm_semantics.specs.declared.slots.Slot.TheVariants as slots
use Rattle.gm_semantics.specs.Contributions.{Contribution, total_faults}
use Rattle.gm_semantics.specs.Expressions.{Answer, value, steps_in, steps_of}
use Rattle.gm_semantics.specs.Faults.{least, somes, joined}
use Rattle.gm_semantics.specs.Faults as F
use Rattle.gm_semantics.specs.Iterations.{Loop, Mode, Outermost, AtEdge, Iteration, begun, view_in, with_ok, one_way, as_it_is, inner_done, does}
use Rattle.gm_semantics.specs.Levels.{node_in}
use Rattle.gm_semantics.specs.Loops.{iteration}
use Rattle.gm_semantics.specs.Statements.{variable_at}
use Rattle.gm_semantics.specs.Stores.{Store, read, write}
use Rattle.gm_typed_stores.specs.Tells.{TypeTable}
use Rattle.gm_image.specs.Term as T
use Rattle.gm_image.specs.Term.{Term}
use Rattle.gm_image.specs.Program as image
use Rattle.gm_image.specs.Program.{Line}
use Rattle.gm_machine.specs.declared.faults.Fault as M
use Rattle.gm_machine.specs.Expressions.{value as term_value, value_at}
use Rattle.gm_machine.specs.Faults.{lesser, least_from}
use Rattle.gm_machine.specs.Machine.{context_at}
use Rattle.gm_machine.specs.Taking.{settled}
use Rattle.gm_machine.specs.Vertex.{VertexContext, VertexState, After, view, goes_on, line_ends, lines_after, turns_after, steps, ended, body_after, begun as begin, vertex_after}
use Rattle.gm_machine.proofs.LeastLaws.{least_right, least_from-right}
use Rattle.gm_lowering.specs.Layouts.{Layout, is_register}
use Rattle.gm_lowering.specs.Places.{Spot, Segment, segment, spots_in, spots_in_all}
use Rattle.gm_lowering.specs.Terms.{Env, term, own_env, each_env}
use Rattle.gm_lowering.specs.Plans.{loads_in, way_of}
use Rattle.gm_lowering.specs.Bodies.{under, spots_of, reduce_spots}
use Rattle.gm_lowering.specs.Blocks.{direction_of, each_lines, own_site}
use Rattle.gm_lowering.specs.Showing.{fault_of, answer_of}
use Rattle.gm_lowering.specs.Sites.{slot_at, given, finds, is_body, IsInGraph, HoldProperties, OwnGave}
use Rattle.gm_lowering.specs.OwnLoops.{own_finds, own_sets, puts_to_scalars, own_gives, IsOwnLoop, NodeShows, StepEnds, folds_to}
use Rattle.gm_lowering.specs.MessageLoops.{sets_nothing, receiver_gives, picks_inside, tuples_inside, inner_gives, TurnsTyped, is_to_scalars, is_to_nodes}
use Rattle.gm_lowering.specs.Phases.{EdgesShown, GivesApart}
use Rattle.gm_lowering.specs.Receiving.{turn_of}
use Rattle.gm_lowering.specs.TwoSupersteps.{IsInside, StepsWithin}
use Rattle.gm_lowering.specs.Settles.{HasSpot, fault_or_none, AreHeld, AreGiven, SettlesAlike, spot_of_fault, HaveRoom}
use Rattle.gm_lowering.specs.HomeTurns.{is_at_edge, home_finds, home_lines, IsHomeLoop, HomeGave, EdgeShows, TurnEnds}
use Rattle.gm_lowering.specs.HomeSteps.{home_block, each_spots, home_turns, given_inside, HasEach, HomeStepsAreIterations}
use Rattle.gm_lowering.proofs.Bodies.{value-of}
use Rattle.gm_lowering.proofs.FoldFacts.{IsReceived, put-received, body-weaker}
use Rattle.gm_lowering.proofs.Givens.{here_at, node-in}
use Rattle.gm_lowering.proofs.HomeFacts.{fold-left, fold-gives}
use Rattle.gm_lowering.proofs.HomeTurns.{each-turns}
use Rattle.gm_lowering.proofs.InnerPicks.{pick-left, pick-gives, keep-left, keep-gives}
use Rattle.gm_lowering.proofs.Kept.{Gives, body-gives}
use Rattle.gm_lowering.proofs.Orders.{lesser-lower}
use Rattle.gm_lowering.proofs.Own.{Shows, own-giving}
use Rattle.gm_lowering.proofs.OwnGives.{own-holds}
use Rattle.gm_lowering.proofs.Supersteps.{least-parts, least-two}
use Rattle.gm_lowering.proofs.OwnSteps.{body-alone, begins}
use Rattle.gm_lowering.proofs.PutFacts.{IsPut, put-left, put-gives-at}
use Rattle.gm_lowering.proofs.Picks.{Typed, parts-typed}
use Rattle.gm_lowering.proofs.Receiving.{or-cases, inner-weaker}
use Rattle.gm_lowering.proofs.Settles.{least-is, total-spot, reductions-settle}
use Rattle.gm_lowering.proofs.Spots.{Has, HoldNodes, Left, Within, spot-left, spot-right, has-right, reads, value-within, body-left}
use Rattle.gm_lowering.proofs.TupleFacts.{no-spares}

map-both : {A B : Type 0} (f : A → B) (xs ys : List A) → map f (xs ++ ys) ≡ map f xs ++ map f ys
map-both f [] ys = refl
map-both f (x ∷ xs) ys = ap (λ l. f x ∷ l) (map-both f xs ys)

all-both : {A : Type 0} (p : A → Bool) (xs ys : List A) → list_all p xs ≡ true → list_all p ys ≡ true → list_all p (xs ++ ys) ≡ true
all-both p [] ys h k = k
all-both p (x ∷ xs) ys h k = let q = both-true (p x) (list_all p xs) h in ap (λ b. b && list_all p (xs ++ ys)) q.0 ∙ all-both p xs ys q.1 k

take-all : {A : Type 0} (xs : List A) → take (length xs) xs ≡ xs
take-all [] = refl
take-all (x ∷ xs) = ap (λ l. x ∷ l) (take-all xs)

-- what the turns of an each gave, from a state and a fault on
record TurnsGave (c : Layout) (v : Env) (turns : List Iteration) (w : VertexState) (f : Option M.Fault) (a : After) : Type 0 where
  fault : a.fault ≡ least_from f (map (fault_or_none v) (map (λ t. t.fault) turns))
  puts : a.state.puts ≡ w.puts ++ map (given c v) (joined (map (λ t. t.with_outermost) turns))
  folds : a.state.folds ≡ w.folds ++ map (given c v) (given_inside turns)
  scalars : list_all is_to_scalars (joined (map (λ t. t.with_outermost) turns)) ≡ true
  nodes : list_all is_to_nodes (given_inside turns) ≡ true
  messages : a.state.messages ≡ w.messages
  fields : a.state.fields ≡ w.fields
  deferred : joined (map (λ t. t.deferred) turns) ≡ []

module _ (c : Layout) (p : image.Program) (fields base : ℕ) (all : List Spot) (loop : Loop) (kind : ℕ) (mask_key : Key) (mask : Expr) (key : Key) (place : Place) (h : Head) (test : Expr) (body : Stmt)
    (globals fs : List Value) (k : ℕ) (r : Store) (table : TypeTable) (around : List ℕ) (result : Option VType)
    (outer : HasEach c loop mask h)
    (able : IsHomeLoop c p.registers fields loop h.iterator test body)
    (typed : TurnsTyped c table around result loop h.iterator body r)
    (incl : (f : Spot) → HasSpot f (each_spots c loop.outer h.iterator key test body) → HasSpot f all)
    (fit : HaveRoom base all (length p.places))
    (shows : NodeShows c loop.graph p.registers fields globals fs k r)
    (edges : EdgesShown c loop.graph r)
    (within : StepsWithin loop.graph h.domain)
    (apart : GivesApart (given_inside (home_turns loop h key test body r k))) where
  abbrev n : ℕ
  n = loop.outer

  abbrev i : ℕ
  i = h.iterator

  abbrev g : NumberedGraph
  g = loop.graph

  abbrev seg : Segment
  seg = segment base all

  abbrev v : Env
  v = each_env c seg n i

  abbrev ov : Env
  ov = own_env c seg n

  abbrev s : VertexContext
  s = context_at g globals k

  abbrev from : Store
  from = write r (slots.Scalar n) (At (Some k))

  abbrev first : VertexState
  first = begin p.registers fs

  abbrev turn : Step → Iteration
  turn e = turn_of loop i key test body r (k, e)

  abbrev lines : List Line
  lines = home_lines c seg n i kind key test body

  turned : (x y : ℕ) → nat_eq x y ≡ false → nat_eq y x ≡ false
  turned x y e = ne_eqb y x (λ z. eqb-false x y e (sym z))

  edge-shows : (e : Step) → IsInside g e → (w : VertexState) → length w.registers ≡ length p.registers → w.fields ≡ fs → EdgeShows c loop p.registers fields (record s { near = e }) w from
  edge-shows e lt w count same = record {
    graph = refl;
    scalar = λ x f l d o. shows.phase.scalar x l d o ∙ sym (ap (λ b. if b then At (Some k) else r.scalar x) (turned x n f));
    in_graph = λ x f l d. subst (IsInGraph g) (sym (ap (λ b. if b then At (Some k) else r.scalar x) (turned x n f))) (shows.phase.in_graph x l d);
    at_outer = ap (λ b. if b then At (Some k) else r.scalar n) (eq-eqb n n refl);
    locals = λ x o.
        let t = both-true (nat_lt x (length c.declarations)) (is_register (variable_at c.declarations x)) o in
        shows.locals x (ltb-true x (length c.declarations) t.0) t.1 ∙ sym (ap (λ b. if b then At (Some k) else r.scalar x) (unlike x t.1));
    properties = subst (λ z. HoldProperties c z k from) (sym same) shows.properties;
    edges = λ q l d. edges q e.edge l d lt.1;
    register_count = count;
    field_count = ap length same ∙ shows.field_count;
    inside = shows.inside;
    near_inside = lt.0;
  } where
    unlike : (x : ℕ) → is_register (variable_at c.declarations x) ≡ true → nat_eq n x ≡ false
    unlike x d = ne_eqb n x (λ z. both_ways (is_register (variable_at c.declarations x)) (ap (λ b. is_register (variable_at c.declarations b)) (sym z) ∙ able.outer) d)

  -- the turns one after the other
  abbrev one : Step → VertexState → After
  one e w = lines_after (record s { near = e }) lines 0 w

  one-ends : (e : Step) → IsInside g e → (w : VertexState) → length w.registers ≡ length p.registers → w.fields ≡ fs → TurnEnds c v w (turn e) (one e w) (turn e).fault
  one-ends e lt w count same = each-turns c seg p.registers fields loop i kind key test body (record s { near = e }) w from table around result able (typed k e.node shows.inside lt.0) (edge-shows e lt w count same)

  fault-part : (it : Iteration) (w : VertexState) (a : After) (o : Option Fault) → TurnEnds c v w it a o → a.fault ≡ fault_or_none v o
  fault-part it w a None e = e.0
  fault-part it w a (Some f) e = e.0

  gave-part : (it : Iteration) (w : VertexState) (a : After) (o : Option Fault) → TurnEnds c v w it a o → HomeGave c v w it a.state
  gave-part it w a None e = e.1
  gave-part it w a (Some f) e = e.1

  turns-gave : (es : List Step) → ((e : Step) → IsIn e es → IsInside g e) → (w : VertexState) (f : Option M.Fault) → length w.registers ≡ length p.registers → w.fields ≡ fs
      → TurnsGave c v (map turn es) w f (turns_after s lines es w f)
  turns-gave [] lt w f count same = record { fault = refl; puts = sym (append-nil w.puts); folds = sym (append-nil w.folds); scalars = refl; nodes = refl; messages = refl; fields = refl; deferred = refl }
  turns-gave (e ∷ es) lt w f count same =
      let ending = one-ends e (lt e (inl refl)) w count same in
      let gave = gave-part (turn e) w (one e w) (turn e).fault ending in
      let rest = turns-gave es (λ x q. lt x (inr q)) (one e w).state (lesser f (one e w).fault) (gave.count ∙ count) (gave.fields ∙ same) in
      let more = joined (map (λ t. t.with_outermost) (map turn es)) in
      let inside = given_inside (map turn es) in
      record {
        fault = rest.fault ∙ ap (λ o. least_from (lesser f o) (map (fault_or_none v) (map (λ t. t.fault) (map turn es)))) (fault-part (turn e) w (one e w) (turn e).fault ending);
        puts =
            rest.puts ∙ ap (λ l. l ++ map (given c v) more) gave.puts ∙ append_assoc w.puts (map (given c v) (turn e).with_outermost) (map (given c v) more)
            ∙ ap (λ l. w.puts ++ l) (sym (map-both (given c v) (turn e).with_outermost more));
        folds =
            rest.folds ∙ ap (λ l. l ++ map (given c v) inside) gave.folds ∙ append_assoc w.folds (map (given c v) (turn e).with_inner) (map (given c v) inside)
            ∙ ap (λ l. w.folds ++ l) (sym (map-both (given c v) (turn e).with_inner inside));
        scalars = all-both is_to_scalars (turn e).with_outermost more gave.scalars rest.scalars;
        nodes = all-both is_to_nodes (turn e).with_inner inside gave.nodes rest.nodes;
        messages = rest.messages ∙ gave.messages;
        fields = rest.fields ∙ gave.fields;
        deferred = ap (λ l. l ++ joined (map (λ t. t.deferred) (map turn es))) gave.deferred ∙ rest.deferred;
      }

  abbrev along : List Step
  along = steps (direction_of h.domain) g k

  abbrev turns : List Iteration
  turns = map turn along

  abbrev inside : List Contribution
  inside = given_inside turns

  length-map : {A B : Type 0} (f : A → B) (xs : List A) → length (map f xs) ≡ length xs
  length-map f [] = refl
  length-map f (x ∷ xs) = ap suc (length-map f xs)

  abbrev whole : After
  whole = turns_after s lines along first None

  gave : TurnsGave c v turns first None whole
  gave = turns-gave along (λ e q. within k e q) first None (length-map zero_of p.registers) refl

  -- spots of the turns
  abbrev its : List ℕ
  its = n ∷ i ∷ []

  abbrev loose : Expr → Bool
  loose = finds c its true

  loosen : (e : Expr) → home_finds c n i e ≡ true → loose e ≡ true
  loosen e o = (both-true (loose e) (list_all is_at_edge (loads_in i e)) o).0

  fits : is_body c loose sets_nothing (inner_gives c n loose) body ≡ true
  fits = body-weaker c (home_finds c n i) loose sets_nothing (inner_gives c n (home_finds c n i)) (inner_gives c n loose) loosen (λ r' ts es o. inner-weaker c n (home_finds c n i) loose r' ts es loosen o) body able.fits

  in-two : (x : ℕ) → is_in its x ≡ true → (x ≡ n) ⊎ (x ≡ i)
  in-two x o = by (nat_eq x n) (nat_eq x i) refl refl o where
    by : (a b : Bool) → nat_eq x n ≡ a → nat_eq x i ≡ b → a || (b || false) ≡ true → (x ≡ n) ⊎ (x ≡ i)
    by true b e f o = inl (eqb-true x n e)
    by false true e f o = inr (eqb-true x i f)
    by false false e f o = absurd (both_ways false refl o)

  no_locals : (x : ℕ) → is_in its x ≡ true → is_register (variable_at c.declarations x) ≡ false
  no_locals x o = ⊎_elim (λ (e : x ≡ n). ap (λ y. is_register (variable_at c.declarations y)) e ∙ able.outer) (λ (e : x ≡ i). ap (λ y. is_register (variable_at c.declarations y)) e ∙ able.inner) (in-two x o)

  module _ (e : Step) (lt : IsInside g e) where
    abbrev m : Mode
    m = AtEdge e.edge

    abbrev start : Iteration
    start = begun (write from (slots.Scalar i) (At (Some e.node)))

    abbrev Ready : Stmt → Iteration → Type 0
    Ready = Typed c table around result loop

    typed-start : Ready body start
    typed-start = typed k e.node shows.inside lt.0

    abbrev home : ℕ → ℕ
    home y = if nat_eq i y then e.node else k

    holds : HoldNodes g its home start
    holds y o = ⊎_elim at_outer at_inner (in-two y o) where
      at_inner : y ≡ i → (start.store.scalar y ≡ At (Some (home y))) × (home y < node_count g)
      at_inner q =
          let same : nat_eq i y ≡ true = eq-eqb i y (sym q) in (
            ap (λ b. if b then At (Some e.node) else from.scalar y) same ∙ ap (λ z. At (Some z)) (sym (ap (λ b. if b then e.node else k) same)),
            subst (λ z. z < node_count g) (sym (ap (λ b. if b then e.node else k) same)) lt.0,
          )

      at_outer : y ≡ n → (start.store.scalar y ≡ At (Some (home y))) × (home y < node_count g)
      at_outer q =
          let other : nat_eq i y ≡ false = ap (nat_eq i) q ∙ able.two in (
            ap (λ b. if b then At (Some e.node) else from.scalar y) other ∙ ap (λ b. if b then At (Some k) else r.scalar y) (eq-eqb n y (sym q)) ∙ ap (λ z. At (Some z)) (sym (ap (λ b. if b then e.node else k) other)),
            subst (λ z. z < node_count g) (sym (ap (λ b. if b then e.node else k) other)) shows.inside,
          )

    in-n : is_in its n ≡ true
    in-n = ap (λ b. b || (nat_eq n i || false)) (eq-eqb n n refl)

    at-k : (it : Iteration) → HoldNodes g its home it → node_in g (it.store.scalar n) ≡ Some k
    at-k it q = ap (node_in g) ((q n in-n).0 ∙ ap (λ b. At (Some (if b then e.node else k))) able.two) ∙ node-in g k shows.inside

    abbrev body_spots : List Spot
    body_spots = spots_of c n its false body

    reductions-left : (j : Key) (total : TotalKey) (r' : Reduce) (ts : List Target) (es : List Expr) (it : Iteration) → inner_gives c n loose r' ts es ≡ true → Ready (P.Combine j total r' ts es) it → it.fault ≡ None → HoldNodes g its home it
        → Left c its true loop m home (does (P.Combine j total r' ts es) m loop it) (spots_in_all es j ++ reduce_spots false its (way_of c.declarations n ts) j total ts)
    reductions-left j total r' ts es it o y f q =
        or-cases (receiver_gives c n loose r' ts es) (picks_inside c loose r' ts es || tuples_inside c loose r' ts es) o
        (λ p'.
        or-cases (puts_to_scalars c loose r' ts es) (folds_to c n loose r' ts es) p'
        (λ z. put-left c its true false n loop m home able.depths j total r' ts es it z f q)
        (λ z. fold-left c its true k loop e.edge home able.own j total r' ts es it z f q (at-k it q)))
        (λ p'.
        or-cases (picks_inside c loose r' ts es) (tuples_inside c loose r' ts es) p'
        (λ z. pick-left c its n loop e.edge home able.depths no_locals table around result j total r' ts es it z y f q)
        (λ z. keep-left c its n loop e.edge home able.depths no_locals table around result in-n j total r' ts es it z y f q))

    left-body : (st : Stmt) → is_body c loose sets_nothing (inner_gives c n loose) st ≡ true → (it : Iteration) → Ready st it → it.fault ≡ None → HoldNodes g its home it
        → Left c its true loop m home (does st m loop it) (spots_of c n its false st)
    left-body st o it y f q =
        body-left c its true loop m home n false sets_nothing (inner_gives c n loose) Ready (parts-typed c table around result loop m) no_locals (λ y' z o'. absurd (both_ways false refl o'))
        (λ j' total r' ts es it' o' y' f' q'. reductions-left j' total r' ts es it' o' y' f' q') st o it y f q

    reductions-give : (j : Key) (total : TotalKey) (r' : Reduce) (ts : List Target) (es : List Expr) (it : Iteration) → inner_gives c n loose r' ts es ≡ true → Ready (P.Combine j total r' ts es) it → HoldNodes g its home it
        → ((f : Spot) → HasSpot f (reduce_spots false its (way_of c.declarations n ts) j total ts) → HasSpot f all)
        → Gives (IsReceived c k all) it → Gives (IsReceived c k all) (does (P.Combine j total r' ts es) m loop it)
    reductions-give j total r' ts es it o y q f a =
        or-cases (receiver_gives c n loose r' ts es) (picks_inside c loose r' ts es || tuples_inside c loose r' ts es) o
        (λ p'.
        or-cases (puts_to_scalars c loose r' ts es) (folds_to c n loose r' ts es) p'
        (λ z. put-gives-at c its true false n loop m home able.depths all (IsReceived c k all) (put-received c k all) j total r' ts es it z q f a)
        (λ z. fold-gives c its true k loop e.edge home able.own all j total r' ts es it z q (at-k it q) f a))
        (λ p'.
        or-cases (picks_inside c loose r' ts es) (tuples_inside c loose r' ts es) p'
        (λ z. pick-gives c its n loop e.edge home able.depths no_locals table around result (IsReceived c k all) j total r' ts es it z y q a)
        (λ z. keep-gives c its n loop e.edge home able.depths no_locals table around result in-n (IsReceived c k all) j total r' ts es it z y q a))

    give-body : (it : Iteration) → Ready body it → it.fault ≡ None → HoldNodes g its home it → Gives (IsReceived c k all) it → Gives (IsReceived c k all) (does body m loop it)
    give-body it y f q a =
        body-gives c n its false loop m loose sets_nothing (inner_gives c n loose) (IsReceived c k all) all (HoldNodes g its home) Ready (parts-typed c table around result loop m)
        (λ st o it' y' f' q'. (left-body st o it' y' f' q').1)
        (λ j total r' ts es it' o y' q' f' a'. reductions-give j total r' ts es it' o y' q' f' a')
        body fits (λ f' z. incl f' (spot-right f' (spots_in test key) body_spots z)) it y f q a

    has-all : (o : Option Fault) → Has o (each_spots c n i key test body) → Has o all
    has-all None q = tt
    has-all (Some f) q = incl (spot_of_fault f) q

    turn-left : Has (turn e).fault all × Gives (IsReceived c k all) (turn e)
    turn-left = by (value test (view_in loop m start key)) (value-within (view_in loop m start key) test refl (reads c its true loop m home start key test (loosen test able.found) holds)) where
      nothing : Gives (IsReceived c k all) start
      nothing = record { outermost = λ y z. absurd z; inner = λ y z. absurd z }

      way : (b : Bool) → Has (one_way b (does body m loop) as_it_is start).fault all × Gives (IsReceived c k all) (one_way b (does body m loop) as_it_is start)
      way true =
          (has-all (does body m loop start).fault (has-right (does body m loop start).fault (spots_in test key) body_spots (left-body body fits start typed-start refl holds).0), give-body start typed-start refl holds nothing)
      way false = (tt, nothing)

      by : (a : Result Value Fault) → Within a (spots_in test key)
          → Has (with_ok start a (λ z. one_way (is_true z) (does body m loop) as_it_is start)).fault all × Gives (IsReceived c k all) (with_ok start a (λ z. one_way (is_true z) (does body m loop) as_it_is start))
      by (Ok z) w = way (is_true z)
      by (Err f) w = (incl (spot_of_fault f) (spot-left (spot_of_fault f) (spots_in test key) body_spots w), record { outermost = λ y z. absurd z; inner = λ y z. absurd z })

  received : (es : List Step) → ((e : Step) → IsIn e es → IsInside g e) → (y : Contribution) → IsIn y (given_inside (map turn es)) → IsReceived c k all y
  received [] lt y z = absurd z
  received (e ∷ es) lt y z = split (turn e).with_inner (turn-left e (lt e (inl refl))).1.inner (λ w. received es (λ a b. lt a (inr b)) y w) z where
    split : (ys : List Contribution) → ((a : Contribution) → IsIn a ys → IsReceived c k all a) → (IsIn y (given_inside (map turn es)) → IsReceived c k all y) → IsIn y (ys ++ given_inside (map turn es)) → IsReceived c k all y
    split [] q next z = next z
    split (a ∷ ys) q next z = ⊎_elim (λ (f : y ≡ a). q y (inl f)) (λ (w : IsIn y (ys ++ given_inside (map turn es))). split ys (λ b d. q b (inr d)) next w) z

  fault-spots : (es : List Step) → ((e : Step) → IsIn e es → IsInside g e) → (f : Fault) → IsIn f (somes (map (λ t. t.fault) (map turn es))) → HasSpot (spot_of_fault f) all
  fault-spots [] lt f z = absurd z
  fault-spots (e ∷ es) lt f z = by (turn e).fault (turn-left e (lt e (inl refl))).0 (λ w. fault-spots es (λ a b. lt a (inr b)) f w) z where
    by : (o : Option Fault) → Has o all → (IsIn f (somes (map (λ t. t.fault) (map turn es))) → HasSpot (spot_of_fault f) all) → IsIn f (somes (o ∷ map (λ t. t.fault) (map turn es))) → HasSpot (spot_of_fault f) all
    by None q next z = next z
    by (Some a) q next z = ⊎_elim (λ (x : f ≡ a). subst (λ b. HasSpot (spot_of_fault b) all) (sym x) q) (λ (w : IsIn f (somes (map (λ t. t.fault) (map turn es)))). next w) z

  -- the properties of the node are in its fields
  held-fields : AreHeld c from fs (here_at c k)
  held-fields = record { holds = holds-it; within = within-it; apart = unlike } where
    at-node : (y p' : ℕ) → nat_eq y k && c.is_kept p' ≡ true → (y ≡ k) × (c.is_kept p' ≡ true)
    at-node y p' o = let t = both-true (nat_eq y k) (c.is_kept p') o in (eqb-true y k t.0, t.1)

    holds-it : (slot : Slot) → here_at c k slot ≡ true → value_at fs (slot_at c slot) ≡ read from slot
    holds-it (slots.Scalar x) o = absurd (both_ways false refl o)
    holds-it (slots.Node q y) o = let t = at-node y q o in shows.properties q t.1 ∙ ap (r.node q) (sym t.0)

    within-it : (slot : Slot) → here_at c k slot ≡ true → slot_at c slot < length fs
    within-it (slots.Scalar x) o = absurd (both_ways false refl o)
    within-it (slots.Node q y) o = let t = at-node y q o in subst (λ z. c.field q < z) (sym shows.field_count) (able.apart.field_within q t.1)

    unlike : (a b : Slot) → here_at c k a ≡ true → here_at c k b ≡ true → slot_at c a ≡ slot_at c b → a ≡ b
    unlike (slots.Scalar x) b o o2 e = absurd (both_ways false refl o)
    unlike (slots.Node q y) (slots.Scalar x) o o2 e = absurd (both_ways false refl o2)
    unlike (slots.Node q y) (slots.Node q2 y2) o o2 e =
        let t = at-node y q o in
        let u = at-node y2 q2 o2 in
        ap (λ z. slots.Node z y) (able.apart.fields_apart q q2 t.1 u.1 e) ∙ ap (slots.Node q2) (t.0 ∙ sym u.0)

  is-node : (y : Contribution) (ys : List Contribution) → list_all is_to_nodes ys ≡ true → IsIn y ys → is_to_scalars y ≡ false
  is-node y [] o z = absurd z
  is-node y (x ∷ xs) o z =
      let t = both-true (is_to_nodes x) (list_all is_to_nodes xs) o in
      ⊎_elim (λ (e : y ≡ x). ap is_to_scalars e ∙ not-true' (is_to_scalars x) t.0) (λ (w : IsIn y xs). is-node y xs t.1 w) z where
        not-true' : (b : Bool) → not b ≡ true → b ≡ false
        not-true' true e = sym e
        not-true' false e = refl

  good : AreGiven inside (here_at c k) all
  good = record {
    one = apart.one;
    here_all = λ y z. (received along (λ e q. within k e q) y z).nodes (is-node y inside gave.nodes z);
    not_empty = λ y z. (received along (λ e q. within k e q) y z).not_empty;
    one_total = apart.one_total;
    spotted = λ y z. (received along (λ e q. within k e q) y z).spotted;
  }

  settles : SettlesAlike c v (length p.places) from fs (here_at c k) inside
  settles = reductions-settle c v base (length p.places) all from fs (here_at c k) inside refl fit held-fields good

  low : (f d : Fault) → HasSpot (spot_of_fault f) all → HasSpot (spot_of_fault d) all → lesser (Some (fault_of v f)) (Some (fault_of v d)) ≡ Some (fault_of v (F.lower f d))
  low f d a b = lesser-lower v base all refl f d a b

  -- the each, and what it leaves
  abbrev state_after : VertexState
  state_after = record (whole.state) { folds = []; fields = (settled (length p.places) whole.state.folds whole.state.fields).values }

  abbrev fault_after : Option M.Fault
  fault_after = lesser whole.fault (settled (length p.places) whole.state.folds whole.state.fields).fault

  past-all : (ls : List Line) (w : VertexState) → body_after (length p.places) s ls (length ls) w ≡ record { state = w; fault = None; skip = 0 }
  past-all [] w = refl
  past-all (l ∷ ls) w = past-all ls w

  ends : (w : VertexState) (f : Option M.Fault) → goes_on (ended w f (length lines)) (λ j u. body_after (length p.places) s lines j u) ≡ record { state = w; fault = f; skip = 0 }
  ends w None = past-all lines w
  ends w (Some f) = refl

  abbrev each_block : List Line
  each_block = each_lines h.domain lines

  abbrev done_by : List Line → After
  done_by ls =
      let a = turns_after s ls along first None in
      let taken = settled (length p.places) a.state.folds a.state.fields in
      goes_on (ended (record (a.state) { folds = []; fields = taken.values }) (lesser a.fault taken.fault) (length lines)) (λ j u. body_after (length p.places) s lines j u)

  each-is : body_after (length p.places) s each_block 0 first ≡ record { state = state_after; fault = fault_after; skip = 0 }
  each-is = ap done_by (take-all lines) ∙ ends state_after fault_after

  settled-are : settled (length p.places) whole.state.folds whole.state.fields ≡ settled (length p.places) (map (given c v) inside) fs
  settled-are = ap (λ ds. settled (length p.places) ds whole.state.fields) gave.folds ∙ ap (λ z. settled (length p.places) (map (given c v) inside) z) gave.fields

  abbrev begun_at : Iteration
  begun_at = begun from

  abbrev out : Iteration
  out = inner_done begun_at turns

  fault-is : fault_after ≡ fault_or_none v out.fault
  fault-is =
      ap (λ o. lesser o (settled (length p.places) whole.state.folds whole.state.fields).fault)
      (gave.fault ∙ least_from-right None (map (fault_or_none v) (map (λ t. t.fault) turns)) ∙ none-first (least_right (map (fault_or_none v) (map (λ t. t.fault) turns)))
      ∙ least-parts v all low (map (λ t. t.fault) turns) (λ f z. fault-spots along (λ e q. within k e q) f z))
      ∙ ap (λ t. lesser (fault_or_none v (least (somes (map (λ t. t.fault) turns)))) t.fault) settled-are
      ∙ ap (lesser (fault_or_none v (least (somes (map (λ t. t.fault) turns))))) settles.fault
      ∙ least-two v all low (somes (map (λ t. t.fault) turns)) (total_faults from inside) (λ f z. fault-spots along (λ e q. within k e q) f z)
      (λ f z. total-spot c v base (length p.places) all from fs (here_at c k) inside refl fit held-fields good f z) where
        none-first : (o : Option M.Fault) → lesser None o ≡ o
        none-first o = refl

  own-gave : OwnGave c ov out state_after
  own-gave = record { puts = gave.puts; folds = refl; messages = gave.messages; inner = refl; deferred = refl }

  each-ends : (o : Option Fault) → fault_after ≡ fault_or_none v o → StepEnds c ov fields k out (record { state = state_after; fault = fault_after; skip = 0 }) o
  each-ends None e = (
    e,
    λ q o. ap (λ t. value_at t.values (c.field q)) settled-are ∙ settles.values (slots.Node q k) (ap (λ b. b && c.is_kept q) (eq-eqb k k refl) ∙ o),
    ap (λ t. length t.values) settled-are ∙ settles.count ∙ shows.field_count,
    own-gave,
  )
  each-ends (Some f) e = (e, own-gave)

  -- the inner loop is these turns
  steps-are : steps_in (view_in loop Outermost begun_at key) h ≡ along
  steps-are =
      ap (λ y. steps_of (view_in loop Outermost begun_at key) h.domain (node_in g (from.scalar y))) outer.owner
      ∙ ap (λ a. steps_of (view_in loop Outermost begun_at key) h.domain (node_in g a)) (ap (λ b. if b then At (Some k) else r.scalar n) (eq-eqb n n refl))
      ∙ ap (steps_of (view_in loop Outermost begun_at key) h.domain) (node-in g k shows.inside)
      ∙ ⊎_elim
      (λ (e : h.domain ≡ OutNbrs). ap (λ d. steps_of (view_in loop Outermost begun_at key) d (Some k)) e ∙ sym (ap (λ d. steps (direction_of d) g k) e))
      (λ (e : h.domain ≡ InNbrs). ap (λ d. steps_of (view_in loop Outermost begun_at key) d (Some k)) e ∙ sym (ap (λ d. steps (direction_of d) g k) e))
      outer.neighbours

  abbrev inner : Stmt
  inner = P.Foreach key place h test body

  inner-is : does inner Outermost loop begun_at ≡ out
  inner-is = ap (λ es. inner_done begun_at (map turn es)) steps-are

  abbrev run : List Line → After
  run ls = body_after (length p.places) s ls 0 first

  taken-way : StepEnds c ov fields k (does inner Outermost loop begun_at) (run each_block) (does inner Outermost loop begun_at).fault
  taken-way =
      subst (λ it. StepEnds c ov fields k it (run each_block) it.fault) (sym inner-is)
      (subst (λ a. StepEnds c ov fields k out a out.fault) (sym each-is) (each-ends out.fault fault-is))

  idle : OwnGave c ov begun_at first
  idle = record { puts = refl; folds = refl; messages = refl; inner = refl; deferred = refl }

  -- under the mask
  abbrev answered : Answer → Iteration
  answered a = with_ok begun_at a (λ z. one_way (is_true z) (does inner Outermost loop) as_it_is begun_at)

  always : (a : Answer) → Ok (Flag true) ≡ answer_of ov a → StepEnds c ov fields k (answered a) (run each_block) (answered a).fault
  always (Ok z) e = by (is_true z) (ap truth e) where
    truth : Result Value M.Fault → Bool
    truth (Ok y) = is_true y
    truth (Err f) = true

    by : (b : Bool) → true ≡ b → StepEnds c ov fields k (one_way b (does inner Outermost loop) as_it_is begun_at) (run each_block) (one_way b (does inner Outermost loop) as_it_is begun_at).fault
    by true o = taken-way
    by false o = absurd (both_ways false refl (sym o))
  always (Err f) e = absurd (both_ways false refl (ap is_err e)) where
    is_err : Result Value M.Fault → Bool
    is_err (Ok y) = false
    is_err (Err d) = true

  skip-is : (t : Term) (a : Result Value M.Fault) → term_value (view s first) t ≡ a
      → run (image.Skip (length each_block) t ∷ each_block) ≡ goes_on (line_ends first a (λ z. record { state = first; fault = None; skip = if is_true z then 0 else length each_block })) (λ j u. body_after (length p.places) s each_block j u)
  skip-is t a e = ap (λ x. goes_on (line_ends first x (λ z. record { state = first; fault = None; skip = if is_true z then 0 else length each_block })) (λ j u. body_after (length p.places) s each_block j u)) e

  head : (t : Term) (a : Answer) → term_value (view s first) t ≡ answer_of ov a → StepEnds c ov fields k (answered a) (run (image.Skip (length each_block) t ∷ each_block)) (answered a).fault
  head t (Ok z) e = subst (λ x. StepEnds c ov fields k (answered (Ok z)) x (answered (Ok z)).fault) (sym (skip-is t (Ok z) e)) (by (is_true z)) where
    by : (b : Bool) → StepEnds c ov fields k (one_way b (does inner Outermost loop) as_it_is begun_at) (body_after (length p.places) s each_block (if b then 0 else length each_block) first) (one_way b (does inner Outermost loop) as_it_is begun_at).fault
    by true = taken-way
    by false = subst (λ x. StepEnds c ov fields k begun_at x None) (sym (past-all each_block first)) (refl, shows.properties, shows.field_count, idle)
  head t (Err f) e =
      subst (λ x. StepEnds c ov fields k (answered (Err f)) x (Some f)) (sym (skip-is t (Err (fault_of ov f)) e))
      (refl, record { puts = refl; folds = refl; messages = refl; inner = refl; deferred = refl })

  under-mask : (t : Term) (a : Answer) → term_value (view s first) t ≡ answer_of ov a → StepEnds c ov fields k (answered a) (run (under t each_block)) (answered a).fault
  under-mask (T.Const (Flag true)) a e = always a e
  under-mask t a e = head t a e

  -- the mask is an own loop's filter
  mask-loop : IsOwnLoop c p.registers fields loop mask P.Skip
  mask-loop = record { apart = able.apart; iterator = able.outer; types = able.types; depths = able.depths; found = outer.found; fits = refl; spares = no-spares c (length p.registers) }

  mask-value : term_value (view s first) (term ov mask_key mask) ≡ answer_of ov (value mask (view_in loop Outermost begun_at mask_key))
  mask-value =
      value-of (own_site c seg n) loop Outermost s (body_after (length p.places) s)
      (Shows c seg loop k (length p.registers) fields (length p.places) s able.apart able.outer able.types able.depths (λ it' w'. OwnGave c ov it' w') (own-giving c ov)) (OwnGave c ov) (own_finds c n) (own_sets c n) (own_gives c n (own_finds c n))
      (own-holds c seg loop k (length p.registers) fields (length p.places) s able.apart able.outer able.types able.depths (λ it' w'. OwnGave c ov it' w') (own-giving c ov) (record { limit = 0; declarations = []; inputs = 0 }) [] None) begun_at first mask_key mask outer.found
      (begins c seg p fields loop kind mask_key mask P.Skip globals fs k r mask-loop shows)

  pub home-step : let it = iteration loop mask_key mask inner r k in StepEnds c ov fields k it (vertex_after p (home_block c seg n kind mask_key mask h key test body) s [] fs) it.fault
  home-step =
      let it = iteration loop mask_key mask inner r k in
      subst (λ x. StepEnds c ov fields k it x it.fault) (sym (body-alone p s (under (term ov mask_key mask) each_block) fs))
      (under-mask (term ov mask_key mask) (value mask (view_in loop Outermost begun_at mask_key)) mask-value)

  -- what an iteration gives has spots
  received-out : (es : List Step) → ((e : Step) → IsIn e es → IsInside g e) → (y : Contribution) → IsIn y (joined (map (λ t. t.with_outermost) (map turn es))) → IsReceived c k all y
  received-out [] lt y z = absurd z
  received-out (e ∷ es) lt y z = split (turn e).with_outermost (turn-left e (lt e (inl refl))).1.outermost (λ w. received-out es (λ a b. lt a (inr b)) y w) z where
    split : (ys : List Contribution) → ((a : Contribution) → IsIn a ys → IsReceived c k all a) → (IsIn y (joined (map (λ t. t.with_outermost) (map turn es))) → IsReceived c k all y) → IsIn y (ys ++ joined (map (λ t. t.with_outermost) (map turn es))) → IsReceived c k all y
    split [] q next z = next z
    split (a ∷ ys) q next z = ⊎_elim (λ (f : y ≡ a). q y (inl f)) (λ (w : IsIn y (ys ++ joined (map (λ t. t.with_outermost) (map turn es)))). split ys (λ b d. q b (inr d)) next w) z

  is-scalar : (y : Contribution) (ys : List Contribution) → list_all is_to_scalars ys ≡ true → IsIn y ys → is_to_scalars y ≡ true
  is-scalar y [] o z = absurd z
  is-scalar y (x ∷ xs) o z =
      let t = both-true (is_to_scalars x) (list_all is_to_scalars xs) o in
      ⊎_elim (λ (e : y ≡ x). ap is_to_scalars e ∙ t.0) (λ (w : IsIn y xs). is-scalar y xs t.1 w) z

  put-of : (y : Contribution) → IsIn y out.with_outermost → IsPut c all y
  put-of y z =
      let t = received-out along (λ e q. within k e q) y z in
      record { here_all = t.scalars (is-scalar y (joined (map (λ t. t.with_outermost) turns)) gave.scalars z); not_empty = t.not_empty; spotted = t.spotted }

  out-has : (o : Option Fault) → out.fault ≡ o → Has o all
  out-has None e = tt
  out-has (Some f) e = split (somes (map (λ t. t.fault) turns)) (λ d w. fault-spots along (λ x q. within k x q) d w) (least-is (somes (map (λ t. t.fault) turns) ++ total_faults from inside) f e).is_in where
    split : (ds : List Fault) → ((d : Fault) → IsIn d ds → HasSpot (spot_of_fault d) all) → IsIn f (ds ++ total_faults from inside) → HasSpot (spot_of_fault f) all
    split [] q z = total-spot c v base (length p.places) all from fs (here_at c k) inside refl fit held-fields good f z
    split (d ∷ ds) q z = ⊎_elim (λ (x : f ≡ d). q f (inl x)) (λ (w : IsIn f (ds ++ total_faults from inside)). split ds (λ a b. q a (inr b)) w) z

  starts : HoldNodes g (n ∷ []) (λ x. k) begun_at
  starts x o = (ap (λ b. if b then At (Some k) else r.scalar x) (eq-eqb n x (sym (eqb-true x n (or-none (nat_eq x n) o)))), shows.inside) where
    or-none : (b : Bool) → b || false ≡ true → b ≡ true
    or-none true q = refl
    or-none false q = q

  abbrev Spotted : Iteration → Type 0
  Spotted it = Has it.fault all × ((x : Contribution) → IsIn x it.with_outermost → IsPut c all x)

  pub iteration-left : ((f : Spot) → HasSpot f (spots_in mask mask_key) → HasSpot f all) → Spotted (iteration loop mask_key mask inner r k)
  iteration-left masks = by (value mask (view_in loop Outermost begun_at mask_key)) (value-within (view_in loop Outermost begun_at mask_key) mask refl (reads c (n ∷ []) false loop Outermost (λ x. k) begun_at mask_key mask outer.found starts)) where
    way : (b : Bool) → Spotted (one_way b (does inner Outermost loop) as_it_is begun_at)
    way true = subst Spotted (sym inner-is) (out-has out.fault refl, put-of)
    way false = (tt, λ x z. absurd z)

    by : (a : Answer) → Within a (spots_in mask mask_key) → Spotted (answered a)
    by (Ok z) w = way (is_true z)
    by (Err f) w = (masks (spot_of_fault f) w, λ x z. absurd z)

pub home-steps : HomeStepsAreIterations
home-steps c p fields base all loop kind mask_key mask key place h test body globals fs k r table around result outer able typed incl fit shows edges within apart =
    home-step c p fields base all loop kind mask_key mask key place h test body globals fs k r table around result outer able typed incl fit shows edges within apart
