-- The step of a vertex with the receivers' block takes what the turns that reach its node give.
use Rattle.std.proofs.Common.{◌≡◌, ◌<◌, ℕ, suc, Bool, true, false, Option, Some, None, List, [], ◌∷◌, ◌++◌, length, map, refl, ap, ◌∙◌, sym, subst}
use Rattle.std.specs.Prelude.{◌&&◌, ◌||◌, nat_eq, if◌then◌else◌, filter}
use Rattle.std.specs.List.{list_all}
use Rattle.std.proofs.lemmas.Bool.{both_ways, ne_eqb, eq-eqb, eqb-false}
use Rattle.gm_value.specs.declared.values.Value.{Value}
use Rattle.gm_value.specs.declared.values.Value.TheVariants.{At}
use Rattle.gm_value.specs.declared.reductions.Reduce.{Reduce}
use Rattle.gm_value.specs.Bag.{IsIn}
use Rattle.gm_model.specs.Graphs.{NumberedGraph, Step, node_count}
use Rattle.gm_ast.specs.declared.tree.Key.{Key}
use Rattle.gm_ast.specs.declared.tree.Target.{Target}
use Rattle.gm_ast.specs.declared.tree.TotalKey.{TotalKey}
use Rattle.gm_ast.specs.Program as P
use Rattle.gm_ast.specs.Program.{Expr, Stmt}
use Rattle.gm_ast.specs.Ways.{is_in}
use Rattle.gm_forms.proofs.Named.{both-true}
use Rattle.gm_semantics.specs.declared.faults.Fault.{Fault}
use Rattle.gm_semantics.specs.declared.slots.Slot.TheVariants as slots
use Rattle.gm_semantics.specs.Contributions.{Contribution}
use Rattle.gm_semantics.specs.Iterations.{Loop, Mode, AtEdge, Iteration, begun, view_in, turn_at, does}
use Rattle.gm_semantics.specs.Levels.{node_in}
use Rattle.gm_semantics.specs.Statements.{variable_at}
use Rattle.gm_semantics.specs.Stores.{Store, write}
use Rattle.gm_image.specs.Program as image
use Rattle.gm_machine.specs.Machine.{context_at}
use Rattle.gm_machine.specs.Vertex.{Message, VertexContext, VertexState, After, lines_of, lines_after, handler_run, begun as begin, vertex_after}
use Rattle.gm_lowering.specs.Layouts.{Layout, is_register}
use Rattle.gm_lowering.specs.Places.{Spot, Segment, segment, spots_in_all}
use Rattle.gm_lowering.specs.Terms.{Env}
use Rattle.gm_lowering.specs.Plans.{Load, loads_in, way_of}
use Rattle.gm_lowering.specs.Bodies.{reduce_spots}
use Rattle.gm_lowering.specs.Blocks.{receiver_env}
use Rattle.gm_lowering.specs.Sites.{finds, same_length, IsInGraph, is_body}
use Rattle.gm_lowering.specs.OwnLoops.{NodeShows, puts_to_scalars, is_declared, are_any, folds_to}
use Rattle.gm_lowering.specs.MessageLoops.{has_load, receiver_finds, sets_nothing, receiver_gives, handler_lines, IsMessageLoop, MessageShows, is_to_nodes, ReceiverGave, RunEnds, picks_inside, inner_gives, TurnsTyped, tuples_inside}
use Rattle.gm_lowering.specs.Phases.{GivesApart}
use Rattle.gm_lowering.specs.Receiving.{receive_block, turn_of, given_by, faults_by, IsMessageOf, Receives, inner_spots, ReceivingStepsAreTurns}
use Rattle.gm_lowering.specs.Settles.{HasSpot, fault_or_none, HaveRoom}
use Rattle.gm_lowering.proofs.FoldFacts.{IsReceived, put-received, body-weaker, fold-left, fold-gives}
use Rattle.gm_lowering.proofs.Givens.{are_scalars, are_kept}
use Rattle.gm_lowering.proofs.Handled.{Joins, Ran, takes}
use Rattle.gm_lowering.proofs.Kept.{Gives}
use Rattle.gm_lowering.proofs.PutFacts.{put-left, put-gives-at}
use Rattle.gm_lowering.proofs.Receivers.{handlers-are-turns}
use Rattle.gm_lowering.proofs.Spots.{Has, HoldNodes, Left}
use Rattle.gm_lowering.proofs.Picks.{Typed, parts-typed}
use Rattle.gm_lowering.proofs.TurnsLeft.{both, home_at, no-locals, outer-in, at-receiver, turn-left}
use Rattle.gm_lowering.proofs.InnerPicks.{picks-weaker, pick-left, pick-gives, tuples-weaker, keep-left, keep-gives}
use Rattle.gm_typed_stores.specs.Tells.{TypeTable}
use Rattle.gm_value.specs.declared.values.VType.{VType}

-- more of what is found
pub all-weaker : (found other : Expr → Bool) (es : List Expr) → ((e : Expr) → found e ≡ true → other e ≡ true) → list_all found es ≡ true → list_all other es ≡ true
all-weaker found other [] f h = refl
all-weaker found other (e ∷ es) f h = let q = both-true (found e) (list_all found es) h in ap (λ b. b && list_all other es) (f e q.0) ∙ all-weaker found other es f q.1

pub and-last : (a b x y : Bool) → a && (b && x) ≡ true → (x ≡ true → y ≡ true) → a && (b && y) ≡ true
and-last a b x y h f =
    let q = both-true a (b && x) h in
    let r = both-true b x q.1 in
    ap (λ z. z && (b && y)) q.0 ∙ ap (λ z. z && y) r.0 ∙ f r.1

puts-weaker : (c : Layout) (found other : Expr → Bool) (r : Reduce) (ts : List Target) (es : List Expr) → ((e : Expr) → found e ≡ true → other e ≡ true) → puts_to_scalars c found r ts es ≡ true → puts_to_scalars c other r ts es ≡ true
puts-weaker c found other r ts es f h =
    let q = both-true (are_any ts) (are_scalars c ts && (list_all (is_declared c) ts && (same_length ts es && list_all found es))) h in
    ap (λ b. b && (are_scalars c ts && (list_all (is_declared c) ts && (same_length ts es && list_all other es)))) q.0
    ∙ and-last (are_scalars c ts) (list_all (is_declared c) ts) (same_length ts es && list_all found es) (same_length ts es && list_all other es) q.1
    (λ k. let u = both-true (same_length ts es) (list_all found es) k in ap (λ b. b && list_all other es) u.0 ∙ all-weaker found other es f u.1)

folds-weaker : (c : Layout) (i : ℕ) (found other : Expr → Bool) (r : Reduce) (ts : List Target) (es : List Expr) → ((e : Expr) → found e ≡ true → other e ≡ true) → folds_to c i found r ts es ≡ true → folds_to c i other r ts es ≡ true
folds-weaker c i found other r ts es f h =
    and-last (are_any ts) (are_kept c i ts) (same_length ts es && list_all found es) (same_length ts es && list_all other es) h
    (λ k. let u = both-true (same_length ts es) (list_all found es) k in ap (λ b. b && list_all other es) u.0 ∙ all-weaker found other es f u.1)

pub or-cases : {A : Type 0} (a b : Bool) → a || b ≡ true → (a ≡ true → A) → (b ≡ true → A) → A
or-cases true b h f g = f refl
or-cases false b h f g = g h

pub gives-weaker : (c : Layout) (i : ℕ) (found other : Expr → Bool) (r : Reduce) (ts : List Target) (es : List Expr) → ((e : Expr) → found e ≡ true → other e ≡ true) → receiver_gives c i found r ts es ≡ true → receiver_gives c i other r ts es ≡ true
gives-weaker c i found other r ts es f h =
    or-cases (puts_to_scalars c found r ts es) (folds_to c i found r ts es) h
    (λ k. ap (λ b. b || folds_to c i other r ts es) (puts-weaker c found other r ts es f k))
    (λ k. or-right (puts_to_scalars c other r ts es) (folds-weaker c i found other r ts es f k)) where
      or-right : {y : Bool} (b : Bool) → y ≡ true → b || y ≡ true
      or-right true k = refl
      or-right false k = k

pub inner-weaker : (c : Layout) (i : ℕ) (found other : Expr → Bool) (r : Reduce) (ts : List Target) (es : List Expr) → ((e : Expr) → found e ≡ true → other e ≡ true) → inner_gives c i found r ts es ≡ true → inner_gives c i other r ts es ≡ true
inner-weaker c i found other r ts es f h =
    or-cases (receiver_gives c i found r ts es) (picks_inside c found r ts es || tuples_inside c found r ts es) h
    (λ k. ap (λ b. b || (picks_inside c other r ts es || tuples_inside c other r ts es)) (gives-weaker c i found other r ts es f k))
    (λ k. or-right (receiver_gives c i other r ts es)
    (or-cases (picks_inside c found r ts es) (tuples_inside c found r ts es) k
    (λ z. ap (λ b. b || tuples_inside c other r ts es) (picks-weaker c found other r ts es f z))
    (λ z. or-right (picks_inside c other r ts es) (tuples-weaker c found other r ts es (λ es' y. all-weaker found other es' f y) z)))) where
      or-right : {y : Bool} (b : Bool) → y ≡ true → b || y ≡ true
      or-right true k = refl
      or-right false k = k

-- nothing is sent
pub nothing-joins : Joins (λ xs ms. ms ≡ [])
nothing-joins = record { nothing = refl; both = λ xs ys ms ns a b. ap (λ l. l ++ ns) a ∙ b }

-- what the reductions of an inner body leave, and what they give
module _ (c : Layout) (loop : Loop) (i : ℕ) (depth_is : (x : ℕ) → loop.depth x ≡ (variable_at c.declarations x).depth) (two : nat_eq i loop.outer ≡ false) (table : TypeTable) (around : List ℕ) (result : Option VType)
    (none : (y : ℕ) → is_in (both loop i) y ≡ true → is_register (variable_at c.declarations y) ≡ false) (outer : is_in (both loop i) loop.outer ≡ true) (edge j : ℕ) (home : ℕ → ℕ) where
  abbrev found_here : Expr → Bool
  found_here = finds c (both loop i) true

  pub inner-left : (k : Key) (total : TotalKey) (r' : Reduce) (ts : List Target) (es : List Expr) (it : Iteration) → inner_gives c i (finds c (both loop i) true) r' ts es ≡ true → Typed c table around result loop (P.Combine k total r' ts es) it → it.fault ≡ None
      → HoldNodes loop.graph (both loop i) home it → node_in loop.graph (it.store.scalar i) ≡ Some j
      → Left c (both loop i) true loop (AtEdge edge) home (does (P.Combine k total r' ts es) (AtEdge edge) loop it) (spots_in_all es k ++ reduce_spots false (both loop i) (way_of c.declarations i ts) k total ts)
  inner-left k total r' ts es it o y e h at =
      or-cases (receiver_gives c i found_here r' ts es) (picks_inside c found_here r' ts es || tuples_inside c found_here r' ts es) o
      (λ p'.
      or-cases (puts_to_scalars c found_here r' ts es) (folds_to c i found_here r' ts es) p'
      (λ z. put-left c (both loop i) true false i loop (AtEdge edge) home depth_is k total r' ts es it z e h)
      (λ z. fold-left c (both loop i) true i j loop (AtEdge edge) home two k total r' ts es it z e h at))
      (λ p'.
      or-cases (picks_inside c found_here r' ts es) (tuples_inside c found_here r' ts es) p'
      (λ z. pick-left c (both loop i) i loop edge home depth_is none table around result k total r' ts es it z y e h)
      (λ z. keep-left c (both loop i) i loop edge home depth_is none table around result outer k total r' ts es it z y e h))

  pub inner-give : (all : List Spot) (Good : Contribution → Type 0) → ((y : Contribution) → IsReceived c j all y → Good y) → (k : Key) (total : TotalKey) (r' : Reduce) (ts : List Target) (es : List Expr) (it : Iteration)
      → inner_gives c i (finds c (both loop i) true) r' ts es ≡ true → Typed c table around result loop (P.Combine k total r' ts es) it → HoldNodes loop.graph (both loop i) home it → node_in loop.graph (it.store.scalar i) ≡ Some j
      → ((f : Spot) → HasSpot f (reduce_spots false (both loop i) (way_of c.declarations i ts) k total ts) → HasSpot f all)
      → Gives Good it → Gives Good (does (P.Combine k total r' ts es) (AtEdge edge) loop it)
  inner-give all Good good k total r' ts es it o y h at e q =
      or-cases (receiver_gives c i found_here r' ts es) (picks_inside c found_here r' ts es || tuples_inside c found_here r' ts es) o
      (λ p'.
      or-cases (puts_to_scalars c found_here r' ts es) (folds_to c i found_here r' ts es) p'
      (λ z. put-gives-at c (both loop i) true false i loop (AtEdge edge) home depth_is all Good (λ x w. good x (put-received c j all x w)) k total r' ts es it z h e q)
      (λ z. fold-gives c (both loop i) true i j loop (AtEdge edge) home two all Good good k total r' ts es it z h at e q))
      (λ p'.
      or-cases (picks_inside c found_here r' ts es) (tuples_inside c found_here r' ts es) p'
      (λ z. pick-gives c (both loop i) i loop edge home depth_is none table around result Good k total r' ts es it z y h q)
      (λ z. keep-gives c (both loop i) i loop edge home depth_is none table around result outer Good k total r' ts es it z y h q))

-- before a handler a vertex shows the turn of its message
pub message-shows : (c : Layout) (registers : List VType) (fields : ℕ) (loop : Loop) (loads : List Load) (kind : ℕ) (key : Key) (globals fs : List Value) (j : ℕ) (r : Store) (x : ℕ × Step) (m : Message)
    → is_register (variable_at c.declarations loop.outer) ≡ false → NodeShows c loop.graph registers fields globals fs j r → IsMessageOf loop loads kind key r j x m
    → let from = write r (slots.Scalar loop.outer) (At (Some x.0)) in
    MessageShows c loop.graph registers fields globals fs m.values loop.outer loads (view_in loop (AtEdge x.1.edge) (begun from) key) x.0 j from
message-shows c registers fields loop loads kind key globals fs j r x m outer shows is_of = record {
  scalar = λ y f lt e d. shows.phase.scalar y lt e d ∙ sym (ap (λ b. if b then At (Some x.0) else r.scalar y) (turned y loop.outer f));
  in_graph = λ y f lt e. subst (IsInGraph loop.graph) (sym (ap (λ b. if b then At (Some x.0) else r.scalar y) (turned y loop.outer f))) (shows.phase.in_graph y lt e);
  sender = ap (λ b. if b then At (Some x.0) else r.scalar loop.outer) (eq-eqb loop.outer loop.outer refl);
  locals = λ y lt e. shows.locals y lt e ∙ sym (ap (λ b. if b then At (Some x.0) else r.scalar y) (unlike y e));
  properties = shows.properties;
  field_count = shows.field_count;
  from_inside = is_of.from_inside;
  inside = shows.inside;
  carries = is_of.carries;
} where
  turned : (x y : ℕ) → nat_eq x y ≡ false → nat_eq y x ≡ false
  turned x y e = ne_eqb y x (λ z. eqb-false x y e (sym z))

  unlike : (y : ℕ) → is_register (variable_at c.declarations y) ≡ true → nat_eq loop.outer y ≡ false
  unlike y e = ne_eqb loop.outer y (λ z. both_ways (is_register (variable_at c.declarations y)) (ap (λ b. is_register (variable_at c.declarations b)) (sym z) ∙ outer) e)

-- the run of the one handler there is
pub one-handler : (s : VertexContext) (w : VertexState) (kind : ℕ) (lines : List image.Line) (m : Message) → m.kind ≡ kind
    → handler_run s (record { kind = kind; lines = lines } ∷ []) w m ≡ lines_after (record s { message = m.values }) lines 0 w
one-handler s w kind lines m e =
    ap (λ b. lines_after (record s { message = m.values }) (lines_of (if b then Some (record { kind = kind; lines = lines }) else None)) 0 w) (ap (nat_eq kind) e ∙ eq-eqb kind kind refl)

module _ (c : Layout) (p : image.Program) (fields base : ℕ) (all : List Spot) (loop : Loop) (i : ℕ) (loads : List Load) (kind : ℕ) (key : Key) (test : Expr) (body : Stmt)
    (globals fs : List Value) (j : ℕ) (r : Store) (message : ℕ × Step → Message)
    (table : TypeTable) (around : List ℕ) (result : Option VType)
    (able : IsMessageLoop c p.registers fields loop i loads test body)
    (typed : TurnsTyped c table around result loop i body r)
    (incl : (f : Spot) → HasSpot f (inner_spots c loop.outer i key test body) → HasSpot f all)
    (fit : HaveRoom base all (length p.places))
    (shows : NodeShows c loop.graph p.registers fields globals fs j r) where
  abbrev n : ℕ
  n = loop.outer

  abbrev g : NumberedGraph
  g = loop.graph

  abbrev seg : Segment
  seg = segment base all

  abbrev v : Env
  v = receiver_env c seg n i loads

  abbrev s : VertexContext
  s = context_at g globals j

  abbrev turn : ℕ × Step → Iteration
  turn = turn_of loop i key test body r

  abbrev first : VertexState
  first = begin p.registers fs

  abbrev hs : List image.Handler
  hs = (receive_block c seg n i loads kind key test body).handlers

  abbrev run : ℕ × Step → After
  run x = handler_run s hs first (message x)

  abbrev Is : ℕ × Step → Type 0
  Is x = IsMessageOf loop loads kind key r j x (message x)

  -- the store of a turn, without its own iterator
  abbrev from : ℕ → Store
  from k = write r (slots.Scalar n) (At (Some k))

  -- the run of a message is the turn
  run-ends : (x : ℕ × Step) → Is x → RunEnds c v (turn x) (run x) (turn x).fault
  run-ends x is_of =
      subst (λ a. RunEnds c v (turn x) a (turn x).fault) (sym (one-handler s first kind (handler_lines c seg n i loads (suc kind) key test body) (message x) is_of.of_kind))
      (subst (λ k. let it = turn_at loop (AtEdge x.1.edge) key test (does body (AtEdge x.1.edge) loop) i k (from x.0) in RunEnds c v it (lines_after (record s { message = (message x).values }) (handler_lines c seg n i loads (suc kind) key test body) 0 first) it.fault) (sym is_of.arrives)
      (handlers-are-turns c seg p.registers fields loop i loads (suc kind) key test body (record s { message = (message x).values }) fs x.0 x.1.edge (from x.0) table around result able (typed x.0 j is_of.from_inside shows.inside) refl (message-shows c p.registers fields loop loads kind key globals fs j r x (message x) able.outer shows is_of)))

  -- all runs
  abbrev AllIs : List (ℕ × Step) → Type 0
  AllIs xs = (x : ℕ × Step) → IsIn x xs → Is x

  fault-part : (it : Iteration) (a : After) (o : Option Fault) → RunEnds c v it a o → a.fault ≡ fault_or_none v o
  fault-part it a None e = e.0
  fault-part it a (Some f) e = e.0

  gave-part : (it : Iteration) (a : After) (o : Option Fault) → RunEnds c v it a o → ReceiverGave c v it a.state
  gave-part it a None e = e.1
  gave-part it a (Some f) e = e.1

  pub gave-of : (x : ℕ × Step) → Is x → ReceiverGave c v (turn x) (run x).state
  gave-of x is_of = gave-part (turn x) (run x) (turn x).fault (run-ends x is_of)

  -- a turn's fault has a spot, and what it gives is received
  abbrev its : List ℕ
  its = n ∷ i ∷ []

  abbrev loose : Expr → Bool
  loose = finds c its true

  loosen : (e : Expr) → receiver_finds c n i loads e ≡ true → loose e ≡ true
  loosen e h = (both-true (loose e) (list_all (has_load loads) (loads_in n e)) h).0

  fits : is_body c loose sets_nothing (inner_gives c i loose) body ≡ true
  fits = body-weaker c (receiver_finds c n i loads) loose sets_nothing (inner_gives c i (receiver_finds c n i loads)) (inner_gives c i loose) loosen (λ r' ts es h. inner-weaker c i (receiver_finds c n i loads) loose r' ts es loosen h) body able.fits

  module _ (x : ℕ × Step) (is_of : Is x) where
    abbrev m : Mode
    m = AtEdge x.1.edge

    abbrev home : ℕ → ℕ
    home = home_at i x.1.node x.0

    abbrev Ready : P.Stmt → Iteration → Type 0
    Ready = Typed c table around result loop

    here-inside : x.1.node < node_count g
    here-inside = subst (λ z. z < node_count g) (sym is_of.arrives) shows.inside

    none : (y : ℕ) → is_in its y ≡ true → is_register (variable_at c.declarations y) ≡ false
    none = no-locals c loop i able.outer able.inner able.two

    outer-here : is_in its n ≡ true
    outer-here = outer-in c loop i able.outer able.inner able.two

    at-j : (it : Iteration) → HoldNodes g its home it → node_in g (it.store.scalar i) ≡ Some j
    at-j it h = at-receiver c loop i able.outer able.inner able.two x.1.node x.0 here-inside it h ∙ ap Some is_of.arrives

    reductions-left : (k : Key) (total : TotalKey) (r' : Reduce) (ts : List Target) (es : List Expr) (it : Iteration) → inner_gives c i loose r' ts es ≡ true → Ready (P.Combine k total r' ts es) it → it.fault ≡ None → HoldNodes g its home it
        → Left c its true loop m home (does (P.Combine k total r' ts es) m loop it) (spots_in_all es k ++ reduce_spots false its (way_of c.declarations i ts) k total ts)
    reductions-left k total r' ts es it o y e h = inner-left c loop i able.depths able.two table around result none outer-here x.1.edge j home k total r' ts es it o y e h (at-j it h)

    reductions-give : (k : Key) (total : TotalKey) (r' : Reduce) (ts : List Target) (es : List Expr) (it : Iteration) → inner_gives c i loose r' ts es ≡ true → Ready (P.Combine k total r' ts es) it → HoldNodes g its home it
        → ((f : Spot) → HasSpot f (reduce_spots false its (way_of c.declarations i ts) k total ts) → HasSpot f all)
        → Gives (IsReceived c j all) it → Gives (IsReceived c j all) (does (P.Combine k total r' ts es) m loop it)
    reductions-give k total r' ts es it o y h e q =
        inner-give c loop i able.depths able.two table around result none outer-here x.1.edge j home all (IsReceived c j all) (λ z w. w) k total r' ts es it o y h (at-j it h) e q

    pub left-at : Has (turn x).fault all × Gives (IsReceived c j all) (turn x)
    left-at =
        turn-left c loop i able.outer able.inner able.two all key test body r (inner_gives c i loose) Ready (IsReceived c j all) incl (loosen test able.found) fits x is_of.from_inside here-inside
        (parts-typed c table around result loop m) (typed x.0 x.1.node is_of.from_inside here-inside)
        (λ k total r' ts es it o y e h. reductions-left k total r' ts es it o y e h) (λ k total r' ts es it o y h e q. reductions-give k total r' ts es it o y h e q)

  -- what a handler's run has done
  abbrev Nothing : List (ℕ × Step) → List Message → Type 0
  Nothing xs ms = ms ≡ []

  pub ran : (x : ℕ × Step) → Is x → Ran c v all j (turn x).with_outermost (turn x).fault (Nothing (x ∷ [])) (run x)
  ran x is_of =
      let q = gave-of x is_of in
      let t = left-at x is_of in
      record { fault = fault-part (turn x) (run x) (turn x).fault (run-ends x is_of); puts = q.puts; folds = q.folds; messages = q.messages; spotted = t.0; received = t.1.outermost }

  pub receives : (xs : List (ℕ × Step)) → AllIs xs → GivesApart (filter is_to_nodes (given_by turn xs))
      → Receives c v fields j r (given_by turn xs) (faults_by turn xs) (vertex_after p (receive_block c seg n i loads kind key test body) s (map message xs) fs)
  receives xs h apart =
      let t = takes c v p fields base all s hs fs j r message (λ x. (turn x).with_outermost) (λ x. (turn x).fault) Nothing nothing-joins able.apart refl fit shows.properties shows.field_count xs (λ x z. ran x (h x z)) apart in
      record { fault = t.fault; puts = t.puts; messages = t.messages; properties = t.properties; field_count = t.field_count }

pub receiving-steps : ReceivingStepsAreTurns
receiving-steps c p fields base all loop i loads kind key test body globals fs j r xs message table around result able typed incl fit shows h apart =
    receives c p fields base all loop i loads kind key test body globals fs j r message table around result able typed incl fit shows xs h apart
