-- Loops of each kind go in the master list: their supersteps are the loop. And reductions that are done at once go: their lines are the reduction.
use Rattle.std.specs.Prelude.{◌≡◌, ◌<◌, ◌⊎◌, ℕ, nat_eq, Bool, true, false, List, [], ◌++◌, map, length}
use Rattle.std.specs.List.{list_all}
use Rattle.gm_base.specs.declared.places.Place.{Place}
use Rattle.gm_value.specs.Bag.{IsIn}
use Rattle.gm_value.specs.declared.reductions.Reduce.{Reduce}
use Rattle.gm_model.specs.Graphs.{node_count}
use Rattle.gm_ast.specs.declared.tree.Domain.TheVariants.{OutNbrs, InNbrs}
use Rattle.gm_ast.specs.declared.tree.Head.{Head}
use Rattle.gm_ast.specs.declared.tree.Key.{Key}
use Rattle.gm_ast.specs.declared.tree.Target.{Target}
use Rattle.gm_ast.specs.declared.tree.Target.TheVariants as T
use Rattle.gm_ast.specs.declared.tree.TotalKey.{TotalKey}
use Rattle.gm_ast.specs.Program.{Expr, Stmt, Combine, Foreach}
use Rattle.gm_forms.specs.Typing.{keeps_tuples}
use Rattle.gm_semantics.specs.Faults.{somes}
use Rattle.gm_semantics.specs.Iterations.{Loop}
use Rattle.gm_semantics.specs.Levels.{no_levels, nodes}
use Rattle.gm_semantics.specs.Loops.{iteration, own_left}
use Rattle.gm_semantics.specs.Statements.{State, variable_at, loop_of}
use Rattle.gm_lowering.specs.Layouts.{Layout, is_register, phase_positions, body_positions}
use Rattle.gm_lowering.specs.Plans.{carried, is_here, Away, aways}
use Rattle.gm_lowering.specs.Places.{spots_in}
use Rattle.gm_lowering.specs.Blocks.{reads_scalar}
use Rattle.gm_lowering.specs.Sites.{is_body, is_local, same_length}
use Rattle.gm_lowering.specs.OwnLoops.{own_finds, own_sets, own_gives, are_any, HasSpares}
use Rattle.gm_lowering.specs.Phases.{GivesApart, given_in, own_spots}
use Rattle.gm_lowering.specs.MessageLoops.{receiver_finds, sets_nothing, inner_gives}
use Rattle.gm_lowering.specs.Receiving.{inner_spots}
use Rattle.gm_lowering.specs.TwoSupersteps.{is_readable}
use Rattle.gm_lowering.specs.HomeTurns.{home_finds}
use Rattle.gm_lowering.specs.HomeSteps.{home_turns, given_inside}
use Rattle.gm_lowering.specs.HomeLoops.{home_spots}
use Rattle.gm_lowering.specs.Shown.{ShowOne}
use Rattle.gm_lowering.specs.Lowered as L
use Rattle.gm_lowering.specs.OwnSends.{sending_gives}
use Rattle.gm_lowering.specs.TakingSteps.{IsTaken}
use Rattle.gm_lowering.specs.Sent.{sender_gives}
use Rattle.gm_lowering.specs.SenderLoops.{TotalsLast}
use Rattle.gm_lowering.specs.ReceiverSends.{tells_sent}
use Rattle.gm_lowering.specs.SentBehind.{SentBehind}
use Rattle.gm_lowering.specs.ReceiverSendLoops.{SentLast}
use Rattle.gm_lowering_master.specs.Cells.{Setting, IsSetting, HasSpareGlobals, is_scalar}
use Rattle.gm_lowering_master.specs.Follows.{tells, IsPoint, LoopGoes, StatementGoes}

-- there are spare globals for the tuples that a sequential phase keeps
abbrev pub HasPhaseSpares : Setting → Stmt → Type 0
HasPhaseSpares s st = HasSpareGlobals s.frame.layout s.returns s.depth (length s.image.globals) (phase_positions s.frame.layout.declarations st)

-- whether a target is a scalar of the procedure
abbrev pub is_phase_target : Layout → Target → Bool
is_phase_target c (T.Scalar x at) = is_scalar c x
is_phase_target c (T.Property x p at) = false

-- a reduction that a sequential phase does at once: scalars of the procedure keep by Min or Max the better of what they hold and of values that the master list tells
pub record IsPick (c : Layout) (r : Reduce) (ts : List Target) (es : List Expr) : Type 0 where
  pub keeps : keeps_tuples r ≡ true
  pub some : are_any ts ≡ true
  pub scalars : list_all (is_phase_target c) ts ≡ true
  pub long : same_length ts es ≡ true
  pub told : list_all (tells c) es ≡ true

-- its lines do what it does, where there are spare globals for its tuple
abbrev pub PicksGo : Type 0
PicksGo =
    (s : Setting) (at : L.At) (k : Key) (total : TotalKey) (r : Reduce) (ts : List Target) (es : List Expr)
    → IsSetting s → IsPick s.frame.layout r ts es → HasPhaseSpares s (Combine k total r ts es)
    → StatementGoes s at (Combine k total r ts es)

-- a parallel loop of the sequential phase
abbrev pub phase_loop : Setting → ℕ → Stmt → Loop
phase_loop s n body = loop_of s.run no_levels n body

-- at each point where a loop begins it gives to each slot by one reduction, and to one target by one total in each statement
abbrev pub GiveApart : Setting → Key → Place → Head → Expr → Stmt → Type 0
GiveApart s k place h test body =
    (its : List ℕ) (state : State) → IsPoint s its (Foreach k place h test body) state
    → GivesApart (given_in (phase_loop s h.iterator body) k test body state.store)

-- there are spare registers for the tuples that loops of a statement keep
abbrev pub HasBodySpares : Setting → Stmt → Type 0
HasBodySpares s st = HasSpares s.frame.layout (length s.image.registers) (body_positions s.frame.layout.declarations st)

-- a loop of own statements: its iterator is no local; filter and body are found at its node; and it reduces to scalars of the procedure, and at once to properties of its node and to its locals
pub record IsOwn (c : Layout) (n : ℕ) (k : Key) (test : Expr) (body : Stmt) : Type 0 where
  pub iterator : is_register (variable_at c.declarations n) ≡ false
  pub found : own_finds c n test ≡ true
  pub fits : is_body c (own_finds c n) (own_sets c n) (own_gives c n (own_finds c n)) body ≡ true
  pub shows : ShowOne (own_spots c n k test body)

-- the superstep of such a loop is the loop, where there are spare registers for its tuples
abbrev pub OwnLoopsGo : Type 0
OwnLoopsGo =
    (s : Setting) (at : L.At) (k : Key) (place : Place) (h : Head) (test : Expr) (body : Stmt)
    → IsSetting s → IsOwn s.frame.layout h.iterator k test body → HasBodySpares s body → GiveApart s k place h test body
    → LoopGoes s at k place h test body

-- a loop of own statements that sends through node variables: it may do what one does that sends nothing, and sends by one reduction at least, whose totals are among its spots
pub record IsOwnSending (c : Layout) (n : ℕ) (k : Key) (test : Expr) (body : Stmt) : Type 0 where
  pub iterator : is_register (variable_at c.declarations n) ≡ false
  pub found : own_finds c n test ≡ true
  pub fits : is_body c (own_finds c n) (own_sets c n) (sending_gives c n (own_finds c n)) body ≡ true
  pub sends : are_any (aways c.declarations n body) ≡ true
  pub taken : (a : Away) → IsIn a (aways c.declarations n body) → IsTaken c (own_spots c n k test body) a
  pub shows : ShowOne (own_spots c n k test body)

-- the totals of what it sends come behind all its other faults, at each point where it begins, when nodes have set what they set
abbrev pub OwnTotalsLast : Setting → Key → Place → Head → Expr → Stmt → Type 0
OwnTotalsLast s k place h test body =
    let loop = phase_loop s h.iterator body in
    (its : List ℕ) (state : State) → IsPoint s its (Foreach k place h test body) state
    → let turns = map (iteration loop k test body state.store) (nodes loop.graph) in
    TotalsLast (somes (map (λ it. it.fault) turns)) (own_left state.store (nodes loop.graph) turns) (given_in loop k test body state.store)

-- the two supersteps of such a loop are the loop, where there are spare registers for its tuples
abbrev pub OwnSendingLoopsGo : Type 0
OwnSendingLoopsGo =
    (s : Setting) (at : L.At) (k : Key) (place : Place) (h : Head) (test : Expr) (body : Stmt)
    → IsSetting s → IsOwnSending s.frame.layout h.iterator k test body → HasBodySpares s body → GiveApart s k place h test body
    → OwnTotalsLast s k place h test body
    → LoopGoes s at k place h test body

-- two iterators that are no locals, of a loop over nodes and of one over the neighbours of its node
pub record AreNested (c : Layout) (n : ℕ) (h : Head) : Type 0 where
  pub outer : is_register (variable_at c.declarations n) ≡ false
  pub inner : is_register (variable_at c.declarations h.iterator) ≡ false
  pub two : nat_eq h.iterator n ≡ false
  pub neighbours : (h.domain ≡ OutNbrs) ⊎ (h.domain ≡ InNbrs)
  pub owner : h.owner ≡ n

-- a message loop: the mask is found at the sender and has nothing that can fault; the sender can read what messages carry; and filter and body are found at the receiver, which reduces to scalars of the procedure and to its own properties, and at once to its locals
pub record IsMessage (c : Layout) (n : ℕ) (k : Key) (mask : Expr) (j : Key) (h : Head) (test : Expr) (body : Stmt) : Type 0 where
  pub nested : AreNested c n h
  pub away : is_here c.declarations n h test body ≡ false
  pub masked : own_finds c n mask ≡ true
  pub quiet : spots_in mask k ≡ []
  pub readable : list_all (is_readable c) (carried n test body) ≡ true
  pub found : receiver_finds c n h.iterator (carried n test body) test ≡ true
  pub fits : is_body c (receiver_finds c n h.iterator (carried n test body)) sets_nothing (inner_gives c h.iterator (receiver_finds c n h.iterator (carried n test body))) body ≡ true
  pub shows : ShowOne (spots_in mask k ++ inner_spots c n h.iterator j test body)

-- the two supersteps of such a loop are the loop, where there are spare registers for its tuples
abbrev pub MessageLoopsGo : Type 0
MessageLoopsGo =
    (s : Setting) (at : L.At) (k : Key) (place : Place) (outer : Head) (mask : Expr) (j : Key) (inner_place : Place) (h : Head) (test : Expr) (body : Stmt)
    → let inner = Foreach j inner_place h test body in
    IsSetting s → IsMessage s.frame.layout outer.iterator k mask j h test body → HasBodySpares s body → GiveApart s k place outer mask inner
    → LoopGoes s at k place outer mask inner

-- a home loop: the mask is found at the node; the filter reads no locals; and filter and body are found at the node, but for the neighbour itself and the edge's values. It reduces to scalars of the procedure and to the node's own properties, and at once to its locals
pub record IsHome (c : Layout) (n : ℕ) (k : Key) (mask : Expr) (j : Key) (h : Head) (test : Expr) (body : Stmt) : Type 0 where
  pub nested : AreNested c n h
  pub here : is_here c.declarations n h test body ≡ true
  pub masked : own_finds c n mask ≡ true
  pub plain : (x : ℕ) → is_local c x ≡ true → reads_scalar x test ≡ false
  pub found : home_finds c n h.iterator test ≡ true
  pub fits : is_body c (home_finds c n h.iterator) sets_nothing (inner_gives c n (home_finds c n h.iterator)) body ≡ true
  pub shows : ShowOne (home_spots c n h.iterator k mask j test body)

-- and so do the turns at each node
abbrev pub GiveApartInside : Setting → Key → Place → Head → Expr → Key → Place → Head → Expr → Stmt → Type 0
GiveApartInside s k place outer mask j inner_place h test body =
    let inner = Foreach j inner_place h test body in
    (its : List ℕ) (state : State) (m : ℕ) → IsPoint s its (Foreach k place outer mask inner) state → m < node_count s.run.graph
    → GivesApart (given_inside (home_turns (phase_loop s outer.iterator inner) h j test body state.store m))

-- the superstep of such a loop is the loop, where there are spare registers for its tuples
abbrev pub HomeLoopsGo : Type 0
HomeLoopsGo =
    (s : Setting) (at : L.At) (k : Key) (place : Place) (outer : Head) (mask : Expr) (j : Key) (inner_place : Place) (h : Head) (test : Expr) (body : Stmt)
    → let inner = Foreach j inner_place h test body in
    IsSetting s → IsHome s.frame.layout outer.iterator k mask j h test body → HasBodySpares s body → GiveApart s k place outer mask inner
    → GiveApartInside s k place outer mask j inner_place h test body
    → LoopGoes s at k place outer mask inner

-- a loop whose eaches send: the mask is found at the node; the filter reads no locals; and filter and body are found at the node, but for the neighbour itself and the edge's values. It reduces to scalars of the procedure, to the neighbour's properties and through node variables, sends by one reduction at least, whose totals are among its spots, and reduces at once to its locals
pub record IsSending (c : Layout) (n : ℕ) (k : Key) (mask : Expr) (j : Key) (h : Head) (test : Expr) (body : Stmt) : Type 0 where
  pub nested : AreNested c n h
  pub each : is_here c.declarations n h test body ≡ true
  pub masked : own_finds c n mask ≡ true
  pub plain : (x : ℕ) → is_local c x ≡ true → reads_scalar x test ≡ false
  pub found : home_finds c n h.iterator test ≡ true
  pub fits : is_body c (home_finds c n h.iterator) sets_nothing (sender_gives c n h.iterator (home_finds c n h.iterator)) body ≡ true
  pub sends : are_any (aways c.declarations n body) ≡ true
  pub taken : (a : Away) → IsIn a (aways c.declarations n body) → IsTaken c (home_spots c n h.iterator k mask j test body) a
  pub shows : ShowOne (home_spots c n h.iterator k mask j test body)

-- the totals of what it sends come behind all its other faults, at each point where it begins
abbrev pub SentTotalsLast : Setting → Key → Place → Head → Expr → Key → Place → Head → Expr → Stmt → Type 0
SentTotalsLast s k place outer mask j inner_place h test body =
    let inner = Foreach j inner_place h test body in
    let loop = phase_loop s outer.iterator inner in
    (its : List ℕ) (state : State) → IsPoint s its (Foreach k place outer mask inner) state
    → TotalsLast (somes (map (λ it. it.fault) (map (iteration loop k mask inner state.store) (nodes loop.graph)))) state.store (given_in loop k mask inner state.store)

-- the two supersteps of such a loop are the loop, where there are spare registers for its tuples
abbrev pub SendingLoopsGo : Type 0
SendingLoopsGo =
    (s : Setting) (at : L.At) (k : Key) (place : Place) (outer : Head) (mask : Expr) (j : Key) (inner_place : Place) (h : Head) (test : Expr) (body : Stmt)
    → let inner = Foreach j inner_place h test body in
    IsSetting s → IsSending s.frame.layout outer.iterator k mask j h test body → HasBodySpares s body → GiveApart s k place outer mask inner
    → SentTotalsLast s k place outer mask j inner_place h test body
    → LoopGoes s at k place outer mask inner

-- a message loop whose receivers send through node variables: as one whose receivers do not, and it reduces besides through node variables, by one reduction at least, whose totals are among its spots; properties and statements tell which reductions these are
pub record IsReceiverSending (c : Layout) (n : ℕ) (k : Key) (mask : Expr) (j : Key) (h : Head) (out : List (ℕ × ℕ)) (test : Expr) (body : Stmt) : Type 0 where
  pub nested : AreNested c n h
  pub away : is_here c.declarations n h test body ≡ false
  pub masked : own_finds c n mask ≡ true
  pub quiet : spots_in mask k ≡ []
  pub readable : list_all (is_readable c) (carried n test body) ≡ true
  pub found : receiver_finds c n h.iterator (carried n test body) test ≡ true
  pub fits : is_body c (receiver_finds c n h.iterator (carried n test body)) sets_nothing (sender_gives c n h.iterator (receiver_finds c n h.iterator (carried n test body))) body ≡ true
  pub told : tells_sent c.declarations h.iterator out body ≡ true
  pub sends : are_any (aways c.declarations h.iterator body) ≡ true
  pub taken : (a : Away) → IsIn a (aways c.declarations h.iterator body) → IsTaken c (spots_in mask k ++ inner_spots c n h.iterator j test body) a
  pub shows : ShowOne (spots_in mask k ++ inner_spots c n h.iterator j test body)

-- what its receivers send to a property comes behind what they reduce to it themselves, at each point where it begins
abbrev pub ReceiversSendBehind : Setting → Key → Place → Head → Expr → Key → Place → Head → List (ℕ × ℕ) → Expr → Stmt → Type 0
ReceiversSendBehind s k place outer mask j inner_place h out test body =
    let inner = Foreach j inner_place h test body in
    (its : List ℕ) (state : State) → IsPoint s its (Foreach k place outer mask inner) state
    → SentBehind out (given_in (phase_loop s outer.iterator inner) k mask inner state.store)

-- the totals of what its receivers send come behind all its other faults, at each point where it begins
abbrev pub ReceiversTotalsLast : Setting → Key → Place → Head → Expr → Key → Place → Head → List (ℕ × ℕ) → Expr → Stmt → Type 0
ReceiversTotalsLast s k place outer mask j inner_place h out test body =
    let inner = Foreach j inner_place h test body in
    let loop = phase_loop s outer.iterator inner in
    (its : List ℕ) (state : State) → IsPoint s its (Foreach k place outer mask inner) state
    → SentLast out (somes (map (λ it. it.fault) (map (iteration loop k mask inner state.store) (nodes loop.graph)))) state.store (given_in loop k mask inner state.store)

-- the three supersteps of such a loop are the loop, where there are spare registers for its tuples
abbrev pub ReceiverSendingLoopsGo : Type 0
ReceiverSendingLoopsGo =
    (s : Setting) (at : L.At) (k : Key) (place : Place) (outer : Head) (mask : Expr) (j : Key) (inner_place : Place) (h : Head) (out : List (ℕ × ℕ)) (test : Expr) (body : Stmt)
    → let inner = Foreach j inner_place h test body in
    IsSetting s → IsReceiverSending s.frame.layout outer.iterator k mask j h out test body → HasBodySpares s body → GiveApart s k place outer mask inner
    → ReceiversSendBehind s k place outer mask j inner_place h out test body
    → ReceiversTotalsLast s k place outer mask j inner_place h out test body
    → LoopGoes s at k place outer mask inner
