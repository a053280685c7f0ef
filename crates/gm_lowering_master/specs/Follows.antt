-- What it is that the master list follows a statement of a sequential phase.
use Rattle.std.specs.Prelude.{◌≡◌, ◌≤◌, ℕ, ◌+◌, nat_lt, Bool, true, false, not, ◌&&◌, Some, None, Result, Ok, Err, List, ◌∷◌, length}
use Rattle.gm_base.specs.declared.places.Place.{Place}
use Rattle.gm_value.specs.declared.values.Value.{Value}
use Rattle.gm_model.specs.declared.outcomes.Outcome.TheVariants as outcomes
use Rattle.gm_model.specs.declared.outcomes.RunEnd.{RunEnd}
use Rattle.gm_ast.specs.declared.tree.Head.{Head}
use Rattle.gm_ast.specs.declared.tree.Key.{Key}
use Rattle.gm_ast.specs.declared.tree.Target.TheVariants as T
use Rattle.gm_ast.specs.Program.{Expr, Const, Var, NodeCount, EdgeCount, Live, Unary, Binary, Both, Either, Choose, Stmt, Skip, Then, Declare, Assign, Combine, Foreach, For, If, While, Do, Return}
use Rattle.gm_semantics.specs.declared.faults.Fault.{Fault}
use Rattle.gm_semantics.specs.Levels.{numbers_from, nodes, no_levels}
use Rattle.gm_semantics.specs.Loops.{parallel}
use Rattle.gm_semantics.specs.Statements.{State, Course, Goes, Returns, Faults, Stops, variable_at, loop_of, sequential}
use Rattle.gm_semantics.specs.Stores.{Store}
use Rattle.gm_typed_stores.specs.Laws.{IsTypedPoint}
use Rattle.gm_typed_stores.specs.Points.{Reaches}
use Rattle.gm_image.specs.Program.{Program}
use Rattle.gm_machine.specs.declared.faults.Fault as M
use Rattle.gm_machine.specs.Machine.{Nodes, Stepped, place_at}
use Rattle.gm_lowering.specs.Blocks.{loop}
use Rattle.gm_lowering.specs.Layouts.{Layout, is_register, has_value, nesting}
use Rattle.gm_lowering.specs.Lowered as L
use Rattle.gm_lowering.specs.Lowered.{part, past, lines_on, places_on, deeper, test_lines}
use Rattle.gm_lowering.specs.Phases.{NodesInGraph, OthersKept}
use Rattle.gm_lowering.specs.Places.{segment, shown_places, spot_at, spots_in}
use Rattle.gm_lowering.specs.Terms.{master_env, term}
use Rattle.gm_lowering_master.specs.Runs.{Moment, ends_from, supersteps, StandsAt}
use Rattle.gm_lowering_master.specs.Cells.{Setting, IsSetting, is_scalar, Between, IsAt, Kept, HasResult}

-- whether an expression of scalars and counts is told in the master list: its variables are declared scalars or nodes, and no locals of loops
abbrev pub tells : Layout → Expr → Bool
tells c (Const v) = true
tells c (Var x at) =
    nat_lt x (length c.declarations) && (not (is_register (variable_at c.declarations x)) && has_value (variable_at c.declarations x))
tells c NodeCount = true
tells c EdgeCount = true
tells c (Unary op at e) = tells c e
tells c (Binary op at a b) = tells c a && tells c b
tells c (Both a b) = tells c a && tells c b
tells c (Either a b) = tells c a && tells c b
tells c (Choose e a b) = tells c e && (tells c a && tells c b)
tells c _ = false

-- what a scalar may be set to: the same, or the node of a scalar
abbrev pub is_told_value : Layout → Expr → Bool
is_told_value c (Live x at) = is_scalar c x
is_told_value c e = tells c e

-- whether a statement is one that the master list follows: it sets scalars of the procedure, and returns a value only where the procedure has a result
abbrev pub is_followed : Layout → Bool → Stmt → Bool
is_followed c returns Skip = true
is_followed c returns (Then a b) = is_followed c returns a && is_followed c returns b
is_followed c returns (Declare k x None) = nat_lt x (length c.declarations) && not (is_register (variable_at c.declarations x))
is_followed c returns (Declare k x (Some e)) = is_scalar c x && is_told_value c e
is_followed c returns (Assign k (T.Scalar x at) e) = is_scalar c x && is_told_value c e
is_followed c returns (Combine k total r ts es) = true
is_followed c returns (Foreach k at h test body) = true
is_followed c returns (For k at h test body) = is_scalar c h.iterator && (tells c test && is_followed c returns body)
is_followed c returns (If k test a b) = tells c test && (is_followed c returns a && is_followed c returns b)
is_followed c returns (While k at test body) = tells c test && is_followed c returns body
is_followed c returns (Do k at body test) = tells c test && is_followed c returns body
is_followed c returns (Return k at None) = true
is_followed c returns (Return k at (Some e)) = returns && tells c e
is_followed c returns _ = false

-- a fault of the machine is one of the program: of its kind, at the place that it shows
abbrev pub IsFault : Program → M.Fault → Fault → Type 0
IsFault p m f = (m.kind ≡ f.kind) × (place_at p m.place ≡ f.shown)

-- supersteps end as a parallel loop does: with a store that they leave, or with its fault. Other globals keep their values
abbrev pub StepsAre : Setting → List Value → Result Store Fault → Stepped → Type 0
StepsAre s globals (Ok r) t = (t.fault ≡ None) × Between s t.globals t.nodes r × OthersKept s.frame.layout globals t.globals
StepsAre s globals (Err f) t = (m : M.Fault) × (t.fault ≡ Some m) × IsFault s.image m f

-- a point of the program's run: the store and the statement that begins have types, and nodes in scalars of the procedure are nodes of the graph
pub record IsPoint (s : Setting) (its : List ℕ) (st : Stmt) (state : State) : Type 0 where
  pub typed : IsTypedPoint s.table s.result its st state
  pub in_graph : NodesInGraph s.frame.layout s.run.graph state.store

-- the supersteps of a loop's blocks are the loop, at each point where it begins, where blocks and places of the image are the loop's
abbrev pub LoopGoes : Setting → L.At → Key → Place → Head → Expr → Stmt → Type 0
LoopGoes s at k place h test body =
    let l = loop s.frame.layout at.place at.kind h.iterator k test body in
    StandsAt s.image.blocks at.block l.blocks → StandsAt s.image.places at.place (shown_places l.segment)
    → (globals : List Value) (held : Nodes) (its : List ℕ) (state : State) → Between s globals held state.store → IsPoint s its (Foreach k place h test body) state
    → StepsAre s globals (parallel (loop_of s.run no_levels h.iterator body) k test body (nodes s.run.graph) state.store)
    (supersteps s.image s.run.graph (numbers_from at.block (length l.blocks)) globals held)

-- a run ends as one that a course of the program leads to: it goes on at a line, or at the end, in a moment of the course's state; or it has the course's outcome
abbrev pub CourseIs : Setting → ℕ → ℕ → Moment → RunEnd → Course → Type 0
CourseIs s depth line old e (Goes state) =
    (m : Moment) × (e ≡ ends_from s.image s.run.graph line m) × IsAt s m state × Kept s depth old.control.globals m.control.globals × (m.left ≤ old.left)
CourseIs s depth line old e (Returns v state) =
    (m : Moment) × (e ≡ ends_from s.image s.run.graph s.frame.finish m) × IsAt s m state × HasResult s v old.control.globals m.control.globals
CourseIs s depth line old e (Faults f) = e.outcome ≡ outcomes.Fault f.kind f.shown
CourseIs s depth line old e Stops = e.outcome ≡ outcomes.Cut s.run.bound

-- the lines of a part of the master list, its blocks and its places are the image's; and the run ends behind it
pub record Stands (s : Setting) (at : L.At) (x : L.Part) : Type 0 where
  pub within : at.line + length x.commands ≤ s.frame.finish
  pub commands : StandsAt s.image.master at.line x.commands
  pub blocks : StandsAt s.image.blocks at.block x.blocks
  pub places : StandsAt s.image.places at.place x.places

-- the lines of a statement do what the statement does, from each moment of a point where it begins, where no more loops with a counter or a flag are around than may be
abbrev pub StatementGoes : Setting → L.At → Stmt → Type 0
StatementGoes s at st =
    let x = part s.frame st at in
    at.depth ≤ s.depth → Stands s at x → (m : Moment) (its : List ℕ) (state : State) → IsAt s m state → IsPoint s its st state
    → CourseIs s at.depth (at.line + length x.commands) m (ends_from s.image s.run.graph at.line m) (sequential st s.run state)

-- what is asked of each parallel loop in a statement: that its supersteps are the loop; and of each reduction that is done at once: that its lines do what it does
abbrev pub LoopsGo : Setting → Stmt → L.At → Type 0
LoopsGo s (Then a b) at = LoopsGo s a at × LoopsGo s b (past s.frame at a (part s.frame a at))
LoopsGo s (Combine k total r ts es) at = StatementGoes s at (Combine k total r ts es)
LoopsGo s (Foreach k place h test body) at = LoopGoes s at k place h test body
LoopsGo s (If k test a b) at =
    let g = segment at.place (spots_in test k) in
    let start = lines_on 1 (places_on (shown_places g) at) in
    LoopsGo s a start × LoopsGo s b (lines_on 1 (past s.frame start a (part s.frame a start)))
LoopsGo s (While k place test body) at =
    let g = segment at.place (spots_in test k) in
    LoopsGo s body (lines_on 1 (places_on (shown_places g) at))
LoopsGo s (Do k place body test) at =
    let g = segment at.place (spots_in test k) in
    LoopsGo s body (lines_on 3 (deeper (places_on (shown_places g) at)))
LoopsGo s (For k place h test body) at =
    let g = segment at.place (spot_at k place ∷ spots_in test k) in
    let tests = length (test_lines 0 (term (master_env s.frame.layout g) k test)) in
    LoopsGo s body (lines_on (4 + tests) (deeper (places_on (shown_places g) at)))
LoopsGo s _ at = Unit {0}

-- wherever a statement in a statement's run begins there is a point
abbrev pub ArePoints : Setting → List ℕ → Stmt → State → Type 0
ArePoints s its st state = (others : List ℕ) (x : Stmt) (b : State) → Reaches s.run its st state others x b → IsPoint s others x b

-- the master list follows a statement, where each of its loops goes
abbrev pub StatementsAreFollowed : Type 0
StatementsAreFollowed =
    (s : Setting) (st : Stmt) (at : L.At) (its : List ℕ) (m : Moment) (state : State)
    → IsSetting s → is_followed s.frame.layout s.returns st ≡ true → at.depth + nesting st ≤ s.depth → Stands s at (part s.frame st at)
    → LoopsGo s st at → ArePoints s its st state → IsAt s m state
    → CourseIs s at.depth (at.line + length (part s.frame st at).commands) m (ends_from s.image s.run.graph at.line m) (sequential st s.run state)
