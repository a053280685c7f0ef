-- One superstep of a home loop's block is the loop.
use Rattle.std.specs.Prelude.{◌≡◌, ◌<◌, ◌≤◌, ◌+◌, ℕ, Option, List, [], ◌∷◌, ◌++◌, length}
use Rattle.gm_base.specs.declared.places.Place.{Place}
use Rattle.gm_value.specs.declared.values.VType.{VType}
use Rattle.gm_value.specs.declared.values.Value.{Value}
use Rattle.gm_model.specs.Graphs.{node_count}
use Rattle.gm_ast.specs.declared.tree.Head.{Head}
use Rattle.gm_ast.specs.declared.tree.Key.{Key}
use Rattle.gm_ast.specs.Program.{Expr, Stmt, Foreach}
use Rattle.gm_lowering.specs.Blocks.{each_loop}
use Rattle.gm_lowering.specs.Plans.{aways}
use Rattle.gm_semantics.specs.Iterations.{Loop}
use Rattle.gm_semantics.specs.Levels.{nodes}
use Rattle.gm_semantics.specs.Loops.{parallel}
use Rattle.gm_semantics.specs.Stores.{Store}
use Rattle.gm_typed_stores.specs.Tells.{TypeTable}
use Rattle.gm_image.specs.Program.{Program}
use Rattle.gm_machine.specs.Machine.{Nodes, block_at, superstep}
use Rattle.gm_lowering.specs.Layouts.{Layout}
use Rattle.gm_lowering.specs.Places.{Spot, segment, spots_in}
use Rattle.gm_lowering.specs.Terms.{own_env}
use Rattle.gm_lowering.specs.Phases.{GlobalsApart, NodesInGraph, EdgesShown, Shown, StepIs, GivesApart, given_in}
use Rattle.gm_lowering.specs.TwoSupersteps.{StepsWithin}
use Rattle.gm_lowering.specs.MessageLoops.{TurnsTyped}
use Rattle.gm_lowering.specs.HomeTurns.{IsHomeLoop}
use Rattle.gm_lowering.specs.HomeSteps.{home_block, each_spots, home_turns, given_inside, HasEach}
use Rattle.gm_lowering.specs.Settles.{HaveRoom}

-- the spots of a home loop
abbrev pub home_spots : Layout → ℕ → ℕ → Key → Expr → Key → Expr → Stmt → List Spot
home_spots c n i mask_key mask key test body = spots_in mask mask_key ++ each_spots c n i key test body

-- one superstep with a home loop's block is the loop, where what it picks has types
abbrev pub HomeLoopsAreSupersteps : Type 0
HomeLoopsAreSupersteps =
    (c : Layout) (p : Program) (fields base q kind : ℕ) (loop : Loop) (mask_key : Key) (mask : Expr) (key : Key) (place : Place) (h : Head) (test : Expr) (body : Stmt)
    (globals : List Value) (s : Nodes) (r : Store) (table : TypeTable) (its : List ℕ) (result : Option VType)
    → let inner = Foreach key place h test body in
    let all = home_spots c loop.outer h.iterator mask_key mask key test body in
    let seg = segment base all in
    HasEach c loop mask h
    → IsHomeLoop c p.registers fields loop h.iterator test body
    → TurnsTyped c table its result loop h.iterator body r
    → GlobalsApart c (length globals)
    → HaveRoom base all (length p.places)
    → block_at p q ≡ home_block c seg loop.outer kind mask_key mask h key test body
    → Shown c p.registers fields loop.graph globals s r
    → EdgesShown c loop.graph r
    → NodesInGraph c loop.graph r
    → StepsWithin loop.graph h.domain
    → GivesApart (given_in loop mask_key mask inner r)
    → ((k : ℕ) → k < node_count loop.graph → GivesApart (given_inside (home_turns loop h key test body r k)))
    → StepIs c (own_env c seg loop.outer) all p.registers fields loop.graph globals
    (parallel loop mask_key mask inner (nodes loop.graph) r) (superstep p loop.graph q globals s)

-- an inner loop at its outer node whose body sends nothing has one block
abbrev pub HomeLoopsHaveOneBlock : Type 0
HomeLoopsHaveOneBlock =
    (c : Layout) (base kind n : ℕ) (mask_key : Key) (mask : Expr) (key : Key) (h : Head) (test : Expr) (body : Stmt) → aways c.declarations n body ≡ []
    → (each_loop c base kind n mask_key mask key h test body).blocks
    ≡ home_block c (segment base (home_spots c n h.iterator mask_key mask key test body)) n kind mask_key mask h key test body ∷ []
