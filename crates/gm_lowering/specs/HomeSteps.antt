-- Home loops: the step of a vertex with an each is the loop's iteration at its node.
use Rattle.std.specs.Prelude.{◌≡◌, ◌⊎◌, ℕ, true, false, Option, List, [], ◌∷◌, ◌++◌, length, map}
use Rattle.gm_base.specs.declared.places.Place.{Place}
use Rattle.gm_value.specs.declared.values.VType.{VType}
use Rattle.gm_value.specs.declared.values.Value.{Value}
use Rattle.gm_ast.specs.declared.tree.Domain.TheVariants.{OutNbrs, InNbrs}
use Rattle.gm_ast.specs.declared.tree.Head.{Head}
use Rattle.gm_ast.specs.declared.tree.Key.{Key}
use Rattle.gm_ast.specs.Program.{Expr, Stmt, Foreach}
use Rattle.gm_semantics.specs.Contributions.{Contribution}
use Rattle.gm_semantics.specs.Faults.{joined}
use Rattle.gm_semantics.specs.Iterations.{Loop, Iteration}
use Rattle.gm_semantics.specs.Loops.{iteration}
use Rattle.gm_semantics.specs.Stores.{Store}
use Rattle.gm_typed_stores.specs.Tells.{TypeTable}
use Rattle.gm_image.specs.Program.{Program, Block}
use Rattle.gm_machine.specs.Machine.{context_at}
use Rattle.gm_machine.specs.Vertex.{steps, vertex_after}
use Rattle.gm_lowering.specs.Layouts.{Layout}
use Rattle.gm_lowering.specs.Places.{Spot, Segment, segment, spots_in}
use Rattle.gm_lowering.specs.Terms.{term, own_env}
use Rattle.gm_lowering.specs.Bodies.{under, spots_of}
use Rattle.gm_lowering.specs.Blocks.{body_block, direction_of, each_lines}
use Rattle.gm_lowering.specs.OwnLoops.{own_finds, NodeShows, StepEnds}
use Rattle.gm_lowering.specs.MessageLoops.{TurnsTyped}
use Rattle.gm_lowering.specs.Settles.{HasSpot, HaveRoom}
use Rattle.gm_lowering.specs.Phases.{EdgesShown, GivesApart}
use Rattle.gm_lowering.specs.Receiving.{turn_of}
use Rattle.gm_lowering.specs.TwoSupersteps.{StepsWithin}
use Rattle.gm_lowering.specs.HomeTurns.{home_lines, IsHomeLoop}

-- the block of a home loop
abbrev pub home_block : Layout → Segment → ℕ → ℕ → Key → Expr → Head → Key → Expr → Stmt → Block
home_block c seg n kind mask_key mask h key test body =
    body_block (under (term (own_env c seg n) mask_key mask) (each_lines h.domain (home_lines c seg n h.iterator kind key test body)))

-- the spots of the inner loop
abbrev pub each_spots : Layout → ℕ → ℕ → Key → Expr → Stmt → List Spot
each_spots c n i key test body = spots_in test key ++ spots_of c n (n ∷ i ∷ []) false body

-- the turns of the inner loop at a node
abbrev pub home_turns : Loop → Head → Key → Expr → Stmt → Store → ℕ → List Iteration
home_turns loop h key test body r k = map (λ e. turn_of loop h.iterator key test body r (k, e)) (steps (direction_of h.domain) loop.graph k)

-- what ends with it
abbrev pub given_inside : List Iteration → List Contribution
given_inside turns = joined (map (λ t. t.with_inner) turns)

-- the outer part of a home loop: the inner loop is over neighbours of the outer iterator, and the mask is found at the node
pub record HasEach (c : Layout) (loop : Loop) (mask : Expr) (h : Head) : Type 0 where
  pub neighbours : (h.domain ≡ OutNbrs) ⊎ (h.domain ≡ InNbrs)
  pub owner : h.owner ≡ loop.outer
  pub found : own_finds c loop.outer mask ≡ true

-- the step of each vertex with a home loop's block is the loop's iteration there, where what it picks has types
abbrev pub HomeStepsAreIterations : Type 0
HomeStepsAreIterations =
    (c : Layout) (p : Program) (fields base : ℕ) (all : List Spot) (loop : Loop) (kind : ℕ) (mask_key : Key) (mask : Expr) (key : Key) (place : Place) (h : Head) (test : Expr) (body : Stmt)
    (globals values : List Value) (k : ℕ) (r : Store) (table : TypeTable) (its : List ℕ) (result : Option VType)
    → HasEach c loop mask h
    → IsHomeLoop c p.registers fields loop h.iterator test body
    → TurnsTyped c table its result loop h.iterator body r
    → ((f : Spot) → HasSpot f (each_spots c loop.outer h.iterator key test body) → HasSpot f all)
    → HaveRoom base all (length p.places)
    → NodeShows c loop.graph p.registers fields globals values k r
    → EdgesShown c loop.graph r
    → StepsWithin loop.graph h.domain
    → GivesApart (given_inside (home_turns loop h key test body r k))
    → let it = iteration loop mask_key mask (Foreach key place h test body) r k in
    let seg = segment base all in
    StepEnds c (own_env c seg loop.outer) fields k it (vertex_after p (home_block c seg loop.outer kind mask_key mask h key test body) (context_at loop.graph globals k) [] values) it.fault
