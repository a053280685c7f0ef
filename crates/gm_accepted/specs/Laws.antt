-- What holds of an accepted program.
use Rattle.std.specs.Prelude.{◌≡◌, ℕ, true, List}
use Rattle.gm_ast.specs.Program.{Program}
use Rattle.gm_canon.specs.Verdict.{StandsFor}
use Rattle.gm_depth.specs.Depths.{is_shallow}
use Rattle.gm_forms.specs.Ready.{Ready0}
use Rattle.gm_typed_stores.specs.Laws.{IsWellTyped}
use Rattle.gm_hoisting.specs.Stages.{CanBeHoisted}
use Rattle.gm_desugaring.specs.Desugaring.{CanBecomeLoops}

-- the program that a text stands for is ready for the passes
abbrev pub AcceptedIsReady : Type 0
AcceptedIsReady = (text : List ℕ) (p : Program) → StandsFor text p → Ready0 p

-- no expression of it has more than 512 levels
abbrev pub AcceptedIsShallow : Type 0
AcceptedIsShallow = (text : List ℕ) (p : Program) → StandsFor text p → is_shallow p ≡ true

-- values keep their types in the runs of a program, whatever limit the nodes of its inputs have
pub record IsTypedThroughout (p : Program) : Type 0 where
  pub typed : (limit : ℕ) → IsWellTyped limit p

-- so it is in its runs
abbrev pub AcceptedIsWellTyped : Type 0
AcceptedIsWellTyped = (text : List ℕ) (p : Program) → StandsFor text p → IsTypedThroughout p

-- its reductions in parallel loops and searches can become inner loops
abbrev pub AcceptedCanBeHoisted : Type 0
AcceptedCanBeHoisted = (text : List ℕ) (p : Program) → StandsFor text p → CanBeHoisted p

-- and the passes can write it with plain loops
abbrev pub AcceptedCanBecomeLoops : Type 0
AcceptedCanBecomeLoops = (text : List ℕ) (p : Program) → StandsFor text p → CanBecomeLoops p
