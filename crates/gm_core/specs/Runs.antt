-- What runs of events answer.
use Rattle.std.specs.Prelude.{◌≡◌, ⊤, ℕ, Option, Some, List}
use Rattle.gm_model.specs.Graphs.{NumberedGraph}
use Rattle.gm_image.specs.Program.{Program}
use Rattle.gm_core.specs.declared.runs.CoreStop.{CoreStop}
use Rattle.gm_core.specs.declared.runs.CoreStop.TheVariants.{Illegal, NoMemory}
use Rattle.gm_core.specs.CoreStates.{CoreView}
use Rattle.gm_core.specs.Cores.{Core, end_of}

-- what callers see of a core
abbrev pub view_of : Program → NumberedGraph → List ℕ → ℕ → Core → CoreView
view_of p g owners workers s = record { ended = end_of p g owners workers s; step = s.supersteps; fields = s.fields }

-- events stop at the first that is not legal, or for want of memory
abbrev pub StopsAt : Option ℕ → CoreStop → Type 0
StopsAt first (Illegal index) = first ≡ Some index
StopsAt first NoMemory = ⊤
