-- What a walk found, as the rules see it.
use Rattle.std.specs.Prelude.{map}
use Rattle.gm_ast.specs.declared.accesses.Operation.{Operation}
use Rattle.gm_ast.specs.declared.accesses.AccessKind.{AccessKind}
use Rattle.gm_ast.specs.declared.accesses.AccessKind.TheVariants as A
use Rattle.gm_ast.specs.declared.accesses.Access.{Access}
use Rattle.gm_ast.specs.Loops.{target_variable}
use Rattle.gm_race.specs.declared.found.Reduction.{Reduction}
use Rattle.gm_race.specs.declared.found.Kind.{Kind}
use Rattle.gm_race.specs.declared.found.Kind.TheVariants.{OwnRead, OtherRead, LevelRead, OwnWrite, StrayWrite, OwnReduce, PushReduce, Deferred}
use Rattle.gm_race.specs.declared.found.Found.{Found}

-- what a reduction does
abbrev pub operation_of : Reduction → Operation
operation_of r = record { reduce = r.reduce; targets = map target_variable r.targets.now }

-- how a variable is accessed
abbrev pub kind_of : Kind → AccessKind
kind_of OwnRead = A.OwnRead
kind_of OtherRead = A.OtherRead
kind_of LevelRead = A.LevelRead
kind_of OwnWrite = A.OwnWrite
kind_of StrayWrite = A.StrayWrite
kind_of (OwnReduce r) = A.OwnReduce (operation_of r)
kind_of (PushReduce r) = A.PushReduce (operation_of r)
kind_of Deferred = A.Deferred

-- an access
abbrev pub access_of : Found → Access
access_of f = record { place = f.place; loop_id = f.loop_id; inner_id = f.inner_id; variable = f.variable; kind = kind_of f.kind }
