use Rattle.std.proofs.Common.{◌≡◌, take}
use Rattle.gm_source_runs.specs.Programs.{types_of}
use Rattle.gm_source_runs.proofs.programs.types_of.Given as goal

abbrev pub invariant-loop-declaration : goal.invariant-loop-declaration
invariant-loop-declaration l = l.types.items ≡ types_of l.sort (take l.declaration-index l.declarations)
