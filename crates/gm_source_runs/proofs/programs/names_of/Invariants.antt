use Rattle.std.proofs.Common.{◌≡◌, map, take}
use Rattle.gm_source_runs.specs.Programs.{names_of}
use Rattle.gm_source_runs.proofs.programs.names_of.Given as goal

abbrev pub invariant-loop-declaration : goal.invariant-loop-declaration
invariant-loop-declaration l = map (λ name. name.now) l.names.items ≡ names_of l.sort (take l.declaration-index l.declarations)
