-- The names so far.
use Rattle.std.proofs.Common.{◌≡◌, ◌++◌, drop, map}
use Rattle.gm_image.specs.Views.{output}
use Rattle.gm_machine.specs.Machine.{scalars}
use Rattle.gm_exec.specs.Programs.{names_of}
use Rattle.gm_exec.proofs.programs.scalar_names.Given as goal

abbrev pub invariant-loop-item : goal.invariant-loop-item
invariant-loop-item l = map (λ name. name.now) l.names.items ++ names_of (scalars (map output (drop l.item-index l.outputs))) ≡ names_of (scalars (map output l.outputs))
