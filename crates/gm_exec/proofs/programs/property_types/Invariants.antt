-- The types so far.
use Rattle.std.proofs.Common.{◌≡◌, ◌++◌, drop, map}
use Rattle.gm_image.specs.Views.{input}
use Rattle.gm_machine.specs.Machine.{properties}
use Rattle.gm_exec.specs.Programs.{types_of}
use Rattle.gm_exec.proofs.programs.property_types.Given as goal

abbrev pub invariant-loop-item : goal.invariant-loop-item
invariant-loop-item l = l.types.items ++ types_of (properties (map input (drop l.item-index l.inputs))) ≡ types_of (properties (map input l.inputs))
