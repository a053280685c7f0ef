-- The inputs so far.
use Rattle.std.proofs.Common.{◌≡◌, ◌++◌, drop, map}
use Rattle.gm_image.specs.Views.{input}
use Rattle.gm_machine.specs.Machine.{scalars}
use Rattle.gm_exec.specs.Programs.{input_of}
use Rattle.gm_exec.proofs.programs.scalar_inputs.Given as goal

abbrev pub invariant-loop-item : goal.invariant-loop-item
invariant-loop-item l =
    l.scalar.items ++ map (λ i. input_of i.name i.vtype) (scalars (map input (drop l.item-index l.inputs)))
    ≡ map (λ i. input_of i.name i.vtype) (scalars (map input l.inputs))
