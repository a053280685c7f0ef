-- The values of the outputs so far.
use Rattle.std.proofs.Common.{◌≡◌, ◌++◌, drop, map}
use Rattle.gm_image.specs.Views.{output}
use Rattle.gm_machine.specs.Expressions.{value_at}
use Rattle.gm_machine.specs.Machine.{scalars}
use Rattle.gm_machine.proofs.ends.scalars.Given as goal

abbrev pub invariant-loop-item : goal.invariant-loop-item
invariant-loop-item l =
    l.values.items ++ map (λ i. value_at l.globals i.slot) (scalars (map output (drop l.item-index l.outputs)))
    ≡ map (λ i. value_at l.globals i.slot) (scalars (map output l.outputs))
