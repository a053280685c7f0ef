-- The arguments that are left go to the inputs that are left.
use Rattle.std.proofs.Common.{◌≡◌, drop, map}
use Rattle.gm_image.specs.Views.{input}
use Rattle.gm_machine.specs.Machine.{scalars, with_inputs}
use Rattle.gm_machine.proofs.masters.bind_scalars.Given as goal

abbrev pub invariant-loop-item : goal.invariant-loop-item
invariant-loop-item l =
    with_inputs (scalars (map input (drop l.item-index l.inputs))) (drop l.next l.args) l.globals.items
    ≡ with_inputs (scalars (map input l.inputs)) l.args l.fn.globals.items
