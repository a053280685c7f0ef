-- Where there are no folds nothing is taken.
use Rattle.std.proofs.Common.{◌∙◌, sym}
use Rattle.gm_machine.specs.VertexViews.{state_of}
use Rattle.gm_machine.proofs.SlotSteps.{folded-nothing}
use Rattle.gm_machine.proofs.bodies.take_folds.Goals as goal

pub returns-then-is_empty : goal.returns-then-is_empty
returns-then-is_empty c =
    c.ended.ensures (state_of c.args.state.now)
    ∙ sym (folded-nothing c.args.places (state_of c.args.state.now) c.args.fault c.args.skip (c.is_empty.ensures c.if-is_empty.true))
