use Rattle.gm_kernels.specs.Pointwise.{applied1}
use Rattle.gm_batch_steps.proofs.TurnLists.{found-values}
use Rattle.gm_batch_steps.proofs.turn_values.unary.Goals as goal

pub returns : goal.returns
returns c = found-values c.apply1.result (applied1 c.args.op c.args.operand.now.values) c.apply1.ensures.values
