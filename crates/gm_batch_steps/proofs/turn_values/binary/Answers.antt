use Rattle.gm_kernels.specs.Pointwise.{applied2}
use Rattle.gm_batch_steps.proofs.TurnLists.{found-values}
use Rattle.gm_batch_steps.proofs.turn_values.binary.Goals as goal

pub returns : goal.returns
returns c = found-values c.apply2.result (applied2 c.args.op c.args.left.now.values c.args.right.now.values) c.apply2.ensures.values
