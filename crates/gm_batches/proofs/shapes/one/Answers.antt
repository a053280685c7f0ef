use Rattle.std.proofs.Common.{subst}
use Rattle.gm_batches.specs.ValuesIn.{IsColumnAt}
use Rattle.gm_batches.proofs.ColumnLaws.{one_none}
use Rattle.gm_batches.proofs.shapes.one.Goals as goal

pub returns : goal.returns
returns c = λ b rs a at. one_none b rs c.args.op a (subst (IsColumnAt b rs a) c.in-None.is at)
