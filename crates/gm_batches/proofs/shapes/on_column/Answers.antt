use Rattle.std.proofs.Common.{sym, subst}
use Rattle.gm_image.specs.Shapes.{one_term}
use Rattle.gm_batches.specs.ValuesIn.{IsColumnAt}
use Rattle.gm_batches.proofs.ColumnLaws.{if_ok, unary_column}
use Rattle.gm_batches.proofs.shapes.on_column.Goals as goal

pub returns-in-Op : goal.returns-in-Op
returns-in-Op c =
    if_ok c.unary.result
    (λ got is. λ b rs a at. subst (λ op. IsColumnAt b rs (one_term op a) got) (sym c.in-Op.is)
    (unary_column b rs c.in-Op.op c.in-Op.field-1 a c.args.operand.now got at is))
    c.unary.ensures
