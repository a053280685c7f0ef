use Rattle.std.proofs.Common.{subst}
use Rattle.gm_batches.specs.ValuesIn.{IsColumnAt}
use Rattle.gm_batches.proofs.ColumnLaws.{if_ok, binary_column, left_none, right_none}
use Rattle.gm_batches.proofs.shapes.binary.Goals as goal

pub returns-in-Some-Some : goal.returns-in-Some-Some
returns-in-Some-Some c =
    if_ok c.on_columns.result
    (λ got is. λ b rs place a d at so. binary_column b rs c.args.op place a d c.in-Some-Some.left c.in-Some-Some.right got
    (subst (IsColumnAt b rs a) c.in-Some-Some.is-0 at) (subst (IsColumnAt b rs d) c.in-Some-Some.is-1 so) is)
    c.on_columns.ensures

pub returns-in-Some-None : goal.returns-in-Some-None
returns-in-Some-None c = λ b rs place a d at so. right_none b rs c.args.op place a d (subst (IsColumnAt b rs d) c.in-Some-None.is-1 so)

pub returns : goal.returns
returns c = λ b rs place a d at so. left_none b rs c.args.op place a d (subst (IsColumnAt b rs a) c.in-None-default.is-0 at)
