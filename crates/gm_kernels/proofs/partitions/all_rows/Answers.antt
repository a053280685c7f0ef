use Rattle.std.proofs.Common.{◌≡◌, ◌∙◌, ◌++◌, ◌∷◌, [], ap, sym}
use Rattle.gm_kernels.proofs.Parting.{range-more}
use Rattle.gm_kernels.proofs.partitions.all_rows.Goals as goal

pub loop-row-preserved : goal.loop-row-preserved
loop-row-preserved c =
    c.in_ok-push.ensures.items
    ∙ ap (λ l. l ++ c.loop-row.row ∷ []) c.loop-row.invariant
    ∙ sym (range-more c.loop-row.row)
