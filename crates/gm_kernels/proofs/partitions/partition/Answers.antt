use Rattle.std.proofs.Common.{◌≡◌, ◌∙◌, ◌++◌, ◌∷◌, [], ap, get_or, false}
use Rattle.gm_kernels.specs.Pointwise.{held, left_out}
use Rattle.gm_kernels.proofs.Parting.{held-more, left-more}
use Rattle.gm_kernels.proofs.partitions.partition.Goals as goal

pub loop-row-preserved : goal.loop-row-preserved
loop-row-preserved c =
    let flags = c.args.flags.now in
    let rows = c.args.rows.now in
    let k = c.loop-row.row in (
      c.in_ok-push_by.ensures.held ∙ ap (λ l. l ++ held (get_or flags k false ∷ []) (get_or rows k 0 ∷ [])) c.loop-row.invariant.0
          ∙ held-more flags rows k 0 c.loop-row-test.true c.requires,
      c.in_ok-push_by.ensures.left_out ∙ ap (λ l. l ++ left_out (get_or flags k false ∷ []) (get_or rows k 0 ∷ [])) c.loop-row.invariant.1
          ∙ left-more flags rows k 0 c.loop-row-test.true c.requires,
    )
