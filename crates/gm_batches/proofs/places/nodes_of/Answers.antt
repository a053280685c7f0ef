use Rattle.std.proofs.Common.{◌∙◌, ap, sym, refl, map, get_or}
use Rattle.gm_batches.specs.NodeBatches.{row_count, rows_in}
use Rattle.gm_batches.proofs.LeafLaws.{all_rows}
use Rattle.gm_batches.proofs.ColumnLaws.{if_ok}
use Rattle.gm_batches.proofs.places.nodes_of.Goals as goal

pub returns-in_ok-from_slice-in-All : goal.returns-in_ok-from_slice-in-All
returns-in_ok-from_slice-in-All c =
    let b = c.args.batch.now in
    c.in_ok-from_slice-in-All.ensures.items
    ∙ all_rows b.nodes.now (row_count b) 0 refl
    ∙ ap (λ r. map (λ row. get_or b.nodes.now row 0) (rows_in b r)) (sym c.in-All.is)

pub returns-in-At : goal.returns-in-At
returns-in-At c =
    let b = c.args.batch.now in
    if_ok c.pick.result
    (λ picked each. each 0 ∙ ap (λ r. map (λ row. get_or b.nodes.now row 0) (rows_in b r)) (sym c.in-At.is))
    c.pick.ensures
