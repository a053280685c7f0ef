use Rattle.std.proofs.Common.{◌∙◌, ap, sym, refl, Some, map, get_or}
use Rattle.gm_value.specs.declared.values.Value.TheVariants.{At}
use Rattle.gm_columns.specs.Cells.{node_in}
use Rattle.gm_columns.specs.Columns.{TypedRow}
use Rattle.gm_image.specs.Term as T
use Rattle.gm_batches.specs.NodeBatches.{row_view, rows_in as rows_of_batch}
use Rattle.gm_batches.proofs.LeafLaws.{rows_in, node_rows}
use Rattle.gm_batches.proofs.leaves.nodes_column.Goals as goal

pub returns : goal.returns
returns c =
    let b = c.args.batch.now in
    let rs = rows_of_batch b c.args.rows in (
      ap (λ (column : TypedRow). Some column.vtype) (sym c.of.ensures),
      rows_in (row_view b) (λ row. At (Some (get_or b.nodes.now row 0))) T.Self (λ row. refl) rs
          ∙ ap (λ vs. Some vs) (sym (ap (λ (column : TypedRow). column.values) c.of.ensures
          ∙ ap (map node_in) c.in_ok-nodes.ensures
          ∙ node_rows b.nodes.now rs c.requires.batch.nodes c.requires.rows)),
    )
