use Rattle.std.proofs.Common.{◌∙◌, ap, sym, refl, Some, map, get_or}
use Rattle.gm_value.specs.declared.values.Value.TheVariants.{I32}
use Rattle.gm_columns.specs.Columns.{TypedRow}
use Rattle.gm_image.specs.Term as T
use Rattle.gm_batches.specs.Degrees.{degree}
use Rattle.gm_batches.specs.NodeBatches.{row_view, rows_in as rows_of_batch}
use Rattle.gm_batches.proofs.DegreeLaws.{degree-rows}
use Rattle.gm_batches.proofs.LeafLaws.{rows_in}
use Rattle.gm_batches.proofs.leaves.degree_column.Goals as goal

pub returns : goal.returns
returns c =
    let b = c.args.batch.now in
    let rs = rows_of_batch b c.args.rows in (
      ap (λ (column : TypedRow). Some column.vtype) (sym c.of.ensures),
      rows_in (row_view b) (λ row. I32 (degree b.graph.now (get_or b.nodes.now row 0))) T.OutDegree (λ row. refl) rs
          ∙ ap (λ vs. Some vs) (sym (ap (λ (column : TypedRow). column.values) c.of.ensures
          ∙ ap (map (λ z. I32 z)) (c.in_ok-degrees.ensures ∙ ap (map (degree b.graph.now)) (c.as_slice.ensures.value ∙ c.in_ok-nodes.ensures))
          ∙ degree-rows b.graph.now b.nodes.now rs)),
    )
