use Rattle.std.proofs.Common.{◌∙◌, Option, ap, sym}
use Rattle.std.specs.Prelude.{ℕ, slice_index_or, unwrap_or}
use Rattle.gm_value.specs.declared.values.Value.{Value}
use Rattle.gm_graph.specs.Walks.{edge_at}
use Rattle.gm_loops.specs.Sights.{values_in}
use Rattle.gm_loops.proofs.Steps.{cell-or}
use Rattle.gm_loops.proofs.sights.edge_value.Goals as goal

pub returns-in-Some : goal.returns-in-Some
returns-in-Some c =
    let g = c.args.graph.now in
    let first : Value = c.args.column.now.first in
    let edge : ℕ = edge_at g c.args.row in
    c.unwrap_or.ensures
    ∙ ap (λ (o : Option Value). unwrap_or o first) c.value_in.ensures
    ∙ cell-or g.edge_columns c.in-Some.index edge first
    ∙ ap (λ (k : Option ℕ). slice_index_or (values_in g k) edge first) (sym c.in-Some.is)
