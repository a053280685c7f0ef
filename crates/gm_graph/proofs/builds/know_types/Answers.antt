use Rattle.std.proofs.Common.{List, get_or, subst}
use Rattle.std.specs.Prelude.{All}
use Rattle.std.proofs.lemmas.List.{take_all}
use Rattle.std.proofs.lemmas.List.Elements.{All-more}
use Rattle.gm_columns.specs.Columns.{TypedRow, CanHold}
use Rattle.gm_graph.proofs.builds.know_types.Goals as goal

pub loop-column-preserved : goal.loop-column-preserved
loop-column-preserved c =
    let P : TypedRow → Type 0 = λ row. All (CanHold row.vtype) row.values in
    let columns : List TypedRow = c.args.columns.now in
    let item : TypedRow = c.column-item.result in
    let here : P (get_or columns c.loop-column.column-index item) = subst P c.column-item.is c.vtype-vtype.ensures.held in
    All-more P columns c.loop-column.column-index item c.loop-column-test.true c.loop-column.invariant here

pub returns : goal.returns
returns c =
    let P : TypedRow → Type 0 = λ row. All (CanHold row.vtype) row.values in
    let columns : List TypedRow = c.args.columns.now in
    let Q : List TypedRow → Type 0 = λ rows. All P rows in
    subst Q (take_all c.loop-column.column-index columns c.loop-column-test.false) c.loop-column.invariant
