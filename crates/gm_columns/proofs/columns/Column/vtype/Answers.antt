use Rattle.std.proofs.Common.{subst}
use Rattle.std.specs.Prelude.{All}
use Rattle.gm_columns.specs.Columns.{TypedRow, CanHold}
use Rattle.gm_columns.proofs.Holding.{cells-held}
use Rattle.gm_columns.proofs.columns.Column.vtype.Goals as goal

pub returns-clause-held : goal.returns-clause-held
returns-clause-held c =
    let P : TypedRow → Type 0 = λ row. All (CanHold row.vtype) row.values in
    subst P c.self.view_is (cells-held c.self.inside.cells)
