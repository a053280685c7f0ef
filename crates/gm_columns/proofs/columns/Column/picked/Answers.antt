use Rattle.std.proofs.Common.{◌∙◌, ap, map, get_or}
use Rattle.gm_columns.specs.Columns.{TypedRow}
use Rattle.gm_columns.proofs.columns.Column.picked.Goals as goal

pub returns-clause-values : goal.returns-clause-values
returns-clause-values c = λ d. c.in_ok-picked.ensures.values d ∙ ap (λ (row : TypedRow). map (λ n. get_or row.values n d) c.args.rows.now) c.self.view_is
