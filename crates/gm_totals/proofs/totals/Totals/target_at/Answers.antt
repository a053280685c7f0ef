-- The target of a pot.
use Rattle.std.proofs.Common.{◌∙◌}
use Rattle.gm_totals.proofs.Placing.{target-here}
use Rattle.gm_totals.proofs.totals.Totals.target_at.Goals as goal

pub returns : goal.returns
returns c = λ d. c.as_slice.ensures ∙ target-here c.args.self.now c.args.place c.index.result.now d c.requires c.index.ensures
