use Rattle.std.proofs.Common.{◌∙◌, ◌+◌, sym, ap, drop}
use Rattle.gm_loops.specs.Ranges.{all_steps, levels_by, taken_by, step_of}
use Rattle.gm_loops.proofs.Steps.{drop-got, taken-step, left-step}
use Rattle.gm_loops.proofs.ranges.Range.at.Goals as goal

pub returns-then-takes-clause-step : goal.returns-then-takes-clause-step
returns-then-takes-clause-step c =
    let r = c.args.self.now in
    ap (taken_by (levels_by r) r.course) (drop-got (all_steps r) c.args.k (step_of r.graph.now c.hop-hop.result) c.hop-hop.ensures.step)
    ∙ taken-step (levels_by r) r.course (step_of r.graph.now c.hop-hop.result) (drop (c.args.k + 1) (all_steps r)) (sym c.takes.ensures ∙ c.if-takes.true)

pub returns-else-takes-clause-step : goal.returns-else-takes-clause-step
returns-else-takes-clause-step c =
    let r = c.args.self.now in
    ap (taken_by (levels_by r) r.course) (drop-got (all_steps r) c.args.k (step_of r.graph.now c.hop-hop.result) c.hop-hop.ensures.step)
    ∙ left-step (levels_by r) r.course (step_of r.graph.now c.hop-hop.result) (drop (c.args.k + 1) (all_steps r)) (sym c.takes.ensures ∙ c.if-takes.false)
