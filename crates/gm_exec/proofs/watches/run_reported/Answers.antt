use Rattle.gm_image.specs.Views.{program}
use Rattle.gm_exec.proofs.Telling.{both, ran-watched}
use Rattle.gm_exec.proofs.watches.run_reported.Goals as goal

pub returns-clause-ran : goal.returns-clause-ran
returns-clause-ran g c =
    both _ _ _ c.with_reports.result
    (λ a text status. ran-watched (program c.args.image.now) c.args.options.now.turns _ _ _ _ c.args.graph.now c.args.args.now a.text.items c.in_ok-answer.answer.text.items a.status c.in_ok-answer.answer.status
    c.node_count-nodes.ensures.known c.in_ok-answer.ensures.told c.in_ok-answer.ensures.says c.run_told.ensures.same_ways text status)
    c.with_reports.ensures.text c.with_reports.ensures.status
