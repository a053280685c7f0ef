use Rattle.std.proofs.Common.{◌≡◌, true, false}
use Rattle.std.proofs.lemmas.Result.{IfOk-weaker}
use Rattle.gm_image.specs.Views.{program}
use Rattle.gm_exec.proofs.Telling.{part-none, ran-alone}
use Rattle.gm_exec.proofs.watches.run_with.Goals as goal

pub returns-then-options-clause-ran : goal.returns-then-options-clause-ran
returns-then-options-clause-ran g c =
    let yes : c.args.options.now.observe ≡ true = c.if-options.true in
    rw yes c.run_reported.ensures.ran

pub returns-else-options-clause-ran : goal.returns-else-options-clause-ran
returns-else-options-clause-ran g c =
    let not : c.args.options.now.observe ≡ false = c.if-options.false in
    rw not (IfOk-weaker c.run_alone.result _ _
    (λ a says. ran-alone (program c.args.image.now) c.args.options.now.turns _ _ c.args.graph.now c.args.args.now a.text.items a.status c.node_count-nodes.ensures.known says)
    c.run_alone.ensures)

pub returns-else-options-clause-part : goal.returns-else-options-clause-part
returns-else-options-clause-part g c = part-none _ _
