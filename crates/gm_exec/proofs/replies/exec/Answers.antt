use Rattle.std.proofs.lemmas.Result.{IfOk-weaker}
use Rattle.gm_input.specs.Outside.{outside}
use Rattle.gm_input.proofs.Answering.{settled_said}
use Rattle.gm_exec.specs.Replies.{IsExecReply}
use Rattle.gm_exec.specs.Runs.{IsUntold}
use Rattle.gm_exec.proofs.replies.exec.Goals as goal

pub returns-clause-reply : goal.returns-clause-reply
returns-clause-reply g c =
    let b = outside g.S.Source g.F.Files c.args.input.now c.args.files.now in
    let a = outside g.S.Source g.F.Files c.exec_steps-answer.new.input c.exec_steps-answer.new.files in
    IfOk-weaker c.settled.result _ _
    (λ s is. settled_said (λ t. IsExecReply c.args.image.now c.args.graph.now c.args.words.now c.args.options.now _ b a t.text.items t.status) c.exec_steps-answer.result s c.exec_steps-answer.ensures.reply is)
    c.settled.ensures

pub returns-clause-untold : goal.returns-clause-untold
returns-clause-untold g c =
    IfOk-weaker c.settled.result _ _
    (λ s is. settled_said (λ t. IsUntold t.status _ _) c.exec_steps-answer.result s c.exec_steps-answer.ensures.untold is)
    c.settled.ensures
