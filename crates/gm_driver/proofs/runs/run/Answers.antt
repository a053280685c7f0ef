use Rattle.std.proofs.lemmas.Result.{IfOk-weaker}
use Rattle.gm_input.specs.Outside.{outside}
use Rattle.gm_input.proofs.Answering.{settled_said}
use Rattle.gm_driver.specs.Runs.{IsRunReply}
use Rattle.gm_driver.proofs.runs.run.Goals as goal

pub returns : goal.returns
returns g c =
    let b = outside g.S.Source g.F.Files c.args.input.now c.args.files.now in
    let a = outside g.S.Source g.F.Files c.run_steps-answer.new.input c.run_steps-answer.new.files in
    IfOk-weaker c.settled.result _ _
    (λ s is. settled_said (λ t. IsRunReply c.args.prog.now c.args.graph.now c.args.words.now c.args.options.now b a t.text.items t.status) c.run_steps-answer.result s c.run_steps-answer.ensures is)
    c.settled.ensures
