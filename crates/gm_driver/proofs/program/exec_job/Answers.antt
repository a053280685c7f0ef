use Rattle.std.proofs.Common.{refl}
use Rattle.std.proofs.lemmas.Result.{IfOk-weaker}
use Rattle.gm_driver.specs.Whole.{executed}
use Rattle.gm_driver.proofs.program.exec_job.Goals as goal

pub exec-requires-clause-assign : goal.exec-requires-clause-assign
exec-requires-clause-assign g c = λ _ _. rw c.as_slice-words.ensures c.requires.assign

pub returns : goal.returns
returns g c =
    IfOk-weaker c.exec.result _ _
    (λ a h. executed c.args.image.now c.args.graph.now c.args.args.now c.args.options.now _ refl (rw (c.as_str-text.ensures, c.as_str-over.ensures, c.as_slice-words.ensures) at h)) c.exec.ensures.reply
