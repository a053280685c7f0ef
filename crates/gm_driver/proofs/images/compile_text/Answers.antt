use Rattle.std.proofs.lemmas.Result.{IfOk-weaker}
use Rattle.gm_input.proofs.Answering.{settled_said}
use Rattle.gm_driver.specs.Images.{IsCompiled}
use Rattle.gm_driver.proofs.images.compile_text.Goals as goal

pub returns : goal.returns
returns c =
    IfOk-weaker c.settled.result _ _
    (λ s is. settled_said (λ t. IsCompiled c.args.text.items t.text.items t.status) c.compile_steps.result s c.compile_steps.ensures is)
    c.settled.ensures
