use Rattle.gm_input.proofs.Answering.{weaker}
use Rattle.gm_input.proofs.Naming.{passed-on}
use Rattle.gm_input.specs.Halts.{IfAnswered}
use Rattle.gm_driver.specs.Images.{IsCompiledOrNone}
use Rattle.gm_driver.specs.Runs.{SaysRefused}
use Rattle.gm_driver.proofs.Imaging.{compiled_runs}
use Rattle.gm_driver.proofs.images.runnable_of_text.Goals as goal

pub returns-in_err-found-clause-halt : goal.returns-in_err-found-clause-halt
returns-in_err-found-clause-halt c =
    passed-on (λ h. IfAnswered h (λ a. SaysRefused c.args.text.items a.text.items a.status)) c.from_residual.result c.in_err-found.field-0.0 c.from_residual.ensures.1
    (weaker _ _ c.in_err-found.field-0.0 (λ a said. rw c.deref.ensures.value at said) c.in_err-found.ensures.halt)

pub returns-in-Some-clause-runs : goal.returns-in-Some-clause-runs
returns-in-Some-clause-runs c =
    let found : IsCompiledOrNone c.args.text.items c.in_ok-found.found = rw c.deref.ensures.value at c.in_ok-found.ensures.found in
    compiled_runs c.args.text.items c.in-Some.compiled (rw c.in-Some.is at found)
