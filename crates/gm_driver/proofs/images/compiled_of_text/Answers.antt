use Rattle.std.proofs.lemmas.Result.{IfOk-weaker}
use Rattle.gm_input.proofs.Answering.{halted, weaker}
use Rattle.gm_input.proofs.Naming.{passed-on}
use Rattle.gm_input.specs.Halts.{IfAnswered}
use Rattle.gm_driver.specs.Images.{HasNoImage, IsCompiledOrNone, SaysNoRun, no_image, refused}
use Rattle.gm_driver.proofs.images.compiled_of_text.Goals as goal

pub returns-in_err-found-clause-halt : goal.returns-in_err-found-clause-halt
returns-in_err-found-clause-halt c =
    passed-on (λ h. IfAnswered h (λ a. SaysNoRun c.args.text.items a.text.items a.status)) c.from_residual.result c.in_err-found.field-0.0 c.from_residual.ensures.1
    (weaker _ _ c.in_err-found.field-0.0 (λ a said. refused (rw c.deref.ensures.value at said)) c.in_err-found.ensures.halt)

pub returns-in-Some-clause-compiled : goal.returns-in-Some-clause-compiled
returns-in-Some-clause-compiled c =
    let found : IsCompiledOrNone c.args.text.items c.in_ok-found.found = rw c.deref.ensures.value at c.in_ok-found.ensures.found in
    rw c.in-Some.is at found

pub returns-clause-halt : goal.returns-clause-halt
returns-clause-halt c =
    let found : IsCompiledOrNone c.args.text.items c.in_ok-found.found = rw c.deref.ensures.value at c.in_ok-found.ensures.found in
    let none : HasNoImage c.args.text.items = rw c.in-None.is at found in
    halted (λ a. SaysNoRun c.args.text.items a.text.items a.status) c.no_image.result c.answered.result c.answered.ensures
    (IfOk-weaker c.no_image.result _ _ (λ a says. no_image (record { none = none; says = says })) c.no_image.ensures)
