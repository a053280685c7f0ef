use Rattle.std.proofs.Common.{refl, subst}
use Rattle.gm_input.proofs.Answering.{said_on, weaker}
use Rattle.gm_image.specs.Program as images
use Rattle.gm_driver.specs.Images.{IsCompiled, IsWrittenOf, unwritten, written}
use Rattle.gm_driver.proofs.images.compile_steps.Goals as goal

pub returns-in_err-compiled : goal.returns-in_err-compiled
returns-in_err-compiled c =
    said_on (λ a. IsCompiled c.args.text.items a.text.items a.status) c.from_residual.result c.in_err-compiled.field-0.0 c.from_residual.ensures.1
    (weaker _ _ c.in_err-compiled.field-0.0 (λ a said. unwritten said) c.in_err-compiled.ensures.halt)

pub returns : goal.returns
returns c =
    let it = c.in_ok-compiled.ensures.compiled in
    written it.source it.has (subst (λ (i : images.Program). IsWrittenOf i c.in_ok-written.written.items) it.made c.in_ok-written.ensures) refl
