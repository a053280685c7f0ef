use Rattle.std.proofs.Common.{refl}
use Rattle.std.proofs.lemmas.Result.{IfOk-weaker}
use Rattle.gm_driver.specs.Demos.{line, listing}
use Rattle.gm_driver.proofs.demos.answer_of.Goals as goal

pub returns-in_ok-text-in-Some : goal.returns-in_ok-text-in-Some
returns-in_ok-text-in-Some c = line (record { values = c.in-Some.values.now; turns = c.in-Some.turns; done = c.in-Some.ensures.one; says = c.in_ok-text-in-Some.ensures }) refl

pub returns-in-None : goal.returns-in-None
returns-in-None c = IfOk-weaker c.answer_for.result _ _ (λ a says. listing (c.in-None.ensures.other refl) says) c.answer_for.ensures
