use Rattle.std.proofs.lemmas.Result.{IfOk-weaker}
use Rattle.gm_base.specs.declared.rules.Stop.TheVariants.{Refused}
use Rattle.gm_canon.specs.Verdict.{IsVerdictOf}
use Rattle.gm_input.proofs.Answering.{halted}
use Rattle.gm_driver.specs.Runs.{SaysRefused}
use Rattle.gm_driver.proofs.images.compiled_or_none.Goals as goal

pub returns-in-Err-Refused-clause-halt : goal.returns-in-Err-Refused-clause-halt
returns-in-Err-Refused-clause-halt c =
    let stop : IsVerdictOf c.args.text.now (Refused c.in-Err-Refused.refusal) = rw c.in-Err-Refused.field-0-is at c.in-Err-Refused.ensures.refused in
    halted (λ a. SaysRefused c.args.text.now a.text.items a.status) c.refused.result c.answered.result c.answered.ensures
    (IfOk-weaker c.refused.result _ _ (λ a says. record { refusal = c.in-Err-Refused.refusal; breaks = stop; says = says }) c.refused.ensures)
