use Rattle.std.proofs.lemmas.Result.{IfOk-weaker}
use Rattle.gm_base.specs.declared.rules.Stop.TheVariants.{Refused}
use Rattle.gm_canon.specs.Verdict.{IsVerdictOf}
use Rattle.gm_driver.specs.Checks.{accepted, refused}
use Rattle.gm_driver.proofs.answers.check_text.Goals as goal

pub returns-in-Ok : goal.returns-in-Ok
returns-in-Ok c = IfOk-weaker c.fixed_answer.result _ _ (λ a says. accepted c.in-Ok.ensures.accepted.0 c.in-Ok.ensures.accepted.1 says) c.fixed_answer.ensures

pub returns-in-Err-Refused : goal.returns-in-Err-Refused
returns-in-Err-Refused c =
    let stop : IsVerdictOf c.args.text.now (Refused c.in-Err-Refused.refusal) = rw c.in-Err-Refused.field-0-is at c.in-Err-Refused.ensures.refused in
    IfOk-weaker c.refused.result _ _ (λ a says. refused (record { refusal = c.in-Err-Refused.refusal; breaks = stop; says = says })) c.refused.ensures
