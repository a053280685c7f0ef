use Rattle.std.proofs.Common.{◌≡◌, ap, refl, map}
use Rattle.std.specs.Prelude.{string_bytes, Some, None, Err}
use Rattle.std.proofs.lemmas.Result.{IfOk-weaker}
use Rattle.gm_words.specs.Jobs.{job_of}
use Rattle.gm_driver.specs.Whole.{usage}
use Rattle.gm_driver.proofs.Answering.{asked_so}
use Rattle.gm_driver.proofs.program.reply.Goals as goal

pub returns-in-Ok : goal.returns-in-Ok
returns-in-Ok g c = IfOk-weaker c.reply_for.result _ _ (λ a h. asked_so (job_of (map string_bytes c.args.words.now)) (Some c.in-Ok.job) _ _ _ _ a.text.items a.status c.in-Ok.ensures.job h) c.reply_for.ensures

pub returns-in-Err-Usage : goal.returns-in-Err-Usage
returns-in-Err-Usage g c =
    let none : job_of (map string_bytes c.args.words.now) ≡ None = c.in-Err-Usage.ensures.usage (ap Err c.in-Err-Usage.field-0-is) in
    IfOk-weaker c.usage.result _ _
    (λ a says. asked_so (job_of (map string_bytes c.args.words.now)) None _ _ _ _ a.text.items a.status none (usage refl (record { left = refl; quiet = refl }) (record { map = refl; quiet = refl; found = refl }) says))
    c.usage.ensures
