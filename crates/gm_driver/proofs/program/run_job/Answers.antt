use Rattle.std.proofs.Common.{◌≡◌, refl, true, false}
use Rattle.std.proofs.lemmas.Result.{IfOk-weaker}
use Rattle.gm_driver.specs.Whole.{ran, ran_shown}
use Rattle.gm_driver.proofs.program.run_job.Goals as goal

pub show-requires-clause-assign : goal.show-requires-clause-assign
show-requires-clause-assign g c = λ _ _. rw c.as_slice-words.ensures c.requires.assign

pub run-requires-clause-assign : goal.run-requires-clause-assign
run-requires-clause-assign g c = λ _ _. rw c.as_slice-words.ensures c.requires.assign

pub returns-then-image : goal.returns-then-image
returns-then-image g c =
    let shows : c.args.image ≡ true = c.if-image.true in
    IfOk-weaker c.show.result _ _
    (λ a h. ran_shown c.args.prog.now c.args.graph.now c.args.args.now c.args.options.now _ (rw shows refl) (rw (c.as_str-program.ensures, c.as_str-over.ensures, c.as_slice-words.ensures) at h)) c.show.ensures

pub returns-else-image : goal.returns-else-image
returns-else-image g c =
    let hides : c.args.image ≡ false = c.if-image.false in
    IfOk-weaker c.run.result _ _
    (λ a h. ran c.args.prog.now c.args.graph.now c.args.args.now c.args.options.now (rw hides refl) (rw (c.as_str-program.ensures, c.as_str-over.ensures, c.as_slice-words.ensures) at h)) c.run.ensures
