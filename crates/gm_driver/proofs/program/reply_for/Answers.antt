use Rattle.std.proofs.lemmas.Result.{IfOk-weaker}
use Rattle.gm_input.specs.Outside.{outside}
use Rattle.gm_driver.proofs.program.reply_for.Goals as goal

pub run_job-requires-clause-assign : goal.run_job-requires-clause-assign
run_job-requires-clause-assign g c = λ _ _. let right = rw c.in-Run.is at c.requires in right.0

pub run_job-requires-clause-right : goal.run_job-requires-clause-right
run_job-requires-clause-right g c = λ _ _. let right = rw c.in-Run.is at c.requires in right.1

pub demo_job-requires-clause-some : goal.demo_job-requires-clause-some
demo_job-requires-clause-some g c = λ _ _. let right = rw c.in-Demo.is at c.requires in right.0

pub demo_job-requires-clause-few : goal.demo_job-requires-clause-few
demo_job-requires-clause-few g c = λ _ _. let right = rw c.in-Demo.is at c.requires in right.1

pub demo_job-requires-clause-right : goal.demo_job-requires-clause-right
demo_job-requires-clause-right g c = λ _ _. let right = rw c.in-Demo.is at c.requires in right.2

pub exec_job-requires-clause-assign : goal.exec_job-requires-clause-assign
exec_job-requires-clause-assign g c = λ _ _. let right = rw c.in-Exec.is at c.requires in right.0

pub exec_job-requires-clause-right : goal.exec_job-requires-clause-right
exec_job-requires-clause-right g c = λ _ _. let right = rw c.in-Exec.is at c.requires in right.1

pub returns-in-Run : goal.returns-in-Run
returns-in-Run g c = rw c.in-Run.is c.run_job.ensures

pub returns-in-Check : goal.returns-in-Check
returns-in-Check g c = rw c.in-Check.is (IfOk-weaker c.check_job.result _ _ (λ a h. h _ _) c.check_job.ensures)

pub returns-in-Demo : goal.returns-in-Demo
returns-in-Demo g c = rw c.in-Demo.is (IfOk-weaker c.demo_job.result _ _
    (λ a h. h _ _ (outside g.S.Source g.F.Files c.args.input.now c.args.files.now))
    c.demo_job.ensures)

pub returns-in-Compile : goal.returns-in-Compile
returns-in-Compile g c = rw c.in-Compile.is (IfOk-weaker c.compile_job.result _ _ (λ a h. h _ _) c.compile_job.ensures)

pub returns-in-Exec : goal.returns-in-Exec
returns-in-Exec g c = rw c.in-Exec.is c.exec_job.ensures
