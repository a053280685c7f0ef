use Rattle.gm_driver.proofs.demos.runnable.Goals as goal

pub returns-clause-runs : goal.returns-clause-runs
returns-clause-runs c = rw c.in_ok-text.ensures at c.runnable_of_text.ensures.runs

pub returns-clause-halt : goal.returns-clause-halt
returns-clause-halt c = rw c.in_ok-text.ensures at c.runnable_of_text.ensures.halt
