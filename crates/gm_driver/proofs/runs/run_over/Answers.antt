use Rattle.std.proofs.Common.{◌≡◌, subst}
use Rattle.gm_ast.specs.Program.{Program}
use Rattle.gm_ast.specs.Tree.{program_of}
use Rattle.gm_input.proofs.Answering.{said_weaker}
use Rattle.gm_source_runs.specs.Answers.{IsTextAnswer}
use Rattle.gm_driver.proofs.runs.run_over.Goals as goal

pub run_compiled-requires-clause-rows : goal.run_compiled-requires-clause-rows
run_compiled-requires-clause-rows g c = λ _ _. rw c.in-Compiled.is at c.requires.rows

pub returns-in-Compiled : goal.returns-in-Compiled
returns-in-Compiled g c = said_weaker _ _ c.run_compiled.result (λ a said. λ p runs. said p (rw c.in-Compiled.is at runs)) c.run_compiled.ensures

pub returns-in-Source : goal.returns-in-Source
returns-in-Source g c =
    said_weaker _ _ c.run_text.result
    (λ a said. λ p runs.
    let is : program_of c.in-Source.work ≡ p = rw c.in-Source.is at runs in
    subst (λ (q : Program). IsTextAnswer q c.args.words.now c.args.options.now c.args.text.items a.text.items a.status) is said)
    c.run_text.ensures
