use Rattle.std.proofs.Common.{◌≡◌, ap}
use Rattle.gm_ast.specs.Tree.{program_of}
use Rattle.gm_source_runs.specs.Programs.{output_declarations}
use Rattle.gm_run.specs.Compiled.{RunsAs}
use Rattle.gm_driver.proofs.images.outputs_of.Goals as goal

pub returns-in-Compiled : goal.returns-in-Compiled
returns-in-Compiled c = λ p runs.
    let it : RunsAs c.in-Compiled.compiled p = rw c.in-Compiled.is at runs in
    rw c.deref.ensures.value it.outputs

pub returns-in-Source : goal.returns-in-Source
returns-in-Source c = λ p runs.
    let is : program_of c.in-Source.work ≡ p = rw c.in-Source.is at runs in
    rw (c.output_declarations.ensures, c.tree.ensures) (ap (λ q. output_declarations q) is)
