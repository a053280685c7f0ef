use Rattle.std.proofs.Common.{refl}
use Rattle.gm_ast.specs.Tree.{program_of}
use Rattle.gm_driver.proofs.images.source_of_text.Goals as goal

pub returns-clause-runs : goal.returns-clause-runs
returns-clause-runs c = record { source = program_of c.in_ok-work.work; stands = c.in_ok-work.ensures.stands; runs = refl; rows = tt }
