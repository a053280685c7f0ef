use Rattle.std.proofs.Common.{◌∙◌, sym}
use Rattle.gm_ast.specs.Canonical.{uncanonical}
use Rattle.gm_ast.specs.Tree.{program_of}
use Rattle.gm_canon.proofs.Leasts.{nothing-least}
use Rattle.gm_canon.proofs.programs.judge.Goals as goal

pub returns-in-None-clause-clean : goal.returns-in-None-clause-clean
returns-in-None-clause-clean c = nothing-least (uncanonical (program_of c.args.tree.now)) (sym c.in_ok-least_broken.ensures ∙ c.in-None.is)
