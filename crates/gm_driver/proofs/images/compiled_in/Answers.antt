use Rattle.gm_ast.specs.Tree.{program_of}
use Rattle.gm_driver.proofs.Imaging.{compiled_or_none}
use Rattle.gm_driver.proofs.images.compiled_in.Goals as goal

pub returns-clause-found : goal.returns-clause-found
returns-clause-found c =
    compiled_or_none c.args.text.now (program_of c.in_ok-work.work) c.in_ok-found.found c.in_ok-work.ensures.accepted c.in_ok-found.ensures.made c.in_ok-found.ensures.which
    c.in_ok-found.ensures.represents c.in_ok-found.ensures.runs
