use Rattle.gm_ast.specs.Tree.{program_of}
use Rattle.gm_image.specs.Views as Views
use Rattle.gm_lower.specs.Laws.{IsItsImage}
use Rattle.gm_compile.proofs.Answering.{ok-some-of}
use Rattle.gm_compile.proofs.images.lowered.Goals as goal

pub returns-clause-own : goal.returns-clause-own
returns-clause-own c = ok-some-of c.judged.result c.in_ok-image.image (λ i. IsItsImage (program_of c.args.program.now) (Views.program i)) c.judged.ensures.same c.in_ok-image.ensures.own
