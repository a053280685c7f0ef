use Rattle.std.proofs.Common.{sym, ap, ◌∙◌}
use Rattle.gm_ast.specs.Tree.{stmt_of}
use Rattle.gm_flip.specs.Pulling.{pulls}
use Rattle.gm_flip.proofs.Trees.{stmt_of-Block, pulls_sequence}
use Rattle.gm_flip.proofs.pulling.pulls.Goals as goal

pub returns-in-Block : goal.returns-in-Block
returns-in-Block c = sym (ap (λ s. pulls c.args.outer (stmt_of s)) c.in-Block.is ∙ ap (pulls c.args.outer) (stmt_of-Block c.in-Block.field-0) ∙ pulls_sequence c.args.outer _)
