use Rattle.std.proofs.Common.{◌∙◌, ap}
use Rattle.gm_ast.specs.Tree.{program_of, stmt_of}
use Rattle.gm_parting.specs.Lasting.{has_numbered_ifs}
use Rattle.gm_prepare.proofs.Numbered.{numbered-same}
use Rattle.gm_prepare.proofs.numbers.has_numbered_ifs.Goals as goal

pub returns : goal.returns
returns c = c.are_numbered.ensures ∙ numbered-same (stmt_of c.tree.result.now.body) ∙ ap (λ t. has_numbered_ifs (program_of t)) c.tree.ensures
