use Rattle.std.proofs.Common.{◌++◌, map, ap, ◌∙◌}
use Rattle.gm_ast.specs.Tree.{stmt_of}
use Rattle.gm_dissect.proofs.Trees.{ok-then}
use Rattle.gm_slices.proofs.SliceWalks.{opened_leaf}
use Rattle.gm_slices.proofs.slicing.push_other.Goals as goal

pub returns : goal.returns
returns c = ok-then c.push.result c.push.ensures (λ r e. e ∙ ap (λ l. map stmt_of c.args.list.items ++ l) (opened_leaf (stmt_of c.args.s) c.requires))
