use Rattle.std.proofs.Common.{ap, ◌∙◌, None}
use Rattle.gm_ast.specs.Surface as trees
use Rattle.gm_ast.specs.SurfaceTree.{expr_of, stmt_of}
use Rattle.gm_ast.proofs.SurfaceTrees.{stmt_of-If}
use Rattle.gm_ast.specs.declared.surface.SpelledStmt.{SpelledStmt}
use Rattle.gm_parse.proofs.nodes.if_then.Goals as goal

pub returns : goal.returns
returns c = stmt_of-If c.args.place c.args.test c.in_ok-yes.yes None ∙ ap (λ (s : SpelledStmt). trees.If c.args.place (expr_of c.args.test) (stmt_of s) trees.Skip) c.in_ok-yes.ensures.ok
