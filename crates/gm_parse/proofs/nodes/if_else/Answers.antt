-- The branches that stand in boxes are those that were given.
use Rattle.std.proofs.Common.{ap, ◌∙◌, Some}
use Rattle.std.specs.Prelude.{box_value}
use Rattle.gm_ast.specs.Surface as trees
use Rattle.gm_ast.specs.SurfaceTree.{expr_of, stmt_of}
use Rattle.gm_ast.proofs.SurfaceTrees.{stmt_of-If}
use Rattle.gm_ast.specs.declared.surface.SpelledExpr.{SpelledExpr}
use Rattle.gm_ast.specs.declared.surface.SpelledStmt.{SpelledStmt}
use Rattle.gm_parse.proofs.nodes.if_else.Goals as goal

pub returns : goal.returns
returns c = stmt_of-If c.args.place c.in_ok-test.test c.in_ok-test.yes (Some c.in_ok-test.no)
    ∙ ap (λ (e : SpelledExpr). trees.If c.args.place (expr_of e) (stmt_of (box_value c.in_ok-test.yes)) (stmt_of (box_value c.in_ok-test.no))) c.in_ok-test.ensures.part
    ∙ ap (λ (s : SpelledStmt). trees.If c.args.place (expr_of c.args.test) (stmt_of s) (stmt_of (box_value c.in_ok-test.no))) c.in_ok-test.ensures.first
    ∙ ap (λ (s : SpelledStmt). trees.If c.args.place (expr_of c.args.test) (stmt_of c.args.yes) (stmt_of s)) c.in_ok-test.ensures.second
