use Rattle.std.proofs.Common.{ap, ◌∙◌}
use Rattle.gm_ast.specs.Surface as trees
use Rattle.gm_ast.specs.Surface.{SurfaceStmt}
use Rattle.gm_ast.specs.SurfaceTree.{name_of, test_of, stmt_of}
use Rattle.gm_ast.proofs.SurfaceTrees.{stmt_of-InBfs, stmt_of-Block}
use Rattle.gm_parse.proofs.nodes.search.Goals as goal

pub returns : goal.returns
returns c = stmt_of-InBfs c.args.place c.args.front.iterator c.args.front.graph c.args.front.root c.args.front.filter c.in_ok-body.body
    ∙ ap (λ (s : SurfaceStmt). trees.InBfs c.args.place (name_of c.args.front.iterator) (name_of c.args.front.graph) (name_of c.args.front.root) (test_of c.args.front.filter) s) (ap stmt_of c.in_ok-body.ensures.ok ∙ stmt_of-Block c.args.body)
