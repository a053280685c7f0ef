use Rattle.std.proofs.Common.{refl}
use Rattle.gm_ast.specs.Names.{used}
use Rattle.gm_ast.specs.SurfaceTree.{name_of}
use Rattle.gm_ast.specs.Statements.{property_goal}
use Rattle.gm_types.proofs.Walks.{judges-both, judges-by}
use Rattle.gm_types.proofs.names.Checker.goal.Goals as goal

pub returns-in-Some : goal.returns-in-Some
returns-in-Some c =
    rw c.in-Some.is
    (judges-by (property_goal c.args.target.now.owner.place)
    (judges-both (used (name_of c.args.target.now.owner)) (used (name_of c.in-Some.name)) c.used-owner.ensures c.used-property.ensures)
    c.property_goal.ensures.part c.property_goal.ensures.least refl refl)
