use Rattle.std.proofs.Common.{refl}
use Rattle.gm_ast.specs.SurfaceTree.{name_of}
use Rattle.gm_types.proofs.Forms.{judges-Member}
use Rattle.gm_types.proofs.names.Checker.judge_member.Goals as goal

pub returns : goal.returns
returns c =
    judges-Member (name_of c.args.owner.now) (name_of c.args.property.now) c.used-node.ensures c.used-read.ensures c.member.ensures.part c.member.ensures.least refl refl
