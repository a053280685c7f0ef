use Rattle.std.proofs.Common.{refl}
use Rattle.gm_ast.specs.SurfaceTree.{name_of}
use Rattle.gm_types.proofs.Forms.{judges-Method}
use Rattle.gm_types.proofs.names.Checker.judge_method.Goals as goal

pub returns : goal.returns
returns c =
    judges-Method (name_of c.args.owner.now) (name_of c.args.asked.now) c.used-found.ensures
    (rw (c.query_of-query.ensures, c.deref.ensures.value) at c.method.ensures.part) (rw (c.query_of-query.ensures, c.deref.ensures.value) at c.method.ensures.least) refl refl
