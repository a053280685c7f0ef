use Rattle.std.proofs.Common.{arith}
use Rattle.gm_ast.specs.Tree.{stmt_of}
use Rattle.gm_prepare.proofs.Declaring.{declared-next, declared-done}
use Rattle.gm_prepare.proofs.declared.declare_first.Goals as goal

pub declaring-preserved : goal.declaring-preserved
declaring-preserved c =
    let at = c.declaring in
    declared-next c.args.key c.args.place c.in-Some.variable _ at.locals.items (stmt_of at.body) _ _ c.in-Some.ensures.items c.in_ok-declare_one.ensures at.invariant

pub returns : goal.returns
returns c =
    let at = c.declaring in
    declared-done c.args.key c.args.place at.locals.items (stmt_of at.body) _ (omega (arith, c.in_default.ensures.cases)) at.invariant
