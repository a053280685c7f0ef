use Rattle.std.proofs.Common.{Option, sym, subst}
use Rattle.std.specs.Prelude.{option_map}
use Rattle.gm_ast.specs.declared.tree.Expr as E
use Rattle.gm_ast.specs.Program as P
use Rattle.gm_ast.specs.Tree.{expr_of}
use Rattle.gm_semantics.specs.Iterations as I
use Rattle.gm_semantics.specs.Iterations.{does}
use Rattle.gm_loops.specs.Around.{loop_of, mode_in}
use Rattle.gm_loops.specs.Goings.{Does}
use Rattle.gm_loops.proofs.goings.Going.declare.Goals as goal

pub returns-in_ok-declare_first-in-None : goal.returns-in_ok-declare_first-in-None
returns-in_ok-declare_first-in-None c =
    let a = c.args.around.now in
    let m : I.Mode = mode_in a c.args.mode in
    subst (λ (v : Option E.Expr). Does a.setting.now m c.args.self.now c.declare_first.new.self (does (P.Declare c.args.key c.args.x (option_map expr_of v)) m (loop_of a))) (sym c.in-None.is)
    (c.in_ok-declare_first-in-None.ensures m c.args.key)
