use Rattle.std.proofs.Common.{◌∙◌, ◌∷◌, [], List, get_or, map, arith, ap, sym, subst}
use Rattle.gm_ast.specs.declared.tree.Expr as E
use Rattle.gm_ast.specs.declared.tree.Target.{Target}
use Rattle.gm_ast.specs.declared.tree.Target.TheVariants as T
use Rattle.gm_ast.specs.Program as P
use Rattle.gm_ast.specs.Tree.{expr_of}
use Rattle.gm_semantics.specs.Iterations as I
use Rattle.gm_semantics.specs.Iterations.{does}
use Rattle.gm_loops.specs.Around.{loop_of, mode_in}
use Rattle.gm_loops.specs.Goings.{Does}
use Rattle.gm_loops.proofs.Statements.{one-target-bound, only-one, several-unless}
use Rattle.gm_loops.proofs.goings.Going.reduce_all.Goals as goal
use Rattle.gm_loops.proofs.goings.Going.reduce_all.Goals.{else-targets-eq1-via-then-targets-eq1+else-values-eq1, else-targets-eq1-via-else-targets-eq1}

-- what stands where there is no target
abbrev none : Target
none = T.Scalar 0 (record { line = 0; col = 0 })

pub reduce-requires-clause-bound : goal.reduce-requires-clause-bound
reduce-requires-clause-bound c = omega (arith, one-target-bound c.args.targets.now none c.if-targets-eq1.true, c.requires.bound)

pub returns-in_ok-reduce : goal.returns-in_ok-reduce
returns-in_ok-reduce c =
    let a = c.args.around.now in
    let m : I.Mode = mode_in a c.args.mode in
    let values : List P.Expr = map expr_of c.args.values.now in
    subst (λ (ts : List Target). Does a.setting.now m c.args.self.now c.reduce.new.self (does (P.Combine c.args.key c.args.total c.args.reduce ts values) m (loop_of a)))
    (sym (only-one c.args.targets.now none c.if-targets-eq1.true))
    (subst (λ (es : List P.Expr). Does a.setting.now m c.args.self.now c.reduce.new.self (does (P.Combine c.args.key c.args.total c.args.reduce (get_or c.args.targets.now 0 none ∷ []) es) m (loop_of a)))
    (sym (ap (map expr_of) (only-one c.args.values.now c.index-values-0.result c.if-values-eq1.true) ∙ ap (λ (e : E.Expr). expr_of e ∷ []) (sym c.index-values-0.is)))
    c.in_ok-reduce.ensures)

pub reduce_tuple-requires-clause-several : goal.reduce_tuple-requires-clause-several
reduce_tuple-requires-clause-several c =
    several-unless c.args.targets.now c.args.values.now
    (elim c.else-targets-eq1.branch [
      | else-targets-eq1-via-then-targets-eq1+else-values-eq1 w ↦ (λ p q. omega (arith, w.if-values-eq1.false))
      | else-targets-eq1-via-else-targets-eq1 w ↦ (λ p q. omega (arith, w.if-targets-eq1.false))
    ])
