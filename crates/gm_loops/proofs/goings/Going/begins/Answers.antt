use Rattle.std.proofs.Common.{◌∙◌, arith, sym, ap, subst}
use Rattle.gm_ast.specs.Program as P
use Rattle.gm_ast.specs.Tree.{expr_of}
use Rattle.gm_semantics.specs.Expressions.{value}
use Rattle.gm_semantics.specs.Iterations as I
use Rattle.gm_loops.specs.declared.sights.Sight.{Sight}
use Rattle.gm_loops.specs.Around.{mode_in}
use Rattle.gm_loops.specs.Scopes.{no_scope}
use Rattle.gm_loops.specs.Sights.{view_of, Fits}
use Rattle.gm_loops.proofs.Closing.{begins-value, begins-fault}
use Rattle.gm_loops.proofs.goings.Going.begins.Goals as goal

pub write-requires : goal.write-requires
write-requires c = omega (arith, c.requires.bound, c.requires.ready.fits.scalars)

pub value-requires-clause-fits : goal.value-requires-clause-fits
value-requires-clause-fits c =
    let f = c.args.around.now.setting.now in
    let r = c.requires.ready in
    subst (λ (s : Sight). Fits s.setting.now c.write.new.self.store) (sym c.sight.ensures)
    ((c.in_ok-write.ensures f (mode_in c.args.around.now c.args.mode)).ready (record { fits = r.fits; inner = r.inner; outermost = r.outermost; deferred = r.deferred })).fits

pub returns-in-Ok : goal.returns-in-Ok
returns-in-Ok c =
    let a = c.args.around.now in
    let m : I.Mode = mode_in a c.args.mode in
    let test : P.Expr = expr_of c.args.filter.now in
    begins-value a c.args.mode c.args.key test c.args.iterator c.args.node c.args.self.now c.write.new.self c.in-Ok.passed c.is_true.result
    (c.in_ok-write.ensures a.setting.now m)
    (sym c.in-Ok.is ∙ c.value.ensures ∙ ap (λ (s : Sight). value test (view_of s no_scope c.write.new.self.store)) c.sight.ensures)
    c.is_true.ensures

pub returns-in-Err : goal.returns-in-Err
returns-in-Err c =
    let a = c.args.around.now in
    let m : I.Mode = mode_in a c.args.mode in
    let test : P.Expr = expr_of c.args.filter.now in
    begins-fault a c.args.mode c.args.key test c.args.iterator c.args.node c.args.self.now c.write.new.self c.fail.new.self c.in-Err.fault
    (c.in_ok-write.ensures a.setting.now m)
    (sym c.in-Err.is ∙ c.value.ensures ∙ ap (λ (s : Sight). value test (view_of s no_scope c.write.new.self.store)) c.sight.ensures)
    (c.fail.ensures a.setting.now m)
