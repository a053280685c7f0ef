use Rattle.std.proofs.Common.{◌∙◌, map, ap}
use Rattle.gm_image.specs.Views.{term}
use Rattle.gm_verify.proofs.Lists.{taken-all}
use Rattle.gm_merge.proofs.Copying.{copied-more}
use Rattle.gm_merge.proofs.copies.copy_exprs.Goals as goal

pub loop-expr-preserved : goal.loop-expr-preserved
loop-expr-preserved c =
    copied-more term c.args.exprs.now c.loop-expr.copies.items c.push.new.self.items c.loop-expr.expr-index c.expr-item.result c.in_ok-copy.copy
    c.in_ok-push.ensures.items c.loop-expr.invariant c.in_ok-copy.ensures c.loop-expr-test.true c.expr-item.is

pub returns : goal.returns
returns c = c.loop-expr.invariant ∙ ap (map term) (taken-all c.args.exprs.now c.loop-expr.expr-index c.loop-expr-test.false)
