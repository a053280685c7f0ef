use Rattle.std.proofs.Common.{◌∙◌, map, ap}
use Rattle.gm_image.specs.Views.{target}
use Rattle.gm_verify.proofs.Lists.{taken-all}
use Rattle.gm_merge.proofs.Copying.{copied-more}
use Rattle.gm_merge.proofs.copies.copy_targets.Goals as goal

pub loop-each-preserved : goal.loop-each-preserved
loop-each-preserved c =
    copied-more target c.args.targets.now c.loop-each.copies.items c.push.new.self.items c.loop-each.each-index c.each-item.result c.in_ok-copy.copy
    c.in_ok-push.ensures.items c.loop-each.invariant c.in_ok-copy.ensures c.loop-each-test.true c.each-item.is

pub returns : goal.returns
returns c = c.loop-each.invariant ∙ ap (map target) (taken-all c.args.targets.now c.loop-each.each-index c.loop-each-test.false)
