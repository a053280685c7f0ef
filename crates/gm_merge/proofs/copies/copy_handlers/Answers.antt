use Rattle.std.proofs.Common.{◌∙◌, map, ap}
use Rattle.gm_image.specs.Views.{handler}
use Rattle.gm_verify.proofs.Lists.{taken-all}
use Rattle.gm_merge.proofs.Copying.{copied-more}
use Rattle.gm_merge.proofs.copies.copy_handlers.Goals as goal

pub loop-handled-preserved : goal.loop-handled-preserved
loop-handled-preserved c =
    copied-more handler c.args.handlers.now c.loop-handled.copies.items c.push.new.self.items c.loop-handled.handled-index c.handled-item.result c.in_ok-copy.copy
    c.in_ok-push.ensures.items c.loop-handled.invariant c.in_ok-copy.ensures c.loop-handled-test.true c.handled-item.is

pub returns : goal.returns
returns c = c.loop-handled.invariant ∙ ap (map handler) (taken-all c.args.handlers.now c.loop-handled.handled-index c.loop-handled-test.false)
