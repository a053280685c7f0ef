use Rattle.std.proofs.Common.{◌∙◌, map, ap}
use Rattle.gm_image.specs.Views.{line}
use Rattle.gm_verify.proofs.Lists.{taken-all}
use Rattle.gm_merge.proofs.Copying.{copied-more}
use Rattle.gm_merge.proofs.copies.copy_lines.Goals as goal

pub loop-vertex_line-preserved : goal.loop-vertex_line-preserved
loop-vertex_line-preserved c =
    copied-more line c.args.lines.now c.loop-vertex_line.copies.items c.push.new.self.items c.loop-vertex_line.vertex_line-index c.vertex_line-item.result c.in_ok-copy.copy
    c.in_ok-push.ensures.items c.loop-vertex_line.invariant c.in_ok-copy.ensures c.loop-vertex_line-test.true c.vertex_line-item.is

pub returns : goal.returns
returns c = c.loop-vertex_line.invariant ∙ ap (map line) (taken-all c.args.lines.now c.loop-vertex_line.vertex_line-index c.loop-vertex_line-test.false)
