use Rattle.std.proofs.Common.{◌+◌, map, drop, sym, ap, ◌∙◌}
use Rattle.gm_image.specs.Views.{line, handler}
use Rattle.gm_merge.specs.Tests.{lines_of}
use Rattle.gm_merge.specs.Bounds.{lines_bound}
use Rattle.gm_verify.proofs.Declared.{rest-at}
use Rattle.gm_merge.proofs.Bounding.{bound_append}
use Rattle.gm_merge.proofs.bounds.handlers_bound.Goals as goal

pub loop-handled-preserved : goal.loop-handled-preserved
loop-handled-preserved c =
    let hs = c.args.handlers.now in
    let i = c.loop-handled.handled-index in
    let x = c.handled-item.result in
    let bound = c.loop-handled.bound in
    let here = rest-at handler hs i x c.loop-handled-test.true c.handled-item.is in
    ap (λ n. lines_bound n (lines_of (map handler (drop (i + 1) hs)))) c.lines_bound-bound.ensures
    ∙ ap (λ ls. lines_bound (lines_bound bound (map line ls)) (lines_of (map handler (drop (i + 1) hs)))) c.as_slice.ensures
    ∙ sym (bound_append bound (map line x.lines) (lines_of (map handler (drop (i + 1) hs))))
    ∙ sym (ap (λ gs. lines_bound bound (lines_of gs)) here)
    ∙ c.loop-handled.invariant
