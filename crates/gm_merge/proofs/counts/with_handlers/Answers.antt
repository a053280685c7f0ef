use Rattle.std.proofs.Common.{◌≡◌, ◌+◌, ◌≤◌, ℕ, min, List, length, map, take, refl, ap, arith}
use Rattle.gm_image.specs.declared.images.Handler as H
use Rattle.gm_image.specs.Views.{handler}
use Rattle.gm_image.specs.Rows.{handlers_rows}
use Rattle.gm_verify.specs.Checks.{all_handlers_rows}
use Rattle.gm_verify.proofs.Counting.{counts}
use Rattle.gm_verify.proofs.Lists.{nothing-left}
use Rattle.gm_verify.proofs.Groups.{rest_rows, lines_in, length-at}
use Rattle.gm_merge.proofs.counts.with_handlers.Goals as goal

pub loop-handled-init : goal.loop-handled-init
loop-handled-init c = record { low = c.requires; all = refl }

pub loop-handled-preserved : goal.loop-handled-preserved
loop-handled-preserved c =
    let hs = c.args.handlers.now in
    let i = c.loop-handled.handled-index in
    let x = c.handled-item.result in
    let here : length (rest_rows hs i) ≡ 1 + length x.lines + length (rest_rows hs (i + 1)) = length-at hs i x c.loop-handled-test.true c.handled-item.is in
    let inv = c.loop-handled.invariant in
    let count = c.loop-handled.count in
    let both = counts (count + 1) c.with_lines-header.result c.len.result c.with_lines-count.result c.with_lines-header.ensures c.with_lines-count.ensures in
    let low : c.with_lines-count.result ≤ 4294967296 = omega (arith, c.with_lines-count.ensures) in
    record { low = low; all = omega (arith, both, here, inv.all, c.len.ensures) }

pub returns : goal.returns
returns c =
    let hs = c.args.handlers.now in
    let i = c.loop-handled.handled-index in
    let none : length (rest_rows hs i) ≡ 0 =
    ap (λ (gs : List H.Handler). length (handlers_rows (lines_in (map handler hs)) (lines_in (map handler (take i hs))) (map handler (take i hs)) (map handler gs))) (nothing-left hs i c.loop-handled-test.false) in
    omega (arith, none, c.loop-handled.invariant.low, c.loop-handled.invariant.all)
