use Rattle.std.proofs.Common.{◌≡◌, ◌+◌, ◌≤◌, ℕ, min, List, length, map, drop, refl, arith}
use Rattle.std.specs.List.{flat_map}
use Rattle.gm_image.specs.Views.{block}
use Rattle.gm_image.specs.Rows.{block_rows}
use Rattle.gm_verify.proofs.Counting.{length-blocks-at, length-blocks-end}
use Rattle.gm_merge.proofs.counts.with_blocks.Goals as goal

pub loop-one-init : goal.loop-one-init
loop-one-init c = record { low = c.requires; all = refl }

pub loop-one-preserved : goal.loop-one-preserved
loop-one-preserved c =
    let bs = c.args.blocks.now in
    let i = c.loop-one.one-index in
    let x = c.one-item.result in
    let here = length-blocks-at bs i x c.loop-one-test.true c.one-item.is in
    let inv = c.loop-one.invariant in
    let low : c.with_block-count.result ≤ 4294967296 = omega (arith, c.with_block-count.ensures) in
    record { low = low; all = omega (arith, c.with_block-count.ensures, here, inv.all) }

pub returns : goal.returns
returns c =
    let none = length-blocks-end c.args.blocks.now c.loop-one.one-index c.loop-one-test.false in
    omega (arith, none, c.loop-one.invariant.low, c.loop-one.invariant.all)
