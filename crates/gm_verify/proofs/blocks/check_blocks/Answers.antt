use Rattle.std.proofs.Common.{◌+◌, drop, map}
use Rattle.std.specs.List.{flat_map}
use Rattle.gm_image.specs.Views.{program, block}
use Rattle.gm_image.specs.Rows.{block_rows}
use Rattle.gm_verify.proofs.Sections.{flat-at, flat-end}
use Rattle.gm_verify.proofs.Walking.{walks-start, walks-section, walks-broken, walks-end, walks-fits, stopped}
use Rattle.gm_verify.proofs.blocks.check_blocks.Goals as goal

pub check_block-requires : goal.check_block-requires
check_block-requires c =
    let p = program c.args.image.now in
    let bs = c.args.blocks.now in
    let i = c.loop-one.one-index in
    let x = c.one-item.result in
    let all = flat_map block_rows (map block bs) in
    walks-fits p c.args.number all c.loop-one.next (block_rows (block x)) (flat_map block_rows (map block (drop (i + 1) bs)))
    (flat-at p c.args.number all c.loop-one.next block_rows block bs i x c.loop-one-test.true c.one-item.is c.loop-one.invariant) c.requires

pub loop-one-init : goal.loop-one-init
loop-one-init c = walks-start (program c.args.image.now) c.args.number (flat_map block_rows (map block c.args.blocks.now))

pub loop-one-preserved : goal.loop-one-preserved
loop-one-preserved c =
    let p = program c.args.image.now in
    let bs = c.args.blocks.now in
    let i = c.loop-one.one-index in
    let x = c.one-item.result in
    let all = flat_map block_rows (map block bs) in
    walks-section p c.args.number all c.loop-one.next c.in_ok-next.next (block_rows (block x)) (flat_map block_rows (map block (drop (i + 1) bs)))
    (flat-at p c.args.number all c.loop-one.next block_rows block bs i x c.loop-one-test.true c.one-item.is c.loop-one.invariant) c.in_ok-next.ensures

pub returns-in_err-next : goal.returns-in_err-next
returns-in_err-next c =
    let p = program c.args.image.now in
    let bs = c.args.blocks.now in
    let i = c.loop-one.one-index in
    let x = c.one-item.result in
    let all = flat_map block_rows (map block bs) in
    stopped p c.args.number all c.from_residual.result c.in_err-next.field-0.0 c.from_residual.ensures.1
    (walks-broken p c.args.number all c.loop-one.next (block_rows (block x)) (flat_map block_rows (map block (drop (i + 1) bs)))
    (flat-at p c.args.number all c.loop-one.next block_rows block bs i x c.loop-one-test.true c.one-item.is c.loop-one.invariant) c.in_err-next.field-0.0 c.in_err-next.ensures)

pub returns : goal.returns
returns c =
    let p = program c.args.image.now in
    let bs = c.args.blocks.now in
    let all = flat_map block_rows (map block bs) in
    walks-end p c.args.number all c.loop-one.next
    (flat-end p c.args.number all c.loop-one.next block_rows block bs c.loop-one.one-index c.loop-one-test.false c.loop-one.invariant)
