use Rattle.std.proofs.Common.{◌≡◌, ◌∙◌, Ok, Err, List, length, map, sym, ap, subst, arith, length-append}
use Rattle.std.specs.List.{flat_map}
use Rattle.std.proofs.lemmas.List.{length-map}
use Rattle.gm_image.specs.declared.images.Block as B
use Rattle.gm_image.specs.Views.{program, block, command}
use Rattle.gm_image.specs.Rows.{block_rows, command_rows, rows}
use Rattle.gm_verify.specs.Checks.{Checks}
use Rattle.gm_verify.specs.Tails.{from_blocks, from_master}
use Rattle.gm_verify.proofs.Commands.{length-command_rows}
use Rattle.gm_verify.proofs.Walking.{stopped}
use Rattle.gm_verify.proofs.Wholes.{behind-fits, behind-section, behind-tail, section-breaks, found}
use Rattle.gm_verify.proofs.images.check_image.Goals as goal

pub check_columns-requires : goal.check_columns-requires
check_columns-requires c = record { room = c.requires; reached = c.in_ok-globals.ensures }

pub check_places-requires : goal.check_places-requires
check_places-requires c = record { room = c.requires; reached = c.in_ok-kinds.ensures }

pub check_blocks-requires : goal.check_blocks-requires
check_blocks-requires c =
    let p = program c.args.image.now in
    let fits = behind-fits p c.in_ok-blocks.blocks (from_blocks p) c.in_ok-blocks.ensures c.requires in
    let long : length (flat_map block_rows p.blocks) ≡ length (flat_map block_rows (map block c.as_slice.result.now)) = ap (λ (bs : List B.Block). length (flat_map block_rows (map block bs))) (sym c.as_slice.ensures) in
    omega (arith, fits, long, length-append (flat_map block_rows p.blocks) (from_master p))

pub check_master-requires : goal.check_master-requires
check_master-requires c =
    let p = program c.args.image.now in
    let blocks = subst (λ (bs : List B.Block). Checks p c.in_ok-blocks.blocks (flat_map block_rows (map block bs)) (Ok c.in_ok-master.master)) c.as_slice.ensures c.in_ok-master.ensures in
    let reached = behind-section p c.in_ok-blocks.blocks c.in_ok-master.master (flat_map block_rows p.blocks) (from_master p) c.in_ok-blocks.ensures blocks in
    let fits = behind-fits p c.in_ok-master.master (from_master p) reached c.requires in
    let long : length (command_rows 0 p.master) ≡ length c.args.image.now.master = length-command_rows p.master 0 ∙ length-map c.args.image.now.master command in
    omega (arith, fits, long)

pub returns-in_err-globals : goal.returns-in_err-globals
returns-in_err-globals c =
    let p = program c.args.image.now in
    stopped p 1 (rows p) c.from_residual.result c.in_err-globals.field-0.0 c.from_residual.ensures.1 (found p c.in_err-globals.field-0.0 c.in_err-globals.ensures)

pub returns-in_err-kinds : goal.returns-in_err-kinds
returns-in_err-kinds c =
    let p = program c.args.image.now in
    stopped p 1 (rows p) c.from_residual-in_err-kinds.result c.in_err-kinds.field-0.0 c.from_residual-in_err-kinds.ensures.1 (found p c.in_err-kinds.field-0.0 c.in_err-kinds.ensures)

pub returns-in_err-blocks : goal.returns-in_err-blocks
returns-in_err-blocks c =
    let p = program c.args.image.now in
    stopped p 1 (rows p) c.from_residual-in_err-blocks.result c.in_err-blocks.field-0.0 c.from_residual-in_err-blocks.ensures.1 (found p c.in_err-blocks.field-0.0 c.in_err-blocks.ensures)

pub returns-in_err-master : goal.returns-in_err-master
returns-in_err-master c =
    let p = program c.args.image.now in
    let e = c.in_err-master.field-0.0 in
    let blocks = subst (λ (bs : List B.Block). Checks p c.in_ok-blocks.blocks (flat_map block_rows (map block bs)) (Err e)) c.as_slice.ensures c.in_err-master.ensures in
    stopped p 1 (rows p) c.from_residual-in_err-master.result e c.from_residual-in_err-master.ensures.1
    (found p e (section-breaks p c.in_ok-blocks.blocks (flat_map block_rows p.blocks) (from_master p) c.in_ok-blocks.ensures e blocks))

pub returns : goal.returns
returns c =
    let p = program c.args.image.now in
    let blocks = subst (λ (bs : List B.Block). Checks p c.in_ok-blocks.blocks (flat_map block_rows (map block bs)) (Ok c.in_ok-master.master)) c.as_slice.ensures c.in_ok-master.ensures in
    let reached = behind-section p c.in_ok-blocks.blocks c.in_ok-master.master (flat_map block_rows p.blocks) (from_master p) c.in_ok-blocks.ensures blocks in
    behind-tail p c.in_ok-master.master (from_master p) reached c.check_master.result c.check_master.ensures
