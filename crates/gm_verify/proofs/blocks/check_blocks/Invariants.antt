use Rattle.std.proofs.Common.{drop, map}
use Rattle.std.specs.List.{flat_map}
use Rattle.gm_image.specs.Views.{program, block}
use Rattle.gm_image.specs.Rows.{block_rows}
use Rattle.gm_verify.specs.Checks.{Walks}
use Rattle.gm_verify.proofs.blocks.check_blocks.Given as goal

-- the blocks so far break no rule
abbrev pub invariant-loop-one : goal.invariant-loop-one
invariant-loop-one l = Walks (program l.image) l.fn.number (flat_map block_rows (map block l.blocks)) l.next (flat_map block_rows (map block (drop l.one-index l.blocks)))
