use Rattle.std.proofs.Common.{◌≡◌, ◌+◌, ◌≤◌, min, length, map, drop}
use Rattle.std.specs.List.{flat_map}
use Rattle.gm_image.specs.Views.{block}
use Rattle.gm_image.specs.Rows.{block_rows}
use Rattle.gm_merge.proofs.counts.with_blocks.Given as goal

-- the lines so far, with those that are left, are all
abbrev pub invariant-loop-one : goal.invariant-loop-one
invariant-loop-one l = record {
  low : l.count ≤ 4294967296;
  all : min (l.count + length (flat_map block_rows (map block (drop l.one-index l.blocks)))) 4294967296 ≡ min (l.fn.start + length (flat_map block_rows (map block l.blocks))) 4294967296;
}
