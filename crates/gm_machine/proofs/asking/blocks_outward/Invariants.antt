use Rattle.std.proofs.Common.{◌≡◌, drop, map}
use Rattle.std.specs.List.{list_all}
use Rattle.gm_image.specs.Views.{block}
use Rattle.gm_machine.specs.Asking.{block_outward}
use Rattle.gm_machine.proofs.asking.blocks_outward.Given as goal

-- what is left gives the answer
abbrev pub invariant-loop-one : goal.invariant-loop-one
invariant-loop-one l = list_all block_outward (map block (drop l.one-index l.blocks)) ≡ list_all block_outward (map block l.blocks)
