use Rattle.std.proofs.Common.{◌≡◌, ◌+◌, ◌≤◌, min, length, map}
use Rattle.gm_image.specs.Views.{handler}
use Rattle.gm_verify.specs.Checks.{all_handlers_rows}
use Rattle.gm_verify.proofs.Groups.{rest_rows}
use Rattle.gm_merge.proofs.counts.with_handlers.Given as goal

-- the lines so far, with those that are left, are all
abbrev pub invariant-loop-handled : goal.invariant-loop-handled
invariant-loop-handled l = record {
  low : l.count ≤ 4294967296;
  all : min (l.count + length (rest_rows l.handlers l.handled-index)) 4294967296 ≡ min (l.fn.start + length (all_handlers_rows (map handler l.handlers))) 4294967296;
}
