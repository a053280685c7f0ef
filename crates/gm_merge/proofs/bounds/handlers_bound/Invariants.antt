use Rattle.std.proofs.Common.{◌≡◌, drop, map}
use Rattle.gm_image.specs.Views.{handler}
use Rattle.gm_merge.specs.Tests.{lines_of}
use Rattle.gm_merge.specs.Bounds.{lines_bound}
use Rattle.gm_merge.proofs.bounds.handlers_bound.Given as goal

-- the handlers that are left end at the same bound
abbrev pub invariant-loop-handled : goal.invariant-loop-handled
invariant-loop-handled l = lines_bound l.bound (lines_of (map handler (drop l.handled-index l.handlers))) ≡ lines_bound l.start (lines_of (map handler l.handlers))
