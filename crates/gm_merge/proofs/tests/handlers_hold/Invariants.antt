use Rattle.std.proofs.Common.{◌≡◌, drop, map}
use Rattle.std.specs.List.{list_all}
use Rattle.gm_image.specs.Views.{handler}
use Rattle.gm_merge.specs.Tests.{line_holds, lines_of}
use Rattle.gm_merge.proofs.tests.handlers_hold.Given as goal

-- the handlers that are left give the answer
abbrev pub invariant-loop-handled : goal.invariant-loop-handled
invariant-loop-handled l = list_all (line_holds l.fn.test) (lines_of (map handler (drop l.handled-index l.handlers))) ≡ list_all (line_holds l.fn.test) (lines_of (map handler l.handlers))
