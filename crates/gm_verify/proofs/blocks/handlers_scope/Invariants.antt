use Rattle.std.proofs.Common.{[], map, take}
use Rattle.gm_image.specs.Views.{handler}
use Rattle.gm_image.specs.Rows.{in_handlers}
use Rattle.gm_verify.specs.Scopes.{ShowsScope}
use Rattle.gm_verify.proofs.Groups.{lines_in}
use Rattle.gm_verify.proofs.blocks.handlers_scope.Given as goal

-- the fields that the handlers so far fold are known
abbrev pub invariant-loop-handled : goal.invariant-loop-handled
invariant-loop-handled l = ShowsScope l.scope (in_handlers (lines_in (map handler (take l.handled-index l.handlers))) [])
