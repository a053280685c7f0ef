use Rattle.std.proofs.Common.{◌≡◌, take, map}
use Rattle.gm_image.specs.Views.{handler}
use Rattle.gm_merge.proofs.copies.copy_handlers.Given as goal

-- copies of those so far
abbrev pub invariant-loop-handled : goal.invariant-loop-handled
invariant-loop-handled l = map handler l.copies.items ≡ map handler (take l.handled-index l.handlers)
