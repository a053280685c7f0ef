use Rattle.std.proofs.Common.{◌≡◌, drop, map}
use Rattle.std.specs.List.{list_all}
use Rattle.gm_image.specs.Views.{handler}
use Rattle.gm_machine.specs.Asking.{handler_outward}
use Rattle.gm_machine.proofs.asking.handlers_outward.Given as goal

-- what is left gives the answer
abbrev pub invariant-loop-handled : goal.invariant-loop-handled
invariant-loop-handled l = list_all handler_outward (map handler (drop l.handled-index l.handlers)) ≡ list_all handler_outward (map handler l.handlers)
