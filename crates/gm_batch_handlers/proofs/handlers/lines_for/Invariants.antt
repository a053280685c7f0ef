-- No handler so far is for the kind.
use Rattle.std.proofs.Common.{◌≡◌, drop, map}
use Rattle.gm_image.specs.Views.{handler}
use Rattle.gm_machine.specs.Vertex.{handler_lines}
use Rattle.gm_batch_handlers.proofs.handlers.lines_for.Given as goal

abbrev pub invariant-loop-h : goal.invariant-loop-h
invariant-loop-h l = handler_lines (map handler (drop l.h-index l.handlers)) l.kind ≡ handler_lines (map handler l.handlers) l.kind
