-- What is left gives the parts after those that were found.
use Rattle.std.proofs.Common.{◌≡◌, drop, length, map}
use Rattle.gm_image.specs.Views.{target}
use Rattle.gm_machine.specs.Contributions.{gives_parts}
use Rattle.gm_machine.specs.Vertex.{view_with}
use Rattle.gm_machine.specs.VertexViews.{context_of}
use Rattle.gm_machine.proofs.LineSteps.{after_these}
use Rattle.gm_machine.proofs.lines.evaluate_targets.Given as goal

abbrev pub invariant-loop-t : goal.invariant-loop-t
invariant-loop-t l =
    after_these l.given.items (gives_parts (view_with (context_of l.s) l.fields l.registers) l.reduce l.place l.width (map target (drop l.t-index l.targets)))
    ≡ gives_parts (view_with (context_of l.s) l.fields l.registers) l.reduce l.place (length l.targets) (map target l.targets)
