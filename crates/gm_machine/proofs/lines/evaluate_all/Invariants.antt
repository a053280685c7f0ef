-- What is left gives the values after those that were found.
use Rattle.std.proofs.Common.{◌≡◌, drop, map}
use Rattle.gm_image.specs.Views.{term}
use Rattle.gm_machine.specs.Expressions.{values}
use Rattle.gm_machine.specs.Vertex.{view_with}
use Rattle.gm_machine.specs.VertexViews.{context_of}
use Rattle.gm_machine.proofs.LineSteps.{after_these}
use Rattle.gm_machine.proofs.lines.evaluate_all.Given as goal

abbrev pub invariant-loop-e : goal.invariant-loop-e
invariant-loop-e l =
    after_these l.found.items (values (view_with (context_of l.s) l.fields l.registers) (map term (drop l.e-index l.terms)))
    ≡ values (view_with (context_of l.s) l.fields l.registers) (map term l.terms)
