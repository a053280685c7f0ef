use Rattle.std.proofs.Common.{length}
use Rattle.gm_ast.specs.SurfaceTree.{type_of}
use Rattle.gm_parse.proofs.NestingLaws.{ClosedSoFar}
use Rattle.gm_parse.proofs.types.closings.Given as goal

abbrev pub invariant-closing : goal.invariant-closing
invariant-closing l = ClosedSoFar l.around l.tokens l.at l.after l.fn.bearers.items l.unclosed.items (type_of l.fn.inner) (type_of l.vtype)

abbrev pub decreases-closing : goal.decreases-closing
decreases-closing l = length l.unclosed.items
