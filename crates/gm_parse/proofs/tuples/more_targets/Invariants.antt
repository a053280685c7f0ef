use Rattle.std.proofs.Common.{◌-◌, length}
use Rattle.gm_ast.specs.SurfaceTree.{target_of}
use Rattle.gm_parse.specs.Grammar.{Of, Target}
use Rattle.gm_parse.specs.Trees.{ReadsTarget}
use Rattle.gm_parse.proofs.TupleLaws.{EntriesSoFar}
use Rattle.gm_parse.proofs.tuples.more_targets.Given as goal

abbrev pub invariant-row : goal.invariant-row
invariant-row l = EntriesSoFar (Of Target) target_of ReadsTarget l.around l.tokens l.at l.after l.initial.targets.items l.targets.items

abbrev pub decreases-row : goal.decreases-row
decreases-row l = length l.tokens.tokens - l.after
