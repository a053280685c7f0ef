use Rattle.std.proofs.Common.{◌-◌, length}
use Rattle.gm_ast.specs.SurfaceTree.{expr_of}
use Rattle.gm_parse.specs.Grammar.{Sum, an_entry}
use Rattle.gm_parse.specs.Trees.{ReadsTree}
use Rattle.gm_parse.proofs.TupleLaws.{EntriesSoFar}
use Rattle.gm_parse.proofs.tuples.more_values.Given as goal

abbrev pub invariant-row : goal.invariant-row
invariant-row l = EntriesSoFar an_entry expr_of (ReadsTree Sum) l.around l.tokens l.at l.after l.initial.values.items l.values.items

abbrev pub decreases-row : goal.decreases-row
decreases-row l = length l.tokens.tokens - l.after
