use Rattle.std.proofs.Common.{◌-◌, length}
use Rattle.gm_parse.proofs.StatementLaws.{GroupsSoFar}
use Rattle.gm_parse.proofs.procedures.parameters.Given as goal

abbrev pub invariant-row : goal.invariant-row
invariant-row l = GroupsSoFar l.around l.tokens l.at l.after l.groups.items

abbrev pub decreases-row : goal.decreases-row
decreases-row l = length l.tokens.tokens - l.after
