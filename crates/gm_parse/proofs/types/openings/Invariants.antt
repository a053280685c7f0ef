use Rattle.std.proofs.Common.{◌-◌, length}
use Rattle.gm_parse.proofs.NestingLaws.{OpenedSoFar}
use Rattle.gm_parse.proofs.types.openings.Given as goal

abbrev pub invariant-opening : goal.invariant-opening
invariant-opening l = OpenedSoFar l.around l.tokens l.at l.after l.bearers.items

abbrev pub decreases-opening : goal.decreases-opening
decreases-opening l = length l.tokens.tokens - l.after
