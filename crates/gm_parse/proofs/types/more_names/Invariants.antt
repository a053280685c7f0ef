use Rattle.std.proofs.Common.{◌-◌, length}
use Rattle.gm_parse.proofs.TypeLaws.{NamesSoFar}
use Rattle.gm_parse.proofs.types.more_names.Given as goal

abbrev pub invariant-row : goal.invariant-row
invariant-row l = NamesSoFar l.around l.tokens l.at l.after l.fn.first.items l.names.items

abbrev pub decreases-row : goal.decreases-row
decreases-row l = length l.tokens.tokens - l.after
