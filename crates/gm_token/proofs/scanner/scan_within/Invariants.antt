use Rattle.std.proofs.Common.{◌-◌, length}
use Rattle.gm_token.proofs.Steps.{SoFar}
use Rattle.gm_token.proofs.scanner.scan_within.Given as goal

abbrev pub invariant-text : goal.invariant-text
invariant-text l = SoFar l.text l.rows.items l.at l.place

abbrev pub decreases-text : goal.decreases-text
decreases-text l = length l.text - l.at
