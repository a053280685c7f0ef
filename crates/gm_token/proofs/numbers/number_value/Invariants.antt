use Rattle.std.proofs.Common.{◌≡◌, ◌≤◌, drop}
use Rattle.std.specs.Prelude.{fold}
use Rattle.gm_token.specs.Limits.{greatest_number}
use Rattle.gm_token.specs.Spellings.{decimal_value}
use Rattle.gm_token.proofs.Values.{more}
use Rattle.gm_token.proofs.numbers.number_value.Given as goal

abbrev pub invariant-loop-digit : goal.invariant-loop-digit
invariant-loop-digit l = (fold more l.value (drop l.digit-index l.digits) ≡ decimal_value l.digits) × (l.value ≤ greatest_number)
