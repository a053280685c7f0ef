use Rattle.std.proofs.Common.{◌≡◌, drop}
use Rattle.gm_fields.proofs.Digits.{go}
use Rattle.gm_fields.proofs.number_in.Given as goal

abbrev pub invariant-loop-b : goal.invariant-loop-b
invariant-loop-b l = go 0 l.field ≡ go l.number (drop l.b-index l.field)
