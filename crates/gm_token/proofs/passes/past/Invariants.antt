use Rattle.std.proofs.Common.{◌≡◌, ◌+◌, ◌≤◌, drop}
use Rattle.gm_token.specs.Places.{past}
use Rattle.gm_token.proofs.passes.past.Given as goal

abbrev pub invariant-loop-byte : goal.invariant-loop-byte
invariant-loop-byte l = record {
  left : past l.place (drop l.byte-index l.bytes) ≡ past l.fn.at l.bytes;
  line : l.place.line ≤ l.fn.at.line + l.byte-index;
  col : l.place.col ≤ l.fn.at.col + l.byte-index;
}
