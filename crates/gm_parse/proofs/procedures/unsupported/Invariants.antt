use Rattle.std.proofs.Common.{◌-◌, ◌≤◌, length, take}
use Rattle.gm_token.specs.Tokens.{words_of}
use Rattle.gm_parse.specs.Refused.{AllSupported}
use Rattle.gm_parse.proofs.procedures.unsupported.Given as goal

abbrev pub invariant-row : goal.invariant-row
invariant-row l = AllSupported (take l.at (words_of l.tokens))

abbrev pub decreases-row : goal.decreases-row
decreases-row l = length l.tokens.tokens - l.at
