use Rattle.std.proofs.Common.{take}
use Rattle.gm_race.specs.Meetings.{SumsUp}
use Rattle.gm_race.proofs.sums.meetings_of.Given as goal

-- the accesses so far are summed up
abbrev pub invariant-loop-access : goal.invariant-loop-access
invariant-loop-access l = SumsUp l.meetings (take l.access-index l.found)
