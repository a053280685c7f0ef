use Rattle.std.proofs.Common.{subst, sym, take}
use Rattle.std.proofs.lemmas.List.{take_more}
use Rattle.gm_race.specs.declared.meetings.Meetings.{Meetings}
use Rattle.gm_race.specs.Meetings.{SumsUp}
use Rattle.gm_race.proofs.Summed.{sums-next}
use Rattle.gm_race.proofs.sums.meetings_of.Goals as goal

pub loop-access-preserved : goal.loop-access-preserved
loop-access-preserved c =
    let fs = c.args.found.now in
    let i = c.loop-access.access-index in
    let n : Meetings = record { loops = c.add_use.new.loops; inner = c.add_inner.new.inner } in
    subst (SumsUp n) (sym (take_more fs i _ c.loop-access-test.true))
    (sums-next c.loop-access.meetings n (take i fs) _ c.loop-access.invariant c.in_ok-add_use.ensures c.in_ok-add_inner.ensures)
