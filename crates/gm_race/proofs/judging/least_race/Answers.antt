use Rattle.std.proofs.Common.{map, ap, ◌∙◌}
use Rattle.gm_base.specs.Rules.{least}
use Rattle.gm_ast.specs.Loops.{is_property}
use Rattle.gm_ast.specs.Races.{races_among}
use Rattle.gm_race.specs.Views.{access_of}
use Rattle.gm_race.proofs.Leasts.{race-next}
use Rattle.gm_race.proofs.judging.least_race.Goals as goal

pub loop-access-preserved : goal.loop-access-preserved
loop-access-preserved c =
    let ds = c.args.declarations.now in
    let fs = c.args.found.now in
    race-next ds fs c.loop-access.access-index _ c.args.meetings.now (least (races_among ds (map access_of fs))) c.loop-access.least c.loop-access-test.true c.requires
    (c.is_property-property.ensures ∙ ap is_property c.declared.ensures) c.uses_at-uses.ensures c.inner_at-inner.ensures c.note_races.ensures c.loop-access.invariant
