use Rattle.std.proofs.Common.{◌∙◌, ap}
use Rattle.gm_race.specs.Uses.{with_use}
use Rattle.gm_race.proofs.Summed.{adds-use}
use Rattle.gm_race.proofs.sums.add_use.Goals as goal

pub returns : goal.returns
returns c =
    let f = c.args.found in
    adds-use c.args.loops.now.entries c.insert.new.self.entries f c.with.result (c.with.ensures ∙ ap (λ u. with_use u f) c.uses_at-uses.ensures) (λ s. c.in_ok-insert.ensures.updates.0 s)
