use Rattle.std.proofs.Common.{◌∙◌, ap, cond, Some}
use Rattle.std.specs.Map.{lookup}
use Rattle.gm_race.specs.Uses.{with_inner}
use Rattle.gm_race.specs.Meetings.{inner_eq}
use Rattle.gm_race.proofs.Summed.{adds-inner, at-inner-site}
use Rattle.gm_race.proofs.sums.add_inner.Goals as goal

pub returns : goal.returns
returns c =
    let f = c.args.found in
    adds-inner c.args.inner.now.entries c.insert.new.self.entries f c.with.result (c.with.ensures ∙ ap (λ u. with_inner u f) c.inner_at-uses.ensures) (λ s. c.in_ok-insert.ensures.updates.0 s ∙ ap (λ b. cond b (Some c.with.result) (lookup (inner_eq s) c.args.inner.now.entries)) (at-inner-site s f))
