use Rattle.std.proofs.Common.{◌∙◌}
use Rattle.gm_slices.proofs.SliceWalks.{on-then}
use Rattle.gm_slices.proofs.slices.begin_group.Goals as goal

pub returns : goal.returns
returns c ss = on-then c.join.result (c.join.ensures ss) (λ e. e ∙ c.in_ok-end_group.ensures ss)
