use Rattle.std.proofs.Common.{◌∙◌, ap}
use Rattle.gm_image.specs.Views.{program}
use Rattle.gm_combiners.specs.Combiners.{combining}
use Rattle.gm_compile.proofs.Finishing.{same-outcomes, same-interface}
use Rattle.gm_compile.proofs.images.finish_image.Goals as goal

pub returns-clause-made : goal.returns-clause-made
returns-clause-made c = c.in_ok-combined.ensures.made ∙ ap combining c.in_ok-merged.ensures.made

pub returns-clause-same : goal.returns-clause-same
returns-clause-same c = same-outcomes (program c.args.image) (program c.in_ok-merged.merged) (program c.in_ok-combined.combined) c.in_ok-merged.ensures.same c.in_ok-combined.ensures.same

pub returns-clause-rest : goal.returns-clause-rest
returns-clause-rest c = same-interface (program c.args.image) (program c.in_ok-merged.merged) (program c.in_ok-combined.combined) c.in_ok-merged.ensures.rest c.in_ok-combined.ensures.made
