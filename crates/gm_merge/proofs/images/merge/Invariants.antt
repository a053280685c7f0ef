use Rattle.gm_image.specs.Views.{program}
use Rattle.gm_merge.proofs.images.merge.Given as goal

abbrev pub ghost-join_image : goal.ghost-join_image
ghost-join_image a = program a.image
