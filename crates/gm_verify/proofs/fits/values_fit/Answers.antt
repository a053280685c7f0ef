use Rattle.std.proofs.Common.{◌∙◌, map}
use Rattle.std.proofs.lemmas.List.{length-map}
use Rattle.gm_image.specs.Views.{program, term}
use Rattle.gm_verify.proofs.Values.{values_fit-uneven}
use Rattle.gm_verify.proofs.fits.values_fit.Goals as goal

pub returns-then-types-values : goal.returns-then-types-values
returns-then-types-values c =
    values_fit-uneven (program c.args.image.now) c.args.kind c.args.types.now (map term c.args.values.now) (λ e. c.if-types-values.true (e ∙ length-map c.args.values.now term))
