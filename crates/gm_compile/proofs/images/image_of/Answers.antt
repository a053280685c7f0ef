use Rattle.std.proofs.Common.{◌≡◌, ap, subst, ◌∙◌}
use Rattle.std.specs.Prelude.{IfSome}
use Rattle.gm_ast.specs.Tree.{program_of}
use Rattle.gm_combiners.specs.Combiners.{combining}
use Rattle.gm_image.specs.Views as Views
use Rattle.gm_lower.specs.Images as Images
use Rattle.gm_lower.specs.Laws.{IsItsImage}
use Rattle.gm_merge.specs.Merged.{merged}
use Rattle.gm_compile.proofs.images.image_of.Goals as goal

pub returns-in_ok-finish_image-in-Some-clause-made : goal.returns-in_ok-finish_image-in-Some-clause-made
returns-in_ok-finish_image-in-Some-clause-made c =
    let p = program_of c.args.program.now in
    let image : Views.program c.in-Some.image ≡ Images.image_of p = subst (λ o. IfSome o (λ i. Views.program i ≡ Images.image_of p)) c.in-Some.is c.in_ok-image.ensures.made in
    c.in_ok-finish_image-in-Some.ensures.made ∙ ap (λ i. combining (merged i)) image

pub returns-in_ok-finish_image-in-Some-clause-runs : goal.returns-in_ok-finish_image-in-Some-clause-runs
returns-in_ok-finish_image-in-Some-clause-runs c = record {
  image = Views.program c.in-Some.image;
  own = subst (λ o. IfSome o (λ i. IsItsImage (program_of c.args.program.now) (Views.program i))) c.in-Some.is c.in_ok-image.ensures.own;
  outcomes = c.in_ok-finish_image-in-Some.ensures.same;
  rest = c.in_ok-finish_image-in-Some.ensures.rest;
}
