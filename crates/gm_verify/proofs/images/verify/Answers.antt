use Rattle.std.proofs.Common.{◌≡◌, None}
use Rattle.gm_image.specs.declared.images.Image.{Image}
use Rattle.gm_image.specs.Views.{program}
use Rattle.gm_image.specs.Soundness.{first_broken}
use Rattle.gm_verify.proofs.Sounding.{sounds}
use Rattle.gm_verify.proofs.Wholes.{refused, no-image, no-claim}
use Rattle.gm_verify.proofs.images.verify.Goals as goal

pub new-requires : goal.new-requires
new-requires c = sounds (program c.args.image) c.in_ok-check_image.ensures.0 c.requires

pub returns-in_err-check_image : goal.returns-in_err-check_image
returns-in_err-check_image c =
    let p = program c.args.image in
    let e = c.in_err-check_image.field-0.0 in
    record {
      ok = no-image (λ (sound : Image). sound ≡ c.args.image) c.from_residual.result e c.from_residual.ensures.1;
      kept = no-claim (first_broken p ≡ None) c.from_residual.result e c.from_residual.ensures.1;
      broken = refused p c.from_residual.result e c.from_residual.ensures.1 c.in_err-check_image.ensures;
    }

pub returns : goal.returns
returns c = record { ok = c.new.ensures; kept = c.in_ok-check_image.ensures.0; broken = tt }
