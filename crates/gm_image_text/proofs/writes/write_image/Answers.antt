use Rattle.std.proofs.Common.{◌≡◌, ap, subst}
use Rattle.std.specs.Prelude.{IfOk}
use Rattle.gm_image.specs.declared.images.Image.{Image}
use Rattle.gm_image.specs.Views.{program}
use Rattle.gm_image_text.specs.Spelling.{image_text}
use Rattle.gm_image_text.proofs.SoundFits.{written_text}
use Rattle.gm_image_text.proofs.writes.write_image.Goals as goal

pub returns : goal.returns
returns c =
    let P : Image → Type 0 = λ i. IfOk c.written.result (λ text. text.items ≡ image_text (program i)) in
    let spelled : IfOk c.written.result (λ text. text.items ≡ image_text (program c.args.image.now)) = subst P c.image.ensures.same c.written.ensures in
    record {
      spelled = spelled;
      text = written_text (program c.image.result.now) (program c.args.image.now) c.written.result (ap program c.image.ensures.same) c.image.ensures.sound c.image.ensures.numbers spelled;
    }
