use Rattle.std.proofs.Common.{◌≡◌, ◌∙◌, sym, ap, subst}
use Rattle.std.specs.Prelude.{IsTrue}
use Rattle.gm_image.specs.Program.{Program}
use Rattle.gm_image.specs.Soundness.{is_sound}
use Rattle.gm_image.specs.Views.{program}
use Rattle.gm_merge.specs.Trimmed.{trimmed}
use Rattle.gm_merge.specs.Results.{RunsAs, HasSameRest}
use Rattle.gm_merge.proofs.Sizes.{small, steps-inside, trimmed-rest, trimmed-runs-as}
use Rattle.gm_merge.proofs.SoundTrims.{trimmed-sound}
use Rattle.gm_merge.proofs.images.trim.Goals as goal

pub trim_image-requires : goal.trim_image-requires
trim_image-requires c =
    let p = program c.into_image.result in
    record { few = (small p c.into_image.ensures.sound).blocks; inside = steps-inside p c.into_image.ensures.sound }

pub new-requires : goal.new-requires
new-requires c = subst (λ (q : Program). IsTrue (is_sound q)) (sym c.in_ok-trimmed.ensures) (trimmed-sound (program c.into_image.result) c.into_image.ensures.sound)

pub returns-clause-made : goal.returns-clause-made
returns-clause-made c = ap program c.new.ensures ∙ c.in_ok-trimmed.ensures ∙ ap (λ x. trimmed (program x)) c.into_image.ensures.same

pub returns-clause-same : goal.returns-clause-same
returns-clause-same c =
    subst (λ x. RunsAs (program x) (program c.new.result)) c.into_image.ensures.same
    (subst (RunsAs (program c.into_image.result)) (sym (ap program c.new.ensures ∙ c.in_ok-trimmed.ensures)) (trimmed-runs-as (program c.into_image.result) c.into_image.ensures.sound))

pub returns-clause-rest : goal.returns-clause-rest
returns-clause-rest c =
    subst (λ x. HasSameRest (program x) (program c.new.result)) c.into_image.ensures.same
    (subst (HasSameRest (program c.into_image.result)) (sym (ap program c.new.ensures ∙ c.in_ok-trimmed.ensures)) (trimmed-rest (program c.into_image.result)))
