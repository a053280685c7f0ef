-- The laws of images, of the one that is made.
use Rattle.std.proofs.Common.{◌≡◌, ◌<◌, ap, subst, ◌∙◌}
use Rattle.gm_ast.specs.Program as S
use Rattle.gm_image.specs.Program.{Program}
use Rattle.gm_image.specs.Rows.{line_count}
use Rattle.gm_image.specs.Soundness.{is_sound, line_limit}
use Rattle.gm_lowering.specs.Lowered.{lowered}
use Rattle.gm_lowering_master.proofs.Plain.{plain-programs-run}
use Rattle.gm_machine.specs.Machine.{machine}
use Rattle.gm_sound_lowering.proofs.Whole.{images-are-sound}
use Rattle.gm_lower.specs.Images.{image_of}
use Rattle.gm_lower.specs.Laws.{IsItsImage, HasItsOutcome, IsSoundWhereAsked}
use Rattle.gm_lower.proofs.Outputs.{image_is, inputs_alone}

pub is_its_image : (p : S.Program) (i : Program) → i ≡ image_of p → IsItsImage p i
is_its_image p i made held = made ∙ image_is p held

pub has_its_outcome : (p : S.Program) (i : Program) → i ≡ image_of p → HasItsOutcome p i
has_its_outcome p i made g args bound face typed fits columns followed plain =
    ap (λ z. (machine z g args bound).outcome) (is_its_image p i made (inputs_alone p face))
    ∙ plain-programs-run p g args bound face typed fits columns followed plain

pub is_sound_where_asked : (p : S.Program) (i : Program) → i ≡ image_of p → line_count i < line_limit → IsSoundWhereAsked p i
is_sound_where_asked p i made short asks =
    let own : i ≡ lowered p = is_its_image p i made (inputs_alone p asks.asked.interface) in
    ap is_sound own
    ∙ images-are-sound p asks.asked asks.names asks.race_free asks.shallow asks.few (subst (λ z. line_count z < line_limit) own short)
