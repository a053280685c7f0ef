use Rattle.std.proofs.Common.{◌≡◌, ◌<◌, rules}
use Rattle.gm_ast.specs.Tree.{program_of}
use Rattle.gm_image.specs.Rows.{line_count}
use Rattle.gm_image.specs.Soundness.{line_limit}
use Rattle.gm_image.specs.Views.{program}
use Rattle.gm_lower.specs.Images.{image_of}
use Rattle.gm_lower.proofs.Laws.{is_its_image, has_its_outcome, is_sound_where_asked}
use Rattle.gm_lower.proofs.images.lower.Goals as goal

pub returns-clause-own : goal.returns-clause-own
returns-clause-own c =
    let made : program c.in_ok-image.image ≡ image_of (program_of c.args.program.now) = search rules in
    is_its_image (program_of c.args.program.now) (program c.in_ok-image.image) made

pub returns-clause-outcome : goal.returns-clause-outcome
returns-clause-outcome c =
    let made : program c.in_ok-image.image ≡ image_of (program_of c.args.program.now) = search rules in
    has_its_outcome (program_of c.args.program.now) (program c.in_ok-image.image) made

pub returns-clause-sound : goal.returns-clause-sound
returns-clause-sound c =
    let made : program c.in_ok-image.image ≡ image_of (program_of c.args.program.now) = search rules in
    let short : line_count (program c.in_ok-image.image) < line_limit = search rules in
    is_sound_where_asked (program_of c.args.program.now) (program c.in_ok-image.image) made short
