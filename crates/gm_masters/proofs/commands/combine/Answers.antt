use Rattle.std.proofs.Common.{◌≡◌, ◌++◌, ap, ◌∙◌, map}
use Rattle.gm_ast.specs.Tree.{expr_of}
use Rattle.gm_image.specs.Views.{command}
use Rattle.gm_layouts.specs.Where.{where_of}
use Rattle.gm_lowering.specs.Places.{segment, spots_in_all}
use Rattle.gm_places.specs.Spots.{as_spot}
use Rattle.gm_bodies.specs.Keeps.{setting}
use Rattle.gm_masters.specs.Parts.{as_at, as_frame, as_part, command_by}
use Rattle.gm_masters.proofs.Single.{combined_is}
use Rattle.gm_masters.proofs.commands.combine.Goals as goal

pub returns-clause-part : goal.returns-clause-part
returns-clause-part c =
    let es = map expr_of c.args.values.now in
    let g = c.in_ok-places.places in
    let placed : g ≡ segment c.args.at.place (spots_in_all es c.args.key) =
    c.in_ok-places.ensures
    ∙ ap (λ l. segment c.args.at.place (map as_spot l)) c.deref.ensures.value
    ∙ ap (λ l. segment c.args.at.place l) (c.in_ok-add_spots_in_all.ensures ∙ ap (λ l. map as_spot l ++ spots_in_all es c.args.key) c.new-spots.ensures.items) in
    combined_is (as_frame c.args.frame.now) (as_at c.args.at) c.args.key c.args.reduce c.args.targets.now es g (as_part c.new-part.result)
    (map command c.add_settings.new.out.items) (map (command_by (where_of c.args.frame.now.layout.now)) (map setting c.in_ok-settings.settings.items)) c.add_shown.new.places.items
    placed c.in_ok-settings.ensures c.new-part.ensures.part c.in_ok-add_settings.ensures c.in_ok-add_shown.ensures
