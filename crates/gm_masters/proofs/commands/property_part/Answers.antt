use Rattle.std.proofs.Common.{◌≡◌, [], ◌∷◌, true, ap, ◌∙◌, map, rules}
use Rattle.gm_value.specs.Numbers.{zero_of}
use Rattle.gm_image.specs.Program.{SetField}
use Rattle.gm_image.specs.Term.{Const}
use Rattle.gm_image.specs.Views.{block, command}
use Rattle.gm_lowering.specs.Blocks.{body_block}
use Rattle.gm_masters.specs.Parts.{as_at, as_frame, as_part}
use Rattle.gm_masters.proofs.Single.{first_is, map-both}
use Rattle.gm_masters.proofs.commands.property_part.Goals as goal

pub returns-clause-part : goal.returns-clause-part
returns-clause-part c =
    let w = as_frame c.args.frame.now in
    let kept : w.layout.is_kept c.args.variable ≡ true = search rules in
    first_is w (as_at c.args.at) c.args.vtype c.args.variable (as_part c.new-part.result) (block c.in_ok-first.first) (map command c.push.new.self.items) (map block c.push-2.new.self.items)
    kept c.new-part.ensures.part
    (c.in_ok-first.ensures ∙ ap (λ f. body_block (SetField f (Const (zero_of c.args.vtype)) ∷ [])) c.in_ok-field.ensures)
    (ap (map command) c.in_ok-push.ensures.items ∙ map-both command c.new-part.result.commands.items _)
    (ap (map block) c.in_ok-push-2.ensures.items ∙ map-both block _ _)
