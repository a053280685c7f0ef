use Rattle.std.proofs.Common.{◌≡◌, ◌∷◌, length, false, sym, ◌∙◌}
use Rattle.std.proofs.lemmas.Result.{IfOk-weaker}
use Rattle.std.specs.Prelude.{◌==◌}
use Rattle.gm_image.specs.Views.{term}
use Rattle.gm_bodies.proofs.BodyLines.{replaced}
use Rattle.gm_bodies.proofs.keeps.+replacing.Goals as goal

pub returns : goal.returns
returns t c =
    let target = c.in-Some.target.now in
    let rest = c.in-Some.rest.now in
    let whole : c.args.targets.now ≡ target ∷ rest = c.in-Some.ensures.cases.0 in
    let more : (length rest == 0) ≡ false = sym c.is_empty.ensures ∙ c.if-is_empty.false in
    IfOk-weaker c.replace_by.result _ _
    (λ r made. made
    ∙ replaced c.args.keeper.now c.args.greatest c.args.position c.args.targets.now target rest (term c.in_ok-first.first) (term c.in_ok-worse.worse) (term c.in_ok-more.more) c.in_ok-next.field-0
    whole more c.in_ok-first.ensures c.in_ok-next.ensures c.in_ok-more.ensures c.in_ok-worse.ensures)
    c.replace_by.ensures
