use Rattle.std.proofs.Common.{◌≡◌, ◌++◌, map, ap, sym, ◌∙◌}
use Rattle.std.proofs.lemmas.Result.{IfOk-weaker}
use Rattle.gm_image.specs.Views.{line}
use Rattle.gm_lowering.specs.Plans.{Puts, Sends, Picks, way_of}
use Rattle.gm_message.specs.Views.{as_way}
use Rattle.gm_bodies.specs.Sites.{reduced, site_of}
use Rattle.gm_bodies.proofs.BodyLines.{reduction_added}
use Rattle.gm_bodies.proofs.bodies.add_reduction.Goals as goal

pub returns-in_ok-push-in-Puts-clause-lines : goal.returns-in_ok-push-in-Puts-clause-lines
returns-in_ok-push-in-Puts-clause-lines c =
    let site = site_of c.args.site.now in
    let targets = c.args.reduction.now.targets.now in
    let way : Puts ≡ way_of site.layout.declarations site.node targets =
    sym (ap as_way c.in-Puts.is) ∙ c.way_of.ensures ∙ ap (λ ds. way_of ds site.node targets) c.declarations.ensures in
    reduction_added site c.args.kind Puts c.args.reduction.now c.args.out.now.items c.push.new.self.items c.in_ok-put_line-in-Puts.field-0 way c.in_ok-push-in-Puts.ensures.items
    c.in_ok-put_line-in-Puts.ensures

pub returns-in_ok-push-in-Sends-clause-lines : goal.returns-in_ok-push-in-Sends-clause-lines
returns-in_ok-push-in-Sends-clause-lines c =
    let site = site_of c.args.site.now in
    let targets = c.args.reduction.now.targets.now in
    let way : Sends ≡ way_of site.layout.declarations site.node targets =
    sym (ap as_way c.in-Sends.is) ∙ c.way_of.ensures ∙ ap (λ ds. way_of ds site.node targets) c.declarations.ensures in
    let added =
    reduction_added site c.args.kind Sends c.args.reduction.now c.args.out.now.items c.push-in-Sends.new.self.items c.in_ok-send_line-in-Sends.field-0 way
    c.in_ok-push-in-Sends.ensures.items c.in_ok-send_line-in-Sends.ensures in
    IfOk-weaker c.next.result _ _ (λ sent is. added) c.next.ensures

pub returns-in_ok-add_kept-in-Picks-clause-lines :
    goal.returns-in_ok-add_kept-in-Picks-clause-lines
returns-in_ok-add_kept-in-Picks-clause-lines c =
    let site = site_of c.args.site.now in
    let targets = c.args.reduction.now.targets.now in
    let way : Picks ≡ way_of site.layout.declarations site.node targets =
    sym (ap as_way c.in-Picks.is) ∙ c.way_of.ensures ∙ ap (λ ds. way_of ds site.node targets) c.declarations.ensures in
    c.in_ok-add_kept-in-Picks.ensures ∙ ap (λ w. map line c.args.out.now.items ++ reduced site c.args.kind w c.args.reduction.now) way
