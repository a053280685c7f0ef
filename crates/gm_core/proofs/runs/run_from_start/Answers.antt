-- From the start on.
use Rattle.std.proofs.Common.{◌≡◌, ◌∙◌, None, length, sym, ap, subst}
use Rattle.std.proofs.lemmas.List.{length-map}
use Rattle.gm_image.specs.Views.{program}
use Rattle.gm_machine.specs.Machine.{machine}
use Rattle.gm_core.specs.Cores.{Core, start, effects, first_illegal, AllLegal}
use Rattle.gm_core.specs.CoreViews.{core_of}
use Rattle.gm_core.specs.Laws.{released, EndsInTime}
use Rattle.gm_core.specs.Runs.{view_of}
use Rattle.gm_core.proofs.LegalLemmas.{legal-all}
use Rattle.gm_core.proofs.RunLemmas.{reached, ends-in-time}
use Rattle.gm_core.proofs.runs.run_from_start.Goals as goal

pub returns-clause-nodes : goal.returns-clause-nodes
returns-clause-nodes c = ap (λ v. length v.fields) c.in_ok-state.ensures ∙ length-map c.run_all.new.core.fields.items (λ row. row.items) ∙ c.in_ok-run_all.ensures.wide.fields

pub returns-clause-step : goal.returns-clause-step
returns-clause-step c =
    let p = program c.args.setting.now.image.now in
    let g = c.args.setting.now.graph.now in
    let os = c.args.setting.now.owners.now in
    let w = c.args.setting.now.workers in
    let es = c.args.events.now in
    let begun : Core = start p g os w c.args.args.now c.args.turns in
    let core : core_of c.run_all.new.core ≡ effects p g os w begun es = c.in_ok-run_all.ensures.core ∙ ap (λ (s : Core). effects p g os w s es) c.in_ok-core.ensures.core in
    let none : first_illegal p g os w 0 begun es ≡ None = sym (ap (λ (s : Core). first_illegal p g os w 0 s es) c.in_ok-core.ensures.core) ∙ c.in_ok-run_all.ensures.legal in
    let all : AllLegal p g os w begun es = legal-all p g os w es 0 begun none in
    ap (λ v. v.step) (c.in_ok-state.ensures ∙ ap (view_of p g os w) core)
    ∙ (reached p g os w c.in_ok-core.ensures.sound c.requires.dealt c.args.args.now c.args.turns es all).step

pub returns-clause-ended : goal.returns-clause-ended
returns-clause-ended c =
    let p = program c.args.setting.now.image.now in
    let g = c.args.setting.now.graph.now in
    let os = c.args.setting.now.owners.now in
    let w = c.args.setting.now.workers in
    let es = c.args.events.now in
    let begun : Core = start p g os w c.args.args.now c.args.turns in
    let core : core_of c.run_all.new.core ≡ effects p g os w begun es = c.in_ok-run_all.ensures.core ∙ ap (λ (s : Core). effects p g os w s es) c.in_ok-core.ensures.core in
    let none : first_illegal p g os w 0 begun es ≡ None = sym (ap (λ (s : Core). first_illegal p g os w 0 s es) c.in_ok-core.ensures.core) ∙ c.in_ok-run_all.ensures.legal in
    let all : AllLegal p g os w begun es = legal-all p g os w es 0 begun none in
    subst (λ end. EndsInTime end (machine p g c.args.args.now c.args.turns) (released es))
    (sym (ap (λ v. v.ended) (c.in_ok-state.ensures ∙ ap (view_of p g os w) core)))
    (ends-in-time p g os w c.in_ok-core.ensures.sound c.requires.dealt c.args.args.now c.args.turns es all)
