-- The owners are those of the formula.
use Rattle.std.proofs.Common.{◌≡◌, ◌∙◌, ℕ, List, None, ap, rules, subst}
use Rattle.std.specs.Prelude.{IfOk, OnOk, IfErr}
use Rattle.gm_model.specs.Graphs.{node_count}
use Rattle.gm_image.specs.Views.{program}
use Rattle.gm_image.specs.declared.images.Image.{Image}
use Rattle.gm_machine.specs.Asking.{IsServed}
use Rattle.gm_core.specs.Cores.{start, effects, first_illegal}
use Rattle.gm_core.specs.Owners.{owners_by}
use Rattle.gm_core.specs.Runs.{view_of, StopsAt}
use Rattle.gm_core.proofs.runs.run_events.Goals as goal

pub run_from_start-outcome-requires : goal.run_from_start-outcome-requires
run_from_start-outcome-requires c = record {
  columns = c.requires.columns;
  served = subst (λ (i : Image). IsServed (program i) c.args.graph.now c.in_ok-in_rows.in_rows) c.image.ensures.same c.in_ok-in_rows.ensures;
  dealt = search rules;
}

pub returns-clause-state : goal.returns-clause-state
returns-clause-state c =
    let p = program c.args.image.now in
    let g = c.args.graph.now in
    let w = c.args.workers in
    let owners : c.as_slice-owners.result.now ≡ owners_by c.args.owner w (node_count g) = c.as_slice-owners.ensures.value ∙ c.in_ok-dealt.ensures.each ∙ ap (owners_by c.args.owner w) c.node_count-nodes.ensures.count in
    subst (λ (os : List ℕ). IfOk c.run_from_start-outcome.result (λ state. state ≡ view_of p g os w (effects p g os w (start p g os w c.args.args.now c.args.turns) c.args.events.now))) owners c.run_from_start-outcome.ensures.state

pub returns-clause-legal : goal.returns-clause-legal
returns-clause-legal c =
    let p = program c.args.image.now in
    let g = c.args.graph.now in
    let w = c.args.workers in
    let owners : c.as_slice-owners.result.now ≡ owners_by c.args.owner w (node_count g) = c.as_slice-owners.ensures.value ∙ c.in_ok-dealt.ensures.each ∙ ap (owners_by c.args.owner w) c.node_count-nodes.ensures.count in
    subst (λ (os : List ℕ). OnOk c.run_from_start-outcome.result (first_illegal p g os w 0 (start p g os w c.args.args.now c.args.turns) c.args.events.now ≡ None)) owners c.run_from_start-outcome.ensures.legal

pub returns-clause-illegal : goal.returns-clause-illegal
returns-clause-illegal c =
    let p = program c.args.image.now in
    let g = c.args.graph.now in
    let w = c.args.workers in
    let owners : c.as_slice-owners.result.now ≡ owners_by c.args.owner w (node_count g) = c.as_slice-owners.ensures.value ∙ c.in_ok-dealt.ensures.each ∙ ap (owners_by c.args.owner w) c.node_count-nodes.ensures.count in
    subst (λ (os : List ℕ). IfErr c.run_from_start-outcome.result (StopsAt (first_illegal p g os w 0 (start p g os w c.args.args.now c.args.turns) c.args.events.now))) owners c.run_from_start-outcome.ensures.illegal
