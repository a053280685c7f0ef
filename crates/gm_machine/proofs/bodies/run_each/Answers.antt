-- The turns of the lines that an each takes, and their folds.
use Rattle.std.proofs.Common.{◌≡◌, None, map, take, ap, sym, ◌∙◌}
use Rattle.std.proofs.lemmas.List.{take_min, take-map}
use Rattle.gm_image.specs.Views.{line}
use Rattle.gm_machine.specs.VertexViews.{context_of, state_of, direction}
use Rattle.gm_machine.specs.Vertex.{After, folded, turns_after, steps}
use Rattle.gm_machine.proofs.bodies.run_each.Goals as goal

pub returns : goal.returns
returns c =
    let cut : map line (take c.min-end.result c.args.rest.now) ≡ take c.args.n (map line c.args.rest.now) =
    ap (λ k. map line (take k c.args.rest.now)) c.min-end.ensures ∙ ap (map line) (take_min c.args.n c.args.rest.now) ∙ sym (take-map line c.args.n c.args.rest.now) in
    let skipping : After → After = λ a. record a { skip = c.args.n } in
    c.in_ok-taken.ensures
    ∙ ap (λ a. folded c.args.places (skipping a))
    (c.in_ok-fault.ensures ∙ ap (λ ls. turns_after (context_of c.args.context.now) ls (steps (direction c.args.out) c.args.context.now.graph.now c.args.context.now.node) (state_of c.args.state.now) None) cut)
