-- One more node has its first fields.
use Rattle.std.proofs.Common.{◌∙◌, ◌∷◌, [], map, ap, arith}
use Rattle.std.proofs.lemmas.List.{map-append}
use Rattle.gm_image.specs.Views.{program}
use Rattle.gm_core.proofs.CoreChanges.{fields-more, fields-all}
use Rattle.gm_core.proofs.runs.all_fields.Goals as goal

pub loop-node-preserved : goal.loop-node-preserved
loop-node-preserved c =
    fields-more (program c.args.image.now) c.args.graph.now c.loop-node.node (map (λ row. row.items) c.loop-node.fields.items) (map (λ row. row.items) c.push.new.self.items) c.in_ok-row.row.items
    (omega (arith, c.loop-node-test.true)) (c.in_ok-row.ensures 0) c.loop-node.invariant
    (ap (map (λ row. row.items)) c.in_ok-push.ensures.items ∙ map-append (λ row. row.items) c.loop-node.fields.items (c.in_ok-row.row ∷ []))

pub returns : goal.returns
returns c =
    fields-all (program c.args.image.now) c.args.graph.now c.loop-node.node (map (λ row. row.items) c.loop-node.fields.items) (omega (arith, c.loop-node-test.false)) c.loop-node.invariant
