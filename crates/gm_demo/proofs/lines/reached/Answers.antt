use Rattle.std.proofs.Common.{◌≡◌, ◌+◌, ◌∙◌, Bool, sym, ap, add-zero}
use Rattle.std.specs.Prelude.{if◌then◌else◌, is_some}
use Rattle.gm_demo.proofs.Reading.{count_on}
use Rattle.gm_demo.proofs.lines.reached.Goals as goal
use Rattle.gm_demo.proofs.lines.reached.Goals.{then-is_some, else-is_some}

pub loop-node-preserved : goal.loop-node-preserved
loop-node-preserved c =
    let now : c.if-is_some.count ≡ c.loop-node.count + (if is_some c.distance_of.result then 1 else 0) =
    elim c.if-is_some.branch [
      | then-is_some w ↦ w.count-is ∙ ap (λ (b : Bool). c.loop-node.count + (if b then 1 else 0)) (sym w.if-is_some.true ∙ c.is_some.ensures)
      | else-is_some w ↦ w.count-is ∙ (sym (add-zero c.loop-node.count) ∙ ap (λ (b : Bool). c.loop-node.count + (if b then 1 else 0)) (sym w.if-is_some.false ∙ c.is_some.ensures))
    ] in
    count_on c.args.values.now c.loop-node.count c.if-is_some.count c.loop-node.node c.get.result c.distance_of.result c.loop-node.invariant c.get.ensures c.distance_of.ensures now
