use Rattle.std.proofs.Common.{◌∙◌, ℕ, List, [], ◌∷◌, ◌++◌, ap, sym}
use Rattle.gm_loops.proofs.Everywhere.{numbers-next}
use Rattle.gm_loops.proofs.columns.numbered.Goals as goal

pub loop-node-preserved : goal.loop-node-preserved
loop-node-preserved c = c.in_ok-push.ensures.items ∙ ap (λ (ms : List ℕ). ms ++ c.loop-node.node ∷ []) c.loop-node.invariant ∙ sym (numbers-next c.loop-node.node)
