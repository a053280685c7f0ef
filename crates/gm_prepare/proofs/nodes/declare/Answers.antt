use Rattle.std.proofs.Common.{◌≡◌, ◌++◌, ◌∷◌, [], ap, ◌∙◌, rules}
use Rattle.gm_parting.specs.Nodes.{node_local}
use Rattle.gm_prepare.proofs.Walks.{one-more-local}
use Rattle.gm_prepare.proofs.nodes.declare.Goals as goal

pub loop-i-preserved : goal.loop-i-preserved
loop-i-preserved c =
    let at = c.loop-i in
    let pushed : c.push.new.self.items ≡ at.declarations.items ++ (node_local c.args.depth ∷ []) = search rules in
    pushed ∙ ap (λ l. l ++ (node_local c.args.depth ∷ [])) at.invariant ∙ one-more-local c.args.declarations.now.items c.args.depth at._i
