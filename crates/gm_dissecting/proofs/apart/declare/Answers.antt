use Rattle.std.proofs.Common.{◌≡◌, ◌++◌, ◌∷◌, [], ap, ◌∙◌, rules}
use Rattle.gm_parting.specs.Apart.{inner_flag}
use Rattle.gm_dissecting.proofs.Standing.{one-more-flag}
use Rattle.gm_dissecting.proofs.apart.declare.Goals as goal

pub loop-i-preserved : goal.loop-i-preserved
loop-i-preserved c =
    let at = c.loop-i in
    let pushed : c.push.new.self.items ≡ at.declarations.items ++ (inner_flag ∷ []) = search rules in
    pushed ∙ ap (λ l. l ++ (inner_flag ∷ [])) at.invariant ∙ one-more-flag c.args.declarations.now.items at._i
