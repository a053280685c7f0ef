use Rattle.std.proofs.Common.{rules, ◌≡◌, ◌+◌, ◌<◌, ◌∷◌, [], ◌++◌, ap, ◌∙◌, drop, length}
use Rattle.gm_dissect.specs.Conditions.{flag_local, flag_locals}
use Rattle.gm_dissect.proofs.Trees.{next-local}
use Rattle.gm_dissect.proofs.conditions.declare.Goals as goal

pub loop-number-preserved : goal.loop-number-preserved
loop-number-preserved c =
    let i = c.loop-number._number-index in
    let ys = c.args.numbers.now.items in
    let less : i < length ys = search rules in
    let pushed : c.push.new.self.items ≡ c.loop-number.declarations.items ++ (flag_local ∷ []) = search rules in
    ap (λ l. l ++ flag_locals (drop (i + 1) ys)) pushed ∙ next-local c.loop-number.declarations.items ys i less ∙ c.loop-number.invariant
