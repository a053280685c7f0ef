use Rattle.std.proofs.Common.{◌≡◌, ◌∙◌, ◌<◌, ◌+◌, ℕ, length, get_or, arith, rules, sym, ap, subst}
use Rattle.gm_semantics.specs.Levels.{numbers_from}
use Rattle.gm_loops.specs.declared.loops.LoopNodes.{LoopNodes}
use Rattle.gm_loops.specs.LoopEnds.{nodes_in}
use Rattle.gm_loops.proofs.Looping.{length-numbers, get-numbers}
use Rattle.gm_loops.proofs.loops.LoopNodes.at.Goals as goal

pub overflow_cast-result : goal.overflow_cast-result
overflow_cast-result c =
    let lt : c.args.k < c.in-Below.count = subst (λ (n : ℕ). c.args.k < n) (length-numbers 0 c.in-Below.count) (subst (λ (l : LoopNodes). c.args.k < length (nodes_in l)) c.in-Below.is c.requires) in
    search rules

pub returns-in-Below : goal.returns-in-Below
returns-in-Below c = λ d.
    let lt : c.args.k < c.in-Below.count = subst (λ (n : ℕ). c.args.k < n) (length-numbers 0 c.in-Below.count) (subst (λ (l : LoopNodes). c.args.k < length (nodes_in l)) c.in-Below.is c.requires) in
    let got : get_or (numbers_from 0 c.in-Below.count) c.args.k d ≡ 0 + c.args.k = get-numbers 0 c.in-Below.count c.args.k d lt in
    let here : c.args.k ≡ 0 + c.args.k = omega arith in
    here ∙ sym got ∙ ap (λ (l : LoopNodes). get_or (nodes_in l) c.args.k d) (sym c.in-Below.is)
