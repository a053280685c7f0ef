use Rattle.std.proofs.Common.{◌≡◌, ◌<◌, ◌≤◌, refl, ap, ◌∙◌, length, map, arith}
use Rattle.std.specs.Prelude.{slice_index_or}
use Rattle.std.proofs.lemmas.List.{length-set, length-map}
use Rattle.gm_ast.specs.Tree.{expr_of}
use Rattle.gm_desugar.specs.Literals.{with_literals}
use Rattle.gm_desugar.proofs.Partly.{partly-more, partly-all}
use Rattle.gm_desugar.proofs.literals.settle_all.Goals as goal

pub loop-i-init : goal.loop-i-init
loop-i-init c = (refl, refl)

pub loop-i-preserved : goal.loop-i-preserved
loop-i-preserved c =
    let at = c.loop-i in
    let here : at.i < length at.values.items = omega (arith, c.len-i-end.ensures) in
    let changed : expr_of c.settle.new.e ≡ with_literals (expr_of (slice_index_or at.values.items at.i c.index_mut.result.now)) = c.settle.ensures ∙ ap (λ e. with_literals (expr_of e)) c.index_mut.ensures.value in
    (length-set at.values.items at.i c.settle.new.e ∙ at.invariant.0, partly-more expr_of with_literals c.args.values.now.items at.values.items at.i c.index_mut.result.now c.settle.new.e at.invariant.1 here changed)

pub returns : goal.returns
returns c =
    let at = c.loop-i in
    let end : length (map expr_of c.args.values.now.items) ≤ at.i = omega (arith, c.len-i-end.ensures, length-map c.args.values.now.items expr_of) in
    at.invariant.1 ∙ partly-all with_literals (map expr_of c.args.values.now.items) at.i end
