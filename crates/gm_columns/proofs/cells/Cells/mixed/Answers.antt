use Rattle.std.proofs.Common.{sym, ap, ◌∙◌, ◌<◌, take, length, ◌++◌, ◌∷◌, [], arith}
use Rattle.std.proofs.lemmas.List.{take_more}
use Rattle.gm_columns.specs.Cells.{values_of}
use Rattle.gm_columns.proofs.cells.Cells.mixed.Goals as goal

pub loop-node-preserved : goal.loop-node-preserved
loop-node-preserved c =
    let all = values_of c.args.self.now in
    let at = c.loop-node.node in
    let within : at < length all = omega (arith, c.loop-node-test.true, c.len-node-end.ensures) in
    c.in_ok-push.ensures.items
    ∙ ap (λ values. values ++ c.get.result ∷ []) c.loop-node.invariant
    ∙ ap (λ v. take at all ++ v ∷ []) (c.get.ensures c.get.result)
    ∙ sym (take_more all at c.get.result within)
