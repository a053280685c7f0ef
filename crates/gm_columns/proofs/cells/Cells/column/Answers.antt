-- One more value is pushed.
use Rattle.std.proofs.Common.{sym, ap, ◌∙◌, ◌<◌, take, length, ◌++◌, ◌∷◌, [], List, arith}
use Rattle.std.proofs.lemmas.List.{take_more}
use Rattle.gm_value.specs.declared.values.Value.{Value}
use Rattle.gm_columns.specs.Cells.{values_of}
use Rattle.gm_columns.proofs.cells.Cells.column.Goals as goal

pub loop-node-preserved : goal.loop-node-preserved
loop-node-preserved c =
    let all : List Value = values_of c.args.self.now in
    let within : c.loop-node.node < length all = omega (arith, c.loop-node-test.true, c.len-node-end.ensures) in
    record {
      vtype = c.in_ok-push.ensures.vtype ∙ c.loop-node.invariant.vtype;
      values =
          c.in_ok-push.ensures.added
          ∙ ap (λ values. values ++ c.get-value.result ∷ []) c.loop-node.invariant.values
          ∙ ap (λ v. take c.loop-node.node all ++ v ∷ []) (c.get-value.ensures c.get-value.result)
          ∙ sym (take_more all c.loop-node.node c.get-value.result within);
    }
