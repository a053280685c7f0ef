-- Each node has the zeros of the types.
use Rattle.std.proofs.Common.{◌∙◌, ap}
use Rattle.gm_machine.specs.Fields.{by_node, columns_of}
use Rattle.gm_machine.proofs.FieldRows.{rows-zero}
use Rattle.gm_machine.proofs.fields.Fields.new.Goals as goal

pub returns-clause-rows : goal.returns-clause-rows
returns-clause-rows c =
    ap (λ n. by_node n (columns_of c.in_ok-columns.columns)) c.in_ok-columns.ensures.nodes
    ∙ rows-zero c.args.types.now c.args.nodes (columns_of c.in_ok-columns.columns) c.in_ok-columns.ensures.zero
