use Rattle.std.proofs.Common.{refl}
use Rattle.gm_loops.specs.Sights.{view_of}
use Rattle.gm_columns.specs.declared.cells.Cells.TheVariants.{Nodes}
use Rattle.gm_loops.proofs.Everywhere.{column-iterator}
use Rattle.gm_loops.proofs.sights.Sight.column_of_variable.Goals as goal

pub returns-in_ok-numbered : goal.returns-in_ok-numbered
returns-in_ok-numbered c = λ at.
    column-iterator (view_of c.args.self.now c.args.scope.now c.args.store.now) c.args.iterator c.args.x at c.node_count-nodes.result (Nodes c.in_ok-numbered.field-0) c.in_ok-numbered.field-0.items refl
    c.in_ok-numbered.ensures c.node_count-nodes.ensures.count c.node_count-nodes.ensures.known.few_nodes c.if-x-iterator.true
