use Rattle.gm_loader.proofs.Reading.{some_lines, stands, has_columns}
use Rattle.gm_loader.proofs.loads.consume_graph.Goals as goal

pub make_graph-requires : goal.make_graph-requires
make_graph-requires c =
    some_lines c.args.shape.now c.args.limits.now c.deref.result.now c.in_ok-tables.tables c.requires.few_nodes c.requires.few_edges c.in_ok-tables.ensures.ok

pub returns-clause-graph : goal.returns-clause-graph
returns-clause-graph c =
    rw (← c.deref.ensures.value) (stands c.args.shape.now c.args.limits.now c.deref.result.now c.in_ok-tables.tables c.in_ok-make_graph.field-0 c.in_ok-tables.ensures.ok c.in_ok-make_graph.ensures)

pub returns-clause-columns : goal.returns-clause-columns
returns-clause-columns c =
    has_columns c.args.shape.now c.args.limits.now c.deref.result.now c.in_ok-tables.tables c.in_ok-make_graph.field-0 c.in_ok-tables.ensures.ok c.in_ok-make_graph.ensures
