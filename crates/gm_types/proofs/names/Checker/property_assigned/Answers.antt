use Rattle.std.proofs.Common.{◌∙◌, sym}
use Rattle.gm_types.proofs.names.Checker.property_assigned.Goals as goal

pub returns-then-names_graph : goal.returns-then-names_graph
returns-then-names_graph c = rw (sym c.names_graph.ensures ∙ c.if-names_graph.true) c.grouped.ensures

pub returns-else-names_graph : goal.returns-else-names_graph
returns-else-names_graph c = rw (sym c.names_graph.ensures ∙ c.if-names_graph.false) c.assigned.ensures
